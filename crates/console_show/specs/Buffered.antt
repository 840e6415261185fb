-- A part of the buffer.
use Rattle.std.specs.Prelude.{ℕ, ◌-◌, List, take, drop}

-- The numbers from one place up to but without another; none if that is not above the first.
abbrev pub between : ℕ → ℕ → List ℕ → List ℕ
between from to l = take (to - from) (drop from l)
