-- A generation as the code holds it: a number with the name of its kind. The rules' plugins hold the number.
use Rattle.std.specs.Prelude.{ℕ, ◌+◌, ◌≡◌, ◌≢◌, eqb}
use Rattle.std.proofs.Common.{eq-eqb, ne_eqb}
use Rattle.rules_basics.specs.Basics.{pick, last}
use Rattle.rules_types.specs.declared.Generation.{Generation}

abbrev pub generation_of : ℕ → Generation
generation_of n = record { 0 = n }

-- generation + 1; the last one stays
abbrev pub next_generation : Generation → Generation
next_generation g = pick (eqb g.0 last) g (generation_of (g.0 + 1))

pub next_last : (g : Generation) → g.0 ≡ last → g ≡ next_generation g
next_last g e = rw (eq-eqb g.0 last e)

pub next_one : (g : Generation) → g.0 ≢ last → generation_of (g.0 + 1) ≡ next_generation g
next_one g n = rw (ne_eqb g.0 last n)
