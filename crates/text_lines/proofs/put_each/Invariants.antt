-- What is laid behind the bytes so far is laid as all of them from the start.
use Rattle.std.proofs.Common.{ℕ, ◌≤◌, ◌≡◌, List, length, drop}
use Rattle.rules.specs.Basics.{last}
use Rattle.text_lines.specs.Laid.{Laid}
use Rattle.text_lines.proofs.put_each.Given as goal

abbrev pub invariant-loop-byte : goal.invariant-loop-byte
invariant-loop-byte l =
    (l.place ≤ last) × (length l.text ≡ length l.initial.text) × ((v : List ℕ) (r : ℕ) → Laid (drop l.byte-index l.bytes) l.place l.text v r → Laid l.bytes l.at l.initial.text v r)
