-- What laying the ports that are left comes to, from the place on in the text as it is now, laying all of them comes to.
use Rattle.std.proofs.Common.{ℕ, ◌≤◌, ◌≡◌, List, length}
use Rattle.std.specs.Slice.Iter.{chunks_exact_rest, chunks_exact_size}
use Rattle.rules.specs.Basics.{last}
use Rattle.rules.specs.Ports.{pairs}
use Rattle.text_lines.specs.Laid.{Laid}
use Rattle.text_lines.specs.Lines.{port_lines}
use Rattle.text_lines.proofs.port_lines.Given as goal

abbrev pub invariant-loop-port : goal.invariant-loop-port
invariant-loop-port l =
    (chunks_exact_size l.port-iterator ≡ 2)
    × (l.place ≤ last)
    × (length l.text ≡ length l.initial.text)
    × ((v : List ℕ) (r : ℕ) → Laid (port_lines l.name (pairs (chunks_exact_rest l.port-iterator))) l.place l.text v r
    → Laid (port_lines l.name (pairs l.ports)) l.at l.initial.text v r)
