-- What laying the provisions that are left comes to, laying all of them comes to.
use Rattle.std.proofs.Common.{ℕ, ◌%◌, ◌≤◌, ◌≡◌, List, length}
use Rattle.memory.specs.Layout.{places}
use Rattle.rules.specs.Basics.{last}
use Rattle.text_lines.specs.Laid.{Laid}
use Rattle.text_block.specs.Laws.{provs_from}
use Rattle.text_block.proofs.provision_lines.Given as goal

abbrev pub invariant-loop-j : goal.invariant-loop-j
invariant-loop-j l =
    (l.behind ≤ last)
    × (length l.text ≡ length l.initial.text)
    × ((v : List ℕ) (r : ℕ) → Laid (provs_from l.m (l.place % places) l.j l.words) l.behind l.text v r → Laid (provs_from l.m (l.place % places) 0 l.words) l.initial.behind l.initial.text v r)
