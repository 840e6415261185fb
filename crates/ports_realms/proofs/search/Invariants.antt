-- From what is left, with the comparisons made so far, the search ends as from the whole list.
use Rattle.std.proofs.Common.{◌/◌, ◌≡◌}
use Rattle.ports_realms.proofs.Interval.{Searching}
use Rattle.ports_realms.proofs.search.Given as goal

abbrev pub invariant-loop-half : goal.invariant-loop-half
invariant-loop-half l = Searching l.rows l.fallback.key l.at l.left l.comparisons × (l.half ≡ l.left / 2)

abbrev pub decreases-loop-half : goal.decreases-loop-half
decreases-loop-half l = l.left
