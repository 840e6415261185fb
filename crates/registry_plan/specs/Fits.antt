-- No more ids pass a set's checks than there are places.
use Rattle.std.specs.Prelude.{ℕ, zero, suc, ◌+◌, ◌≤◌, ◌≡◌, List, length, Ok}
use Rattle.std.proofs.Common.{arith}
use Rattle.rules.specs.Answers.{verdict}
use Rattle.rules.specs.Holds.{held, count}
use Rattle.rules.specs.Orders.{set_checks}
use Rattle.rules_laws.specs.Laws.Tests.{by_test}
use Rattle.rules_laws.specs.Laws.Verdicts.{passes}
use Rattle.rules_orders.specs.Sets.{set_size}
use Rattle.memory.specs.Layout.{taken}
use Rattle.memory.specs.View.{place_at, places_from, view}

held_short : (n : ℕ) (m : List ℕ) (i : ℕ) → length (held (places_from n m i)) ≤ n
unfolding places_from place_at
held_short zero m i = omega arith
held_short (suc n) m i =
    let r = held_short n m (i + 1) in
    by_test (taken m i) (λ t. rw t (omega arith)) (λ f. rw f (omega arith))

pub set_fits : (m set : List ℕ) → verdict (set_checks (view m) set) ≡ Ok tt → length set ≤ 32
unfolding count view
set_fits m set e = omega (arith, set_size (view m) set (passes (set_checks (view m) set) e), held_short 32 m 0)
