-- Of the engine's words: what a start order that passes is for.
use Rattle.std.specs.Prelude.{ℕ, ◌≡◌, true, List, [], ◌∷◌, ◌++◌, ◌≢◌}
use Rattle.std.proofs.Math.Path.{subst⁻¹}
use Rattle.rules_types.specs.declared.Port.{Port}
use Rattle.rules.specs.Holds.{lookup}
use Rattle.rules.specs.Refusals.{number, Unavailable}
use Rattle.rules.specs.Outcomes.{Refused}
use Rattle.rules.specs.Steps.{Op, Begin, Run, answer_to}
use Rattle.rules.specs.Orders.{named, passes, set_checks}
use Rattle.rules_laws.specs.Laws.Tests.{Passed}
use Rattle.rules_orders.specs.Histories.{active, is_up}
use Rattle.rules_orders.specs.Checked.{yes_passes}
use Rattle.rules_orders.proofs.Started.{up_is_active, never_14}
use Rattle.rules_orders.specs.OneStart.{smooth}
use Rattle.rules_orders.specs.Startup.{start_all}
use Rattle.rules_orders.proofs.Startup.{starts}
use Rattle.memory.specs.View.{view}
use Rattle.demands.specs.Demand2.{Made}
use Rattle.demands.proofs.Demand2.{made_sound}
use Rattle.demands.specs.Demand3.{night}
use Rattle.demands.proofs.Demand3.{same_run}
use Rattle.demands.specs.Orders.{SaysYes}

module _ (m : List ℕ) (w : Made m) where
  -- A plugin is Active exactly if it is by the history.
  pub up_is_active_words : (ops : List Op) (x : ℕ) → active (lookup (view (night m ops).words) x) ≡ is_up (view m) x (night m ops).events
  up_is_active_words ops x =
      let s = made_sound m w in
      subst⁻¹ (λ (n : Run). active (lookup n.registry x) ≡ is_up (view m) x n.events) (same_run m s ops) (up_is_active (view m) s.built ops x)

  -- Beginning the plugins of a passing order one after the other, each once those before it are ready, is never refused 14.
  pub never_14_words : (set order : List ℕ) → passes (view m) set order ≡ true
      → (ops : List Op) (before : List ℕ) (x : ℕ) (rest : List ℕ) → order ≡ before ++ x ∷ rest
      → ((y : ℕ) → is_up (view m) y [] ≡ true → is_up (view m) y (night m ops).events ≡ true)
      → ((y : ℕ) → named y before ≡ true → is_up (view m) y (night m ops).events ≡ true)
      → answer_to (view (night m ops).words) (Begin x) ≢ Refused (number Unavailable) []
  never_14_words set order h ops before x rest e =
      let s = made_sound m w in
      subst⁻¹
      (λ (n : Run). ((y : ℕ) → is_up (view m) y [] ≡ true → is_up (view m) y n.events ≡ true)
      → ((y : ℕ) → named y before ≡ true → is_up (view m) y n.events ≡ true) → answer_to n.registry (Begin x) ≢ Refused (number Unavailable) [])
      (same_run m s ops) (never_14 (view m) s.built set order h ops before x rest e)

  -- The order can be carried out, with any argument and any values: every operation is accepted, and then each of the set is Active.
  pub starts_words : (set order : List ℕ) → Passed (set_checks (view m) set) → passes (view m) set order ≡ true → (a : ℕ) (v : Port → ℕ)
      → (smooth (night m (start_all (view m) a v order)).events ≡ true)
      × ((x : ℕ) → named x set ≡ true → is_up (view m) x (night m (start_all (view m) a v order)).events ≡ true)
  starts_words set order c h a v =
      let s = made_sound m w in
      subst⁻¹ (λ (n : Run). (smooth n.events ≡ true) × ((x : ℕ) → named x set ≡ true → is_up (view m) x n.events ≡ true))
      (same_run m s (start_all (view m) a v order)) (starts (view m) s.built set order c h a v)

  -- Both from the engine's own answer: where its checker answered yes, the set passes its checks and the order passes.
  module _ (set order : List ℕ) (c : SaysYes m set order) where
    pub checked_never_14 : (ops : List Op) (before : List ℕ) (x : ℕ) (rest : List ℕ) → order ≡ before ++ x ∷ rest
        → ((y : ℕ) → is_up (view m) y [] ≡ true → is_up (view m) y (night m ops).events ≡ true)
        → ((y : ℕ) → named y before ≡ true → is_up (view m) y (night m ops).events ≡ true)
        → answer_to (view (night m ops).words) (Begin x) ≢ Refused (number Unavailable) []
    checked_never_14 = never_14_words set order (yes_passes (view m) set order c).1

    pub checked_starts : (a : ℕ) (v : Port → ℕ)
        → (smooth (night m (start_all (view m) a v order)).events ≡ true)
        × ((x : ℕ) → named x set ≡ true → is_up (view m) x (night m (start_all (view m) a v order)).events ≡ true)
    checked_starts = let y = yes_passes (view m) set order c in starts_words set order y.0 y.1
