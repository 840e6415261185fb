-- The rule on offers, of a found plugin.
use Rattle.std.specs.Prelude.{ℕ, Bool, not, ◌&&◌, List, [], ◌∷◌, map}
use Rattle.rules.specs.Basics.{is_some}
use Rattle.rules.specs.Holds.{Plugin, provided, is_in, is_loading, with_provisions}
use Rattle.rules_types.specs.declared.Port.{Port}
use Rattle.rules.specs.Refusals.{Closed, Undeclared, Duplicate}
use Rattle.rules.specs.Outcomes.{Outcome, stores, Check, ◌⇒◌, checked}
use Rattle.rules.specs.Values.{value_in, offered}

abbrev pub closed : Plugin → Bool
closed p = not (is_loading p.phase && not p.retired)

abbrev pub offer_checks : Port → Plugin → List Check
offer_checks q p =
    (closed p ⇒ Closed) ∷ (not (is_in q (provided p)) ⇒ Undeclared) ∷ (is_some (value_in q p.provisions) ⇒ Duplicate) ∷ []

abbrev pub with_offered : Port → ℕ → Plugin → Plugin
with_offered q v p = with_provisions (map (offered q v) p.provisions) p

abbrev pub offers : Port → ℕ → Plugin → Outcome
offers q v p = checked (offer_checks q p) (stores (with_offered q v p) [])
