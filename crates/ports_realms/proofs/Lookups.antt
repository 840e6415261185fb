-- A key looked up in a lent list: what the checks refuse, and what it resolves to behind them.
use Prim.Native.Nat.{ℕ}
use mathlib.Core.Path.{◌≡◌, sym, ap, ◌∙◌}
use mathlib.Core.Bool.{false}
use mathlib.Core.List.{List, [], ◌∷◌}
use lib.ListN.{drop}
use Rattle.rules_types.specs.declared.Port.{Port}
use Rattle.std.specs.Prelude.{Result, Ok, Err, IsErrAnd}
use Rattle.std.proofs.lemmas.Result.{err_from_is_err_and}
use Rattle.rules.specs.Refusals.{Refusal}
use Rattle.rules.specs.Holds.{port}
use Rattle.rules.specs.Answers.{verdict}
use Rattle.rules.specs.Outcomes.{Accepted, answer_of}
use Rattle.rules.specs.Ports.{pairs, flat, bad_realms, realm_list, realms_of, realm_checks, resolve_in, resolve, resolve_key}
use Rattle.rules_laws.specs.Laws.Verdicts.{passes, checked_pass, checked_refuses, refused_answer}
use Rattle.ports_realms.specs.Answers.{resolved_answer}
use Rattle.ports_realms.specs.Rows.{resolve_with}
use Rattle.ports_realms.specs.Halving.{reached}
use Rattle.ports_realms.proofs.Reached.{good_reached}

module _ (l : List ℕ) (k : ℕ) where
  pub lookup_refused : (r : Result Port Refusal) (x : Refusal) → IsErrAnd r (λ y. y ≡ x) → Err x ≡ verdict (realm_checks l)
      → resolved_answer r ≡ answer_of (resolve_key l k)
  unfolding resolve_key
  lookup_refused r x h e =
      let p = err_from_is_err_and r h in
      rw (p.1, p.2) (sym (refused_answer _ x (checked_refuses (realm_checks l) _ x (sym e))))

  module _ (e : Ok tt ≡ verdict (realm_checks l)) (absent : ℕ) (a : absent ≡ (realms_of l).other) (rows : List ℕ) (b : rows ≡ drop 2 l)
      (p : Port) (c : p ≡ port k absent) (q : Port) (f : q ≡ resolve_in p.realm (reached (pairs rows)) p.key) where
    good : bad_realms (drop 2 l) ≡ false
    good = (passes (realm_checks l) (sym e)).1.0

    port_is : q ≡ resolve (realms_of l) k
    unfolding resolve realm_list
    port_is =
        resolve_with (reached (pairs rows)) q p k absent f c
        ∙ (λ i. resolve_in (a i) (reached (pairs (b i))) k)
        ∙ ap (λ ps. resolve_in (realms_of l).other ps k) (good_reached (drop 2 l) good)

    pub lookup_found : Accepted (flat (q ∷ [])) ≡ answer_of (resolve_key l k)
    unfolding resolve_key
    lookup_found = ap (λ (x : Port). Accepted (flat (x ∷ []))) port_is ∙ sym (ap answer_of (checked_pass (realm_checks l) _ (sym e)))
