-- The ports before row n are declarable, and their keys are kept.
use Rattle.std.proofs.Common.{◌≡◌, arith, inl, inr, sym, ◌∙◌, subst, ltb-true, ltb-false}
use Rattle.std.specs.Prelude.{ltb}
use Rattle.rules.specs.Ports.{pairs}
use Rattle.rules.specs.Limits.{max_dependency_keys}
use Rattle.rules_laws.specs.Laws.Tests.{by_test}
use Rattle.ports.specs.Places.{length_pairs}
use Rattle.ports_realms.specs.Halving.{reached_with}
use Rattle.ports_given.specs.Given.{Front}
use Rattle.ports_given.proofs.Fronts.{unresolved, alike, front_more}
use Rattle.ports_given.proofs.keys_in_front.Goals as goal
use Rattle.ports_given.proofs.keys_in_front.Goals.{then-not-is_resolved-via-then-not-is_resolved, then-not-is_resolved-via-else-not-is_resolved+then-has_number}

pub returns-then-not-is_resolved : goal.returns-then-not-is_resolved
returns-then-not-is_resolved c =
    let f = c.loop-n.invariant in
    elim c.then-not-is_resolved.branch [
      | then-not-is_resolved-via-then-not-is_resolved w ↦ record {
        front = f;
        end = inr (inr (unresolved c.args.list.now f (omega arith) (sym c.is_resolved.ensures ∙ w.if-not-is_resolved.true)));
      }
      | then-not-is_resolved-via-else-not-is_resolved+then-has_number w ↦ record {
        front = f;
        end = inr (inr (alike c.args.list.now f (omega arith) (sym w.has_number.ensures ∙ w.if-has_number.true)));
      }
    ]

pub loop-n-preserved : goal.loop-n-preserved
loop-n-preserved c =
    let e = sym c.is_resolved.ensures ∙ c.if-not-is_resolved.false in
    front_more c.args.list.now c.loop-n.invariant (omega arith) (omega arith) e (sym c.has_number.ensures ∙ c.if-has_number.false)

pub returns : goal.returns
returns c =
    let list = c.args.list.now in
    let n = c.min-most.result in
    let e : c.loop-n.n ≡ n = omega arith in record {
      front = subst (λ m. Front (reached_with c.args.other c.args.rows.now) (pairs list) m c.loop-n.keys) e c.loop-n.invariant;
      end = by_test (ltb n max_dependency_keys)
          (λ t. let l = ltb-true n max_dependency_keys t in inr (inl (omega (arith, length_pairs list))))
          (λ f. let l = ltb-false n max_dependency_keys f in inl (omega arith));
    }
