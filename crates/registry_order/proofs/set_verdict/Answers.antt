-- `set_verdict` meets its contract: the ids so far pass, and are those found at the places seen.
use Rattle.std.proofs.Common.{arith, refl, sym, ◌∙◌, take}
use Rattle.std.proofs.lemmas.Result.{err_from_is_err_and}
use Rattle.memory.specs.Known.{at_below}
use Rattle.registry_order.proofs.Laws.{set_end, set_refused, set_next}
use Rattle.registry_order.proofs.Seen.{seen_none, seen_verdict, seen_more, passed_found}
use Rattle.registry_order.proofs.set_verdict.Goals as goal

pub loop-id-init : goal.loop-id-init
loop-id-init c = (seen_none _, refl)

pub returns-in_err-at : goal.returns-in_err-at
returns-in_err-at c =
    let at = c.loop-id in
    let p = err_from_is_err_and c.from_residual.result c.from_residual.ensures.1 in
    let v = seen_verdict _ (take at.id-index c.args.set.now) _ _ at.invariant.0 _ c.in_err-at.ensures in
    rw (p.1, p.2) (sym (at.invariant.1 ∙ set_refused _ c.args.set.now at.id-index c.loop-id-test.true _ v))

pub overflow_cast-seen : goal.overflow_cast-seen
overflow_cast-seen c = record { fits = omega (arith, at_below _ _ _ (passed_found _ _ _ _ (sym c.in_ok-at.ensures))) }

pub overflow_shl-seen : goal.overflow_shl-seen
overflow_shl-seen c = at_below _ _ _ (passed_found _ _ _ _ (sym c.in_ok-at.ensures))

pub loop-id-preserved : goal.loop-id-preserved
loop-id-preserved c =
    let at = c.loop-id in
    let h = c.loop-id-test.true in
    let v = seen_verdict _ (take at.id-index c.args.set.now) _ _ at.invariant.0 _ c.in_ok-at.ensures in (
      seen_more _ c.args.set.now at.id-index _ at.invariant.0 h _ (sym c.in_ok-at.ensures) _ refl,
      at.invariant.1 ∙ set_next _ c.args.set.now at.id-index h v,
    )

pub returns : goal.returns
returns c = sym (c.loop-id.invariant.1 ∙ set_end _ c.args.set.now c.loop-id.id-index c.loop-id-test.false)
