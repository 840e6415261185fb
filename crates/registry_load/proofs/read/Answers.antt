-- The header, then the plugins, one behind the other; what is left is asked of the words.
use Rattle.std.proofs.Common.{arith, sym, ap, ◌∙◌}
use Rattle.memory.specs.Writes.{opened_with}
use Rattle.registry_load.specs.Plugins.{many_unfit, order_unfit, plugins_unfit, plugins_all}
use Rattle.registry_load.specs.Whole.{bad, header_torn, header_within, plugins_refused, too_long, unfit, accepted}
use Rattle.registry_load.proofs.read.Goals as goal

pub returns-in_err-h : goal.returns-in_err-h
returns-in_err-h c = rw c.from_residual.ensures (bad _ (header_torn c.args.text.now c.in_err-h.ensures))

pub returns-then-h : goal.returns-then-h
returns-then-h c =
    let t = c.args.text.now in
    let x = c.in_ok-h.ensures in
    bad _ (plugins_refused t _ x (many_unfit t _ c.in_ok-h.h.count _ _ (header_within t _ x) (omega (arith, c.if-h.true))))

pub returns-then-h-2 : goal.returns-then-h-2
returns-then-h-2 c =
    let t = c.args.text.now in
    let x = c.in_ok-h.ensures in
    bad _ (plugins_refused t _ x (order_unfit t _ c.in_ok-h.h.count _ _ (omega (arith, c.if-h-2.true))))

pub plugins-requires : goal.plugins-requires
plugins-requires c =
    let a = c.args in
    let t = a.text.now in
    let o = c.in_ok-h.h in
    record {
      opened = c.open_words.ensures ∙ ap (λ w. opened_with w a.domain o.first o.next) c.requires;
      in_text = (header_within t _ c.in_ok-h.ensures, omega (arith, c.if-h.false), omega (arith, c.if-h-2.false));
    }

pub returns-in_err-end : goal.returns-in_err-end
returns-in_err-end c =
    rw c.from_residual-in_err-end.ensures (bad _ (plugins_refused c.args.text.now _ c.in_ok-h.ensures (plugins_unfit c.in_err-end.ensures)))

pub returns-then-more : goal.returns-then-more
returns-then-more c =
    let a = c.args in
    let t = a.text.now in
    let x = c.in_ok-h.ensures in
    let g = plugins_all c.in_ok-end.ensures in
    bad _ (too_long t _ x a.domain g.2 (omega (arith, c.if-h.false)) (omega (arith, c.if-more.true)))

pub returns-then-not-all_hold : goal.returns-then-not-all_hold
returns-then-not-all_hold c =
    let a = c.args in
    let t = a.text.now in
    let x = c.in_ok-h.ensures in
    let g = plugins_all c.in_ok-end.ensures in
    bad _ (unfit t _ x a.domain g.2 (omega (arith, c.if-h.false)) (omega (arith, g.2.reads.fits, c.if-more.false))
    (sym c.all_hold.ensures ∙ c.if-not-all_hold.true))

pub returns : goal.returns
returns c =
    let a = c.args in
    let t = a.text.now in
    let x = c.in_ok-h.ensures in
    let g = plugins_all c.in_ok-end.ensures in
    accepted t _ x a.domain g.2 (omega (arith, c.if-h.false)) (omega (arith, g.2.reads.fits, c.if-more.false))
    (sym c.all_hold.ensures ∙ c.if-not-all_hold.false)
