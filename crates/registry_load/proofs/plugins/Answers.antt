-- Some plugins have joined; the next block is read where they end.
use Rattle.std.proofs.Common.{arith, ◌≡◌, subst, sym}
use Rattle.registry_load.specs.Plugins.{PluginsSoFar, all, plugins_start, plugins_torn, plugins_next}
use Rattle.registry_load.proofs.plugins.Goals as goal

pub loop-k-init : goal.loop-k-init
loop-k-init c =
    let q = c.requires in
    let a = c.args in
    subst (λ w. PluginsSoFar a.text.now a.at a.domain a.first a.next w a.at 0 a.first 0) (sym q.opened)
    (plugins_start a.text.now a.at a.domain a.first a.next q.in_text.0 q.in_text.2)

pub returns-in_err-so_far : goal.returns-in_err-so_far
returns-in_err-so_far c =
    rw c.from_residual.ensures
    (plugins_torn _ _ _ _ _ c.loop-k.invariant c.args.count (omega arith) c.requires.in_text.1 c.in_err-so_far.ensures c.join.new.w)

pub loop-k-preserved : goal.loop-k-preserved
loop-k-preserved c = plugins_next _ _ _ _ _ c.loop-k.invariant c.args.count (omega arith) c.requires.in_text.1 c.in_ok-so_far.ensures

pub returns : goal.returns
returns c =
    let a = c.args in
    let e : c.loop-k.k ≡ a.count = omega arith in
    let so_far = c.loop-k.so_far in
    all (subst (λ k. PluginsSoFar a.text.now a.at a.domain a.first a.next c.loop-k.w so_far.next so_far.rows so_far.from k) e c.loop-k.invariant)
