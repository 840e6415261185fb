-- `is_user` meets its contract.
use Rattle.std.proofs.Common.{◌%◌, ◌∙◌}
use Rattle.rules.specs.Ports.{pairs}
use Rattle.memory.specs.Layout.{places}
use Rattle.registry_needs.proofs.Laws.{user_runs, user_rests}
use Rattle.registry_needs.proofs.is_user.Goals as goal

pub returns-then-is_running : goal.returns-then-is_running
returns-then-is_running c =
    let a = c.args in
    user_runs a.m.now (a.user % places) a.bits (pairs a.ports.now) _ c.load.ensures _ c.is_running.ensures
    c.if-is_running.true _ c.dependency_words.ensures _ c.meets.ensures

pub returns-else-is_running : goal.returns-else-is_running
returns-else-is_running c =
    let a = c.args in
    c.if-is_running.false
    ∙ user_rests a.m.now (a.user % places) a.bits (pairs a.ports.now) _ c.load.ensures _ c.is_running.ensures c.if-is_running.false
