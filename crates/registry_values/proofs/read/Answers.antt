-- `read` meets its contract: each return is a case of the rule.
use Rattle.registry_values.specs.Questions.{read_none, read_closed, read_undeclared, read_nobody, read_given}
use Rattle.registry_values.proofs.read.Goals as goal

pub returns-in_err-at : goal.returns-in_err-at
returns-in_err-at c = read_none _ _ _ _ _ c.from_residual.ensures.1 c.in_err-at.ensures _

pub returns-then-not-is_running : goal.returns-then-not-is_running
returns-then-not-is_running c =
    read_closed _ _ _ c.in_ok-at.ensures _ _ c.load.ensures _ c.is_running.ensures c.if-not-is_running.true

pub returns-then-not-has_port : goal.returns-then-not-has_port
returns-then-not-has_port c =
    read_undeclared _ _ _ c.in_ok-at.ensures _ _ c.load.ensures _ c.is_running.ensures c.if-not-is_running.false
    _ c.dependency_words.ensures _ c.has_port.ensures c.if-not-has_port.true

pub returns-in_err-from : goal.returns-in_err-from
returns-in_err-from c =
    read_nobody _ _ _ c.in_ok-at.ensures _ _ c.load.ensures _ c.is_running.ensures c.if-not-is_running.false
    _ c.dependency_words.ensures _ c.has_port.ensures c.if-not-has_port.false _ c.provider.ensures
    _ _ _ c.from_residual-in_err-from.ensures.1 c.in_err-from.ensures.value

pub returns : goal.returns
returns c =
    read_given _ _ _ c.in_ok-at.ensures _ _ c.load.ensures _ c.is_running.ensures c.if-not-is_running.false
    _ c.dependency_words.ensures _ c.has_port.ensures c.if-not-has_port.false _ c.provider.ensures _ c.in_ok-from.ensures.ok_part _ c.given.ensures
