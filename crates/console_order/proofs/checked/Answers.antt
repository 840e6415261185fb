-- `checked` meets its contract: the arrays' fronts are set and order.
use Rattle.console_words.specs.Fronts.{front_is}
use Rattle.console_order.specs.Checks.{sets_in}
use Rattle.console_order.proofs.Laws.{checks, same}
use Rattle.console_order.proofs.checked.Goals as goal

pub returns : goal.returns
returns c =
    let x = c.args in
    let f = c.in-Some.ensures in
    same x.m.now x.out.now _ _ _ _ (checks (sets_in x.bytes.now x.from) f.lists f.is _ _ (front_is f.lists.set _ _ _ f.set)
    (front_is f.lists.order _ _ _ f.order)) c.vaskelbi_check_order.ensures
