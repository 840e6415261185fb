-- `replace` meets its contract: each return is a case of the rule.
use Rattle.std.proofs.Common.{sym, ◌∙◌}
use Rattle.registry_replace.specs.Laws.{told_unknown, told_back, told_replaced}
use Rattle.registry_replace.proofs.replace.Goals as goal

pub returns-in_err-at : goal.returns-in_err-at
returns-in_err-at c = told_unknown _ _ _ _ _ c.from_residual.ensures.1 _ c.find.ensures c.in_err-at.ensures.value

pub returns-in_err-former : goal.returns-in_err-former
returns-in_err-former c =
    let e = sym c.find.ensures ∙ c.in_ok-at.ensures.ok_part in
    told_back _ _ _ _ e _ c.load-life.ensures _ _ c.from_residual-in_err-former.ensures.1 c.in_err-former.ensures.1

pub returns : goal.returns
returns c =
    let e = sym c.find.ensures ∙ c.in_ok-at.ensures.ok_part in
    told_replaced _ _ _ _ e _ c.load-life.ensures _ _ _ c.in_ok-former.ensures.1 c.in_ok-former.ensures.0 c.renew.ensures
