-- `offer` meets its contract: each return is a case of the rule.
use Rattle.registry_offer.specs.Offers.{offered_none, offered_closed, offered_undeclared, offered_twice, offered_now}
use Rattle.registry_offer.proofs.offer.Goals as goal

pub returns-in_err-at : goal.returns-in_err-at
returns-in_err-at c = offered_none _ _ _ _ _ _ _ c.from_residual.ensures.1 c.in_err-at.ensures

pub returns-then-is_closed : goal.returns-then-is_closed
returns-then-is_closed c =
    offered_closed _ _ _ _ _ c.in_ok-at.ensures _ c.load.ensures _ c.is_closed.ensures c.if-is_closed.true

pub returns-in_err-row : goal.returns-in_err-row
returns-in_err-row c =
    offered_undeclared _ _ _ _ _ c.in_ok-at.ensures _ c.load.ensures _ c.is_closed.ensures c.if-is_closed.false
    _ c.provision_words-list.ensures _ c.place_of.ensures
    _ _ _ c.from_residual-in_err-row.ensures.1 c.in_err-row.ensures.value c.in_err-row.ensures.ok_part

pub returns-then-is_some : goal.returns-then-is_some
returns-then-is_some c =
    offered_twice _ _ _ _ _ c.in_ok-at.ensures _ c.load.ensures _ c.is_closed.ensures c.if-is_closed.false
    _ c.provision_words-list.ensures _ c.place_of.ensures _ c.in_ok-row.ensures.ok_part c.value_at.result c.value_at.ensures _ c.is_some.ensures
    c.if-is_some.true

pub returns : goal.returns
returns c =
    offered_now _ _ _ _ _ c.in_ok-at.ensures _ c.load.ensures _ c.is_closed.ensures c.if-is_closed.false
    _ c.provision_words-list.ensures _ c.place_of.ensures _ c.in_ok-row.ensures.ok_part c.value_at.result c.value_at.ensures _ c.is_some.ensures
    c.if-is_some.false _ c.set_value.ensures
