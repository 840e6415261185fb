-- `list_verdict` meets its contract: each return is a check that refuses, and the last is none.
use Rattle.ports_realms.proofs.Lists.{list_26, list_4, list_passes}
use Rattle.ports_realms.proofs.list_verdict.Goals as goal

pub returns-then-bad_edition : goal.returns-then-bad_edition
returns-then-bad_edition c = list_26 c.args.realms.now _ c.bad_edition.ensures c.if-bad_edition.true

pub returns-then-bad_realms : goal.returns-then-bad_realms
returns-then-bad_realms c =
    list_4 c.args.realms.now _ c.bad_edition.ensures c.if-bad_edition.false _ c.rows.ensures
    _ c.bad_realms.ensures c.if-bad_realms.true

pub returns : goal.returns
returns c =
    list_passes c.args.realms.now _ c.bad_edition.ensures c.if-bad_edition.false _ c.rows.ensures
    _ c.bad_realms.ensures c.if-bad_realms.false
