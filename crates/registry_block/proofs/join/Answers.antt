-- Torn, unfit, or written to its place: each way out by the tests on the way.
use Rattle.std.proofs.Common.{◌%◌, sym, ◌∙◌}
use Rattle.memory.specs.Layout.{places}
use Rattle.registry_block.specs.Joins.{fits_within, joins_torn, joins_not, joins_so}
use Rattle.registry_block.proofs.join.Goals as goal

pub returns-in_err-behind : goal.returns-in_err-behind
returns-in_err-behind c =
    let a = c.args in
    rw c.from_residual.ensures (joins_torn a.w.now a.b.now a.lists.now (a.place % places) a.rows a.from a.next c.in_err-behind.was)

pub returns-then-not-fits : goal.returns-then-not-fits
returns-then-not-fits c =
    let a = c.args in
    joins_not a.w.now a.b.now a.lists.now (a.place % places) a.rows a.from a.next _ c.in_ok-behind.was
    (sym c.fits.ensures ∙ c.if-not-fits.true)

pub put-requires : goal.put-requires
put-requires c =
    let a = c.args in
    fits_within a.w.now a.b.now a.lists.now (a.place % places) a.rows a.from a.next (sym c.fits.ensures ∙ c.if-not-fits.false)

pub returns : goal.returns
returns c =
    let a = c.args in
    joins_so a.w.now a.b.now a.lists.now (a.place % places) a.rows a.from a.next _ c.in_ok-behind.was
    (sym c.fits.ensures ∙ c.if-not-fits.false) c.put.ensures.0 c.put.ensures.1
