-- `port_at` meets its contract: a row of the list is its two numbers, and past the end there is the default.
use Rattle.std.proofs.Common.{arith, sym, ◌∙◌}
use lib.ListN.{get_or-eq_default}
use Rattle.rules.specs.Holds.{port}
use Rattle.rules.specs.Ports.{pairs}
use Rattle.ports.specs.Places.{length_pairs, pairs_get}
use Rattle.ports.proofs.port_at.Goals as goal

pub returns-then-row-ports : goal.returns-then-row-ports
returns-then-row-ports c =
    let a = c.args in
    c.new.ensures ∙ sym (pairs_get a.ports.now a.row c.if-row-ports.true)

pub returns-else-row-ports : goal.returns-else-row-ports
returns-else-row-ports c =
    let a = c.args in
    c.new-else-row-ports.ensures
    ∙ sym (get_or-eq_default (pairs a.ports.now) (port 0 0) (omega (arith, length_pairs a.ports.now, c.if-row-ports.false)))
