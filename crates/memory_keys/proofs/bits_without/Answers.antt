-- `bits_without` meets its contract: from the last row to the first.
use Rattle.std.proofs.Common.{arith, ◌≡◌}
use Rattle.memory_keys.proofs.Laws.{seen_none, seen_all, seen_there, seen_next}
use Rattle.memory_keys.proofs.bits_without.Goals as goal
use Rattle.memory_keys.proofs.bits_without.Goals.{else-other-port-via-then-other-port+else-ports-row, else-other-port-via-else-other-port}

pub loop-row-init : goal.loop-row-init
loop-row-init c = seen_none _ _ _ _ (omega arith) (omega arith)

pub returns-then-ports-row : goal.returns-then-ports-row
returns-then-ports-row c = seen_there _ _ _ _ _ c.loop-row.invariant (omega arith) c.if-other-port.true c.if-ports-row.true

pub loop-row-preserved : goal.loop-row-preserved
loop-row-preserved c =
    seen_next _ _ _ _ _ c.loop-row.invariant (omega arith) (elim c.else-other-port.branch [ else-other-port-via-then-other-port+else-ports-row w ↦ λ e f. w.if-ports-row.false f | else-other-port-via-else-other-port w ↦ λ e f. w.if-other-port.false e ]) _ c.with_bit-bits.ensures

pub returns : goal.returns
returns c =
    let e : c.loop-row.row ≡ 0 = omega arith in
    seen_all _ _ _ _ (rw e at c.loop-row.invariant)
