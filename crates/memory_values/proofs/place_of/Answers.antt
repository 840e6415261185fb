-- Until the port is found, its place is that of the first in the rest, counted from i.
use Rattle.std.proofs.Common.{ℕ, ◌+◌, ◌*◌, ◌≡◌, sym, ap, ◌∙◌, List, drop, arith}
use Rattle.rules_types.specs.declared.Port.{Port}
use Rattle.rules.specs.Holds.{port}
use Rattle.rules.specs.Ports.{pairs}
use Rattle.ports.specs.Places.{pairs_at, pairs_end}
use Rattle.memory_values.specs.Values.{port_from}
use Rattle.memory_values.proofs.Laws.{port_hit, port_miss}
use Rattle.memory_values.proofs.place_of.Goals as goal
use Rattle.memory_values.proofs.place_of.Goals.{else-list-i-via-then-list-i+else-list-i-2, else-list-i-via-else-list-i}

pub returns-then-list-i-2 : goal.returns-then-list-i-2
returns-then-list-i-2 c =
    let a = c.args in
    let i = c.loop-i.i in
    let s = pairs_at a.list.now (i * 2) (omega arith) in
    sym (c.loop-i.invariant ∙ port_hit s i a.port c.if-list-i.true c.if-list-i-2.true)

pub loop-i-preserved : goal.loop-i-preserved
loop-i-preserved c =
    let a = c.args in
    let i = c.loop-i.i in
    let q = a.port in
    let l = a.list.now in
    let s = pairs_at l (i * 2) (omega arith) in
    let e : i * 2 + 2 ≡ (i + 1) * 2 = omega arith in
    c.loop-i.invariant ∙ port_miss s i q (elim c.else-list-i.branch [ else-list-i-via-then-list-i+else-list-i-2 w ↦ λ e f. w.if-list-i-2.false f | else-list-i-via-else-list-i w ↦ λ e f. w.if-list-i.false e ])
    ∙ ap (λ (n : ℕ). port_from (i + 1) q (pairs (drop n l))) e

pub returns : goal.returns
unfolding port_from
returns c =
    let a = c.args in
    let i = c.loop-i.i in
    sym (c.loop-i.invariant ∙ ap (λ (ps : List Port). port_from i a.port ps) (pairs_end a.list.now (i * 2) (omega arith)))
