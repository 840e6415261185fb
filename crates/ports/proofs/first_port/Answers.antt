-- Until the key is found, the first port with it is the first of the rest, counted from i.
use Rattle.std.specs.Prelude.{Some}
use Rattle.std.proofs.Common.{ℕ, ◌+◌, ◌*◌, arith, ◌≡◌, sym, ap, ◌∙◌, List, drop}
use Rattle.rules_types.specs.declared.Port.{Port}
use Rattle.rules.specs.Ports.{pairs}
use Rattle.ports.specs.Answers.{first_from}
use Rattle.ports.specs.Places.{pairs_at, pairs_end, first_hit, first_miss}
use Rattle.ports.proofs.first_port.Goals as goal
use Rattle.ports.proofs.first_port.Goals.{then-ports-i, else-ports-i+then-ports-i-2}

pub loop-i-preserved : goal.loop-i-preserved
loop-i-preserved c =
    let i = c.loop-i.i in
    let l = c.args.ports.now in
    let k = c.args.key in
    let e : i * 2 + 2 ≡ (i + 1) * 2 = omega arith in
    c.loop-i.invariant ∙ first_miss (pairs_at l (i * 2) (omega arith)) i k c.if-ports-i-2.false ∙ ap (λ (n : ℕ). first_from (i + 1) k (pairs (drop n l))) e

pub returns-then-at-ports : goal.returns-then-at-ports
returns-then-at-ports c =
    let i = c.loop-i.i in
    let l = c.args.ports.now in
    elim c.if-ports-i.branch [
      | then-ports-i w ↦ absurd (omega arith)
      | else-ports-i+then-ports-i-2 w ↦
          ap Some w.at-is ∙ sym (c.loop-i.invariant ∙ first_hit (pairs_at l (i * 2) (omega arith)) i c.args.key w.if-ports-i-2.true)
    ]

pub returns-else-at-ports : goal.returns-else-at-ports
unfolding first_from
returns-else-at-ports c =
    let i = c.loop-i.i in
    let l = c.args.ports.now in
    elim c.if-ports-i.branch [
      | then-ports-i w ↦
          sym (c.loop-i.invariant ∙ ap (λ (ps : List Port). first_from i c.args.key ps) (pairs_end l (i * 2) (omega arith)))
      | else-ports-i+then-ports-i-2 w ↦ absurd (omega arith)
    ]
