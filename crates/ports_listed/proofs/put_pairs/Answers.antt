-- `put_pairs` meets its contract. The invariant: out starts with the first rows' numbers, and its rest stays.
use Rattle.std.proofs.Common.{ap, ◌∙◌, List, ℕ, ◌+◌, ◌*◌, arith, set, get_or, length-set}
use Rattle.ports_listed.proofs.Laws.{numbers, two_turns, all}
use Rattle.ports_listed.proofs.put_pairs.Goals as goal

pub bounds-out-row : goal.bounds-out-row
bounds-out-row c = omega (arith, numbers c.args.ports.now)

pub bounds-out-row-in-loop-row : goal.bounds-out-row-in-loop-row
bounds-out-row-in-loop-row c = simp length-set (omega (arith, numbers c.args.ports.now))

pub loop-row-preserved : goal.loop-row-preserved
loop-row-preserved c =
    let ports = c.args.ports.now in
    let out = c.args.out.now in
    let row = c.loop-row.row in
    let e = numbers ports in (
      simp length-set c.loop-row.invariant.0,
      ap (λ (l : List ℕ). set (set l (row * 2) (get_or ports (row * 2) 0)) (row * 2 + 1) (get_or ports (row * 2 + 1) 0)) c.loop-row.invariant.1
          ∙ two_turns ports out row (omega arith) (omega arith),
    )

pub returns : goal.returns
returns c = c.loop-row.invariant.1 ∙ all c.args.ports.now c.args.out.now (c.loop-row.row * 2) (omega arith)
