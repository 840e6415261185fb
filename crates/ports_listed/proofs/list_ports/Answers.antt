-- `list_ports` meets its contract. Assumes nothing.
use Rattle.std.proofs.Common.{refl, ◌≤◌, arith, length}
use Rattle.rules.specs.Outcomes.{lent_after}
use Rattle.rules.specs.Ports.{pairs, flat}
use Rattle.rules_laws.specs.Laws.Pairs.{length_pairs}
use Rattle.ports_listed.proofs.Laws.{numbers, whole, past, short, fits}
use Rattle.ports_listed.proofs.list_ports.Goals as goal

pub returns-then-buffer-place : goal.returns-then-buffer-place
unfolding lent_after
returns-then-buffer-place c = rw (past (pairs c.args.ports.now) c.args.place c.args.buffer.now (omega arith)) (refl, refl)

pub returns-then-buffer-place-2 : goal.returns-then-buffer-place-2
unfolding lent_after
returns-then-buffer-place-2 c =
    let ps = pairs c.args.ports.now in
    let n = length_pairs c.args.ports.now in
    rw (short ps c.args.place c.args.buffer.now (omega arith)) (refl, refl)

pub put_pairs-requires : goal.put_pairs-requires
put_pairs-requires c = omega (arith, numbers c.args.ports.now)

pub returns : goal.returns
unfolding lent_after
returns c =
    let l = c.args.ports.now in
    let p = c.args.place in
    let b = c.args.buffer.now in
    let n = length_pairs l in
    let w = c.put_pairs in
    let h : p ≤ length b = omega arith in
    rw (fits (pairs l) p b h (omega arith), n) (refl, whole b (flat (pairs l)) w.new.out p h w.ensures)
