-- The keys rise from row - 1 on exactly if they rise in the whole list: the rows before it do.
use Rattle.std.proofs.Common.{◌+◌, ◌-◌, ◌*◌, ◌≤◌, ◌≡◌, arith, not, sym, ap, ◌∙◌, length, get_or, drop, length-drop, lt-ltb, le-ltb}
use Rattle.rules.specs.Ports.{pairs}
use Rattle.ports.specs.Places.{length_pairs}
use Rattle.ports_realms.specs.Rows.{rising_behind, rising_end, bad_odd, bad_long, bad_rising}
use Rattle.ports_realms.proofs.bad_realms.Goals as goal
use Rattle.ports_realms.proofs.bad_realms.Goals.{then-rows-ne0-via-then-rows-ne0, then-rows-ne0-via-else-rows-ne0+then-rows-gt-REALM_NUMBERS}

pub returns-then-rows-ne0 : goal.returns-then-rows-ne0
returns-then-rows-ne0 c = elim c.then-rows-ne0.branch [
  | then-rows-ne0-via-then-rows-ne0 w ↦ sym (bad_odd c.args.rows.now w.if-rows-ne0.true)
  | then-rows-ne0-via-else-rows-ne0+then-rows-gt-REALM_NUMBERS w ↦ sym (bad_long c.args.rows.now w.if-rows-ne0.false w.if-rows-gt-REALM_NUMBERS.true)
]

pub returns-then-rows-row : goal.returns-then-rows-row
returns-then-rows-row c =
    let at = c.loop-row.row * 2 in
    let l = c.args.rows.now in
    let t = le-ltb (get_or l (at - 2) 0) (get_or l at 0) c.if-rows-row.true in
    let r = rw t at (rising_behind l at (omega arith) (omega arith)) in
    sym (bad_rising l c.if-rows-ne0.false (omega arith) ∙ ap not (c.loop-row.invariant.1 ∙ r))

pub loop-row-preserved : goal.loop-row-preserved
loop-row-preserved c =
    let at = c.loop-row.row * 2 in
    let l = c.args.rows.now in
    let t = lt-ltb (get_or l (at - 2) 0) (get_or l at 0) (omega arith) in
    let r = rw t at (rising_behind l at (omega arith) (omega arith)) in
    let next : (c.loop-row.row + 1) * 2 - 2 ≡ at + 2 - 2 = omega arith in
    (omega arith, rw next (c.loop-row.invariant.1 ∙ r))

pub returns : goal.returns
returns c =
    let m = drop (c.loop-row.row * 2 - 2) c.args.rows.now in
    let short : length (pairs m) ≤ 1 = omega (arith, length_pairs m, length-drop (c.loop-row.row * 2 - 2) c.args.rows.now, c.loop-row-test.false) in
    sym (bad_rising c.args.rows.now c.if-rows-ne0.false (omega arith) ∙ ap not (c.loop-row.invariant.1 ∙ rising_end (pairs m) short))
