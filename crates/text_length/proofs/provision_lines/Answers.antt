-- The lines counted so far and those that are left are all of them.
use Rattle.std.proofs.Common.{◌%◌, ap, length, arith}
use Rattle.memory.specs.Layout.{places}
use Rattle.memory_values.specs.Firsts.{few_words}
use Rattle.text_length.proofs.Laws.{provisions_start, provisions_next, provisions_end}
use Rattle.text_length.proofs.provision_lines.Goals as goal

pub loop-j-init : goal.loop-j-init
loop-j-init c =
    let w = c.provision_words-words in
    let a = c.args in
    (omega arith, omega (arith, provisions_start a.m.now (a.place % places) w.ensures))

pub overflow_add-total-in-loop-j : goal.overflow_add-total-in-loop-j
overflow_add-total-in-loop-j c =
    let w = c.provision_words-words in
    let a = c.args in
    omega (arith, few_words a.m.now (a.place % places), ap length w.ensures)

pub loop-j-preserved : goal.loop-j-preserved
loop-j-preserved c =
    let l = c.loop-j in
    let w = c.provision_words-words in
    let a = c.args in
    (omega arith, omega (arith, provisions_next a.m.now (a.place % places) l.j w.ensures (omega arith)))

pub returns : goal.returns
returns c =
    let l = c.loop-j in
    let w = c.provision_words-words in
    let a = c.args in (
      omega (arith, provisions_end a.m.now (a.place % places) l.j w.result.now (omega arith)),
      omega (arith, few_words a.m.now (a.place % places), ap length w.ensures),
    )
