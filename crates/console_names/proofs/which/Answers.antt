-- The word is none of the names before place at, and they are i names.
use Rattle.std.proofs.Common.{sym, ◌∙◌, arith}
use Rattle.console_names.proofs.Names.{past_names, no_name, this_name, other_name, not_before}
use Rattle.console_names.proofs.which.Goals as goal

pub loop-at-init : goal.loop-at-init
loop-at-init c = (omega arith, omega arith, omega arith)

pub returns-then-next : goal.returns-then-next
returns-then-next c =
    let w = c.next_word-next in
    let e = no_name c.args.word.now c.args.names.now c.loop-at.at w.result w.ensures.word (omega arith) in
    omega arith

pub returns-then-is_word : goal.returns-then-is_word
returns-then-is_word c =
    let w = c.next_word-next in
    let e = this_name c.args.word.now c.args.names.now c.loop-at.at w.result w.ensures.word (omega arith) w.ensures.within
    (sym c.is_word.ensures ∙ c.if-is_word.true) in
    omega arith

pub loop-at-smaller : goal.loop-at-smaller
loop-at-smaller c =
    let w = c.next_word-next in
    let e = not_before c.args.names.now c.loop-at.at w.result w.ensures.word (omega arith) in
    omega arith

pub loop-at-preserved : goal.loop-at-preserved
loop-at-preserved c =
    let w = c.next_word-next in
    let e = not_before c.args.names.now c.loop-at.at w.result w.ensures.word (omega arith) in
    let d = other_name c.args.word.now c.args.names.now c.loop-at.at w.result w.ensures.word (omega arith) w.ensures.within
    (sym c.is_word.ensures ∙ c.if-is_word.false) in
    (omega arith, w.ensures.within, omega arith)

pub returns : goal.returns
returns c =
    let e = past_names c.args.word.now c.args.names.now c.loop-at.at (omega arith) in
    omega arith
