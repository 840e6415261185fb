-- `key_word` meets its contract: from the last row to the first.
use Rattle.std.proofs.Common.{◌+◌, ◌-◌, ◌*◌, ◌/◌, arith, ◌≡◌, refl, ◌∙◌, length}
use Rattle.rules_laws.specs.Laws.Pairs.{pairs_before}
use Rattle.ports_bits.specs.Keys.{word_none, word_next}
use Rattle.ports_bits.proofs.key_word.Goals as goal

pub loop-row-init : goal.loop-row-init
loop-row-init c =
    let a = c.args in
    let l = a.ports.now in
    word_none a.word l (length l / 2) (omega arith)

pub loop-row-preserved : goal.loop-row-preserved
loop-row-preserved c =
    let l = c.args.ports.now in
    let row = c.loop-row.row in
    let s = pairs_before l row ((row - 1) * 2) ((row - 1) * 2 + 1) (omega arith) refl (omega arith) in
    c.with_bit-bits.ensures ∙ word_next _ l row _ s c.loop-row.invariant

pub returns : goal.returns
returns c =
    let e : c.loop-row.row ≡ 0 = omega arith in
    rw e at c.loop-row.invariant
