-- `put_front` meets its contract: to store the words from k on over what is stored is to store all.
use Rattle.std.proofs.Common.{arith, refl, sym, ◌∙◌, ◌<◌, length, length-set}
use Rattle.memory_entry.proofs.Laws.{puts_next, puts_full}
use Rattle.memory_entry.proofs.put_front.Goals as goal

pub loop-k-init : goal.loop-k-init
loop-k-init c = (refl, refl)

pub loop-k-preserved : goal.loop-k-preserved
loop-k-preserved c =
    let l = c.loop-k in
    let words = c.args.words.now in
    let near : l.k < length words = omega (arith, c.min-count.ensures) in (
      simp length-set l.invariant.0,
      l.invariant.1 ∙ puts_next l.out words l.k near,
    )

pub returns : goal.returns
returns c =
    let l = c.loop-k in
    let words = c.args.words.now in
    sym (l.invariant.1 ∙ puts_full l.out words l.k (omega (arith, c.min-count.ensures, l.invariant.0)))
