-- What was kept at the start, fed all bytes, is what is kept now, fed those from the index on; and so with what is said.
use Rattle.std.proofs.Common.{ℕ, ◌+◌, [], ◌++◌, List, refl, sym, ap, ◌∙◌, subst, arith, drop, get_or, append_assoc, append-nil}
use Rattle.replay.specs.Fed.{Kept, kept_of, fed}
use Rattle.replay.specs.Said.{Says, byte_said, said}
use Rattle.replay.proofs.Laws.{fed_next, fed_end}
use Rattle.replay.proofs.Sayings.{says_none, says_both, said_next, said_end}
use Rattle.replay.proofs.line.Replay.feed.Goals as goal

pub loop-byte-init : goal.loop-byte-init
loop-byte-init g c = (refl, [], says_none g.W.Write.contents _, refl)

pub loop-byte-preserved : goal.loop-byte-preserved
loop-byte-preserved g c =
    let part = c.args.part.now in
    let i = c.loop-byte.byte-index in
    let k = kept_of c.loop-byte.self in
    let next = c.next_byte.ensures in
    let (is, x, says, all) = c.loop-byte.invariant in (
      is ∙ fed_next k part i (omega arith) ∙ ap (λ (q : Kept). fed q (drop (i + 1) part)) (sym next.keeps),
      x ++ byte_said k (get_or part i 0),
      says_both g.W.Write.contents _ _ _ _ _ says next.says,
      append_assoc x _ _ ∙ ap (λ (y : List ℕ). x ++ y)
          (ap (λ (q : Kept). byte_said k (get_or part i 0) ++ said q (drop (i + 1) part)) next.keeps ∙ sym (said_next k part i (omega arith))) ∙ all,
    )

pub returns-clause-keeps : goal.returns-clause-keeps
returns-clause-keeps g c =
    let (is, _, _, _) = c.loop-byte.invariant in
    sym (is ∙ fed_end (kept_of c.loop-byte.self) c.args.part.now c.loop-byte.byte-index (omega arith))

pub returns-clause-says : goal.returns-clause-says
returns-clause-says g c =
    let k = kept_of c.loop-byte.self in
    let (_, x, says, all) = c.loop-byte.invariant in
    subst (λ (y : List ℕ). Says g.W.Write.contents c.args.output.now c.loop-byte.output y)
    (sym (append-nil x) ∙ ap (λ (y : List ℕ). x ++ y) (sym (said_end k c.args.part.now c.loop-byte.byte-index (omega arith))) ∙ all) says
