-- The first numbers of the array stand ahead of the rest of the run.
use Rattle.std.proofs.Common.{◌≡◌, sym, ◌∙◌, take, arith}
use Rattle.console_words.proofs.Runs.{run_stop, run_next, run_full, gathered, stored}
use Rattle.console_words.proofs.numbers.Goals as goal

pub returns-in_default : goal.returns-in_default
returns-in_default c =
    let w = c.next_word-word in
    let l = c.loop-count in
    gathered c.args.line.now c.args.out.now l.out c.args.from l.count (omega arith) l.invariant.0 l.invariant.1 w.result.start
    (l.invariant.2 ∙ run_stop c.args.line.now (take l.count l.out) l.at l.count w.result w.ensures.word (omega arith)
    (sym c.in_default.ensures))

pub loop-count-preserved : goal.loop-count-preserved
loop-count-preserved c =
    let w = c.next_word-word in
    let l = c.loop-count in
    let n = c.in-Some.n in
    let p = stored c.args.line.now c.args.out.now l.out c.args.from l.count (omega arith) l.invariant.0 l.invariant.1 n (omega arith) in
    let e = sym c.in-Some.ensures in (
      p.0,
      p.1,
      l.invariant.2 ∙ run_next c.args.line.now (take l.count l.out) l.at l.count w.result w.ensures.word
          (omega arith) n e ∙ rw p.2,
    )

pub returns : goal.returns
returns c =
    let l = c.loop-count in
    let e : l.count ≡ 2048 = omega arith in
    rw e at (gathered c.args.line.now c.args.out.now l.out c.args.from l.count (omega arith) l.invariant.0 l.invariant.1 l.at
    (l.invariant.2 ∙ run_full c.args.line.now (take l.count l.out) l.at l.count (omega arith)))
