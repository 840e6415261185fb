-- What was read is fed and said, and what is said is written.
use Rattle.std.proofs.Common.{◌≡◌, ◌-◌, false, ◌⊎◌, inl, inr, arith}
use Rattle.replay.specs.Fed.{kept_of}
use Rattle.replay.proofs.Sayings.{goes, goes_on, answers}
use Rattle.replay.proofs.input.run.Goals as goal
use Rattle.replay.proofs.input.run.Goals.{then-loop-turns-test+else-more, else-loop-turns-test}

pub loop-turns-init : goal.loop-turns-init
loop-turns-init g c =
    goes g.R.Read.remaining g.W.Write.contents c.args.input.now c.args.output.now _ c.begun-replay.ensures

pub loop-turns-preserved : goal.loop-turns-preserved
loop-turns-preserved g c =
    let l = c.loop-turns in
    let f = c.feed_some.new in
    goes_on g.R.Read.remaining g.W.Write.contents c.args.input.now l.input f.input c.args.output.now l.output f.output
    (kept_of l.replay) (kept_of f.self)
    l.more c.in_ok-more.more l.turns (l.turns - 1) l.invariant c.if-more.true (omega (arith, c.loop-turns-test.true)) c.in_ok-more.ensures

pub returns : goal.returns
returns g c =
    let l = c.loop-turns in
    let exit : (l.more ≡ false) ⊎ (l.turns ≡ 0) = elim c.loop-turns-test.branch [
      | then-loop-turns-test+else-more w ↦ inl w.if-more.false
      | else-loop-turns-test w ↦ inr (omega (arith, w.loop-turns-test.false))
    ] in
    answers g.R.Read.remaining g.W.Write.contents c.args.input.now l.input c.args.output.now l.output _
    (kept_of l.replay) l.more l.turns l.invariant exit c.finished.ensures.says
