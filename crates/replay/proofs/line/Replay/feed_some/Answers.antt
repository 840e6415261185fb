-- A read of no bytes feeds none.
use Rattle.std.proofs.Common.{arith}
use Rattle.replay.specs.Fed.{kept_of}
use Rattle.replay.proofs.Sayings.{feeds_none}
use Rattle.replay.proofs.line.Replay.feed_some.Goals as goal

pub returns-then-n-eq0 : goal.returns-then-n-eq0
returns-then-n-eq0 g c =
    let x = c.args in
    let n = c.if-n-eq0.true in
    let (read, end) = c.in_ok-n.ensures.bytes in
    feeds_none g.R.Read.remaining g.W.Write.contents x.input.now c.read.new.self x.output.now
    (kept_of x.self.now) c.in_ok-n.n c.read.new.buf n read (end n (omega (arith, c.read.auto.buf)))
