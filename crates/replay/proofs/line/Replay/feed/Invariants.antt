-- What was kept at the start, fed all bytes, is what is kept now, fed those from the index on; and so with what is said.
use Rattle.std.proofs.Common.{◌≡◌, List, ℕ, ◌++◌, drop}
use Rattle.replay.specs.Fed.{kept_of, fed}
use Rattle.replay.specs.Said.{Says, said}
use Rattle.replay.proofs.line.Replay.feed.Given as goal

abbrev pub invariant-loop-byte : goal.invariant-loop-byte
invariant-loop-byte g l =
    let first = kept_of l.initial.self in
    let k = kept_of l.self in
    (fed first l.part ≡ fed k (drop l.byte-index l.part))
    × (x : List ℕ) × Says g.W.Write.contents l.initial.output l.output x × (x ++ said k (drop l.byte-index l.part) ≡ said first l.part)
