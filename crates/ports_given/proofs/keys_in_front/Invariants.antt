-- The ports before row n are declarable, and their keys are kept.
use Rattle.rules.specs.Ports.{pairs}
use Rattle.ports_realms.specs.Halving.{reached_with}
use Rattle.ports_given.specs.Given.{Front}
use Rattle.ports_given.proofs.keys_in_front.Given as goal

abbrev pub invariant-loop-n : goal.invariant-loop-n
invariant-loop-n l = Front (reached_with l.other l.rows) (pairs l.list) l.n l.keys
