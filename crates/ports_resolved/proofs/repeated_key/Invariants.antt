-- No key before place i stands again behind itself.
use Rattle.std.proofs.Common.{◌≡◌, drop}
use Rattle.ports_resolved.specs.Keys.{keys_repeat}
use Rattle.ports_resolved.proofs.repeated_key.Given as goal

abbrev pub invariant-loop-i : goal.invariant-loop-i
invariant-loop-i l = keys_repeat l.keys ≡ keys_repeat (drop l.i l.keys)
