-- `still_waiting` meets its contract: the word's bits are those of the places from i on.
use Rattle.std.proofs.Common.{arith}
use Rattle.memory_providers.specs.Words.{made_begin, made_small, made_fits, made_next, made_end}
use Rattle.registry_cycles.proofs.still_waiting.Goals as goal

pub loop-i-init : goal.loop-i-init
loop-i-init c = made_begin _

pub overflow_mul-word : goal.overflow_mul-word
overflow_mul-word c = omega (arith, made_small _ _ _ c.loop-i.invariant c.loop-i-test.true)

pub overflow_add-word : goal.overflow_add-word
overflow_add-word c = record { fits = made_fits _ _ _ c.loop-i.invariant c.loop-i-test.true c.waits.result }

pub loop-i-preserved : goal.loop-i-preserved
loop-i-preserved c = made_next _ _ _ c.loop-i.invariant c.loop-i-test.true _ c.waits.ensures

pub returns : goal.returns
returns c = made_end _ _ _ c.loop-i.invariant c.loop-i-test.false
