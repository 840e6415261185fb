-- The first numbers of the array stand ahead of the rest of the run.
use Rattle.std.proofs.Common.{◌-◌, ◌≡◌, length, take, drop}
use Rattle.console_words.specs.Runs.{run_from}
use Rattle.console_words.proofs.Runs.{ahead}
use Rattle.console_words.proofs.numbers.Given as goal

abbrev pub invariant-loop-count : goal.invariant-loop-count
invariant-loop-count l =
    (length l.out ≡ 2048) × (drop l.count l.out ≡ drop l.count l.initial.out)
    × (run_from 2048 l.line l.from ≡ ahead (take l.count l.out) (run_from (2048 - l.count) l.line l.at))
