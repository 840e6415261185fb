-- Some plugins have joined; the next block is read where they end.
use Rattle.registry_load.specs.Plugins.{PluginsSoFar}
use Rattle.registry_load.proofs.plugins.Given as goal

abbrev pub invariant-loop-k : goal.invariant-loop-k
invariant-loop-k l = PluginsSoFar l.text l.at l.domain l.first l.next l.w l.so_far.next l.so_far.rows l.so_far.from l.k
