-- `runs` meets its contract: a taken place's plugin has the phase that is loaded, and a free place has none.
use Rattle.std.proofs.Common.{sym, ◌∙◌}
use Rattle.registry_cycles.proofs.Laws.{runs_taken}
use Rattle.registry_cycles.proofs.runs.Goals as goal

pub returns-then-is_taken : goal.returns-then-is_taken
returns-then-is_taken c = runs_taken _ _ _ _ (sym c.is_taken.ensures ∙ c.if-is_taken.true) c.load.ensures c.is_running.ensures
