-- `root` meets its contract.
use Rattle.std.proofs.Common.{refl}
use Rattle.rules.specs.Queries.{RootOf, root_numbers}
use Rattle.registry_queries.proofs.Laws.{no_life, life_answer}
use Rattle.registry_queries.proofs.root.Goals as goal

pub returns-in_err-life : goal.returns-in_err-life
returns-in_err-life c = no_life _ _ _ _ _ c.from_residual.ensures.1 c.in_err-life.ensures RootOf

pub returns : goal.returns
returns c = life_answer _ _ _ c.in_ok-life.ensures RootOf (λ l. root_numbers l.root) (λ p. refl)
