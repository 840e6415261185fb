-- `generation` meets its contract.
use Rattle.std.proofs.Common.{refl, [], ◌∷◌}
use Rattle.rules.specs.Queries.{Generation}
use Rattle.registry_queries.proofs.Laws.{no_life, life_answer}
use Rattle.registry_queries.proofs.generation.Goals as goal

pub returns-in_err-life : goal.returns-in_err-life
returns-in_err-life c = no_life _ _ _ _ _ c.from_residual.ensures.1 c.in_err-life.ensures Generation

pub returns : goal.returns
returns c = life_answer _ _ _ c.in_ok-life.ensures Generation (λ l. l.generation.0 ∷ []) (λ p. refl)
