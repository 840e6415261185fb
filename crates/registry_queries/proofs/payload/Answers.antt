-- `payload` meets its contract.
use Rattle.std.proofs.Common.{refl, [], ◌∷◌}
use Rattle.rules.specs.Queries.{Payload}
use Rattle.registry_queries.proofs.Laws.{no_life, life_answer}
use Rattle.registry_queries.proofs.payload.Goals as goal

pub returns-in_err-life : goal.returns-in_err-life
returns-in_err-life c = no_life _ _ _ _ _ c.from_residual.ensures.1 c.in_err-life.ensures Payload

pub returns : goal.returns
returns c = life_answer _ _ _ c.in_ok-life.ensures Payload (λ l. l.payload ∷ []) (λ p. refl)
