-- `phase` meets its contract.
use Rattle.std.proofs.Common.{refl, ap, ◌∙◌, [], ◌∷◌}
use Rattle.rules.specs.Outcomes.{Accepted}
use Rattle.rules.specs.Queries.{PhaseOf, phase_number}
use Rattle.registry_queries.proofs.Laws.{no_life, life_answer}
use Rattle.registry_queries.proofs.phase.Goals as goal

pub returns-in_err-life : goal.returns-in_err-life
returns-in_err-life c = no_life _ _ _ _ _ c.from_residual.ensures.1 c.in_err-life.ensures PhaseOf

pub returns : goal.returns
returns c =
    ap (λ n. Accepted (n ∷ [])) c.number.ensures
    ∙ life_answer _ _ _ c.in_ok-life.ensures PhaseOf (λ l. phase_number l.phase ∷ []) (λ p. refl)
