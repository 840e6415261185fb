-- The code's steps are document 01's, and so is its table.
use Rattle.std.specs.Prelude.{◌≡◌, refl, List, [], ◌∷◌, map}
use Rattle.rules_types.specs.declared.Phase.{Phase}
use Rattle.rules_types.specs.declared.Phase.TheVariants.{Idle, Loading, Active, Unloading}
use Rattle.rules.specs.Phases as rules
use Rattle.registry_table.specs.declared.TheConstants.{NEXT}
use Rattle.registry_table.specs.declared.Step.{Step}
use Rattle.registry_table.specs.declared.Step.TheVariants.{Begin, Ready, Fail, Unload, Finish}

abbrev pub ruled : Step → rules.Step
ruled Begin = rules.Begin
ruled Ready = rules.Ready
ruled Fail = rules.Fail
ruled Unload = rules.Unload
ruled Finish = rules.Finish

-- The table, tested once as a whole: a row for each phase, a cell for each step.
abbrev phases : List Phase
phases = Idle ∷ Loading ∷ Active ∷ Unloading ∷ []

abbrev steps : List Step
steps = Begin ∷ Ready ∷ Fail ∷ Unload ∷ Finish ∷ []

pub table_right : NEXT ≡ map (λ p. map (λ s. rules.cell p (ruled s)) steps) phases
table_right = refl
