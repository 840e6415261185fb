-- What admission and call ask of a found plugin's life.
use Rattle.std.specs.Prelude.{ℕ, Bool, ◌&&◌, eqb, Result}
use Rattle.rules.specs.Holds.{is_loading}
use Rattle.rules.specs.Refusals.{Refusal}
use Rattle.rules.specs.Answers.{verdict}
use Rattle.rules.specs.Admission as rules
use Rattle.rules.specs.Admission.{is_unissued, is_queued, admission_checks}
use Rattle.memory.specs.declared.Life.{Life}
use Rattle.registry_live.specs.declared.Invocation.{Invocation}

-- Loading, and of this generation
abbrev pub is_current : Life → ℕ → Bool
is_current l g = is_loading l.phase && eqb l.generation.0 g

-- the first refusal of the rule's checks, if one refuses
abbrev pub verdict_of : Life → ℕ → Result Unit Refusal
verdict_of l g = verdict (admission_checks l.retired (is_loading l.phase) (eqb l.generation.0 g) (is_unissued l.root))

-- the rules' invocation
abbrev pub invocation_of : Invocation → rules.Invocation
invocation_of t = record { domain = t.domain; id = t.id; generation = t.generation; revision = t.revision; argument = t.argument }

-- the rule's `is_live`, of a life
abbrev pub live_of : Life → rules.Invocation → Bool
live_of l t =
    is_loading l.phase && is_queued l.root t.revision t.argument && eqb l.generation.0 t.generation && eqb l.revision t.revision
