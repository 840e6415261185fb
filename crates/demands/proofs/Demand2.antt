-- Demand 2: on every memory that an opening or a load, and operations, made, an operation leaves the rules' registry; and what it
-- answers is the rules' answer, which its function promises on any words.
use Rattle.std.specs.Prelude.{ℕ, ◌≡◌, refl, List}
use Rattle.std.proofs.Common.{sym, subst}
use Rattle.rules.specs.Steps.{Op, step, Register, Begin, Ready, Fail, Unload, Finish, Replace, Admit, Call, Retire, RetireChild, Remove, Offer, Ask, Write}
use Rattle.rules_laws.specs.Built.{Built}
use Rattle.rules_laws.specs.Kept.{step_built}
use Rattle.rules_laws.specs.Kept.Reach.{nothing, reach}
use Rattle.rules_laws.specs.Kept.Operations.{asked_same}
use Rattle.memory.specs.View.{view}
use Rattle.memory_rows.specs.Dense.{Refines}
use Rattle.memory_rows.specs.Stored.{life_refines}
use Rattle.registry_remove.specs.Refines.{remove_refines}
use Rattle.registry_register.specs.Refines.{built_fresh, register_refines}
use Rattle.registry_ready_finish.specs.Refines.{finish_refines}
use Rattle.registry_replace.specs.Refines.{replace_refines}
use Rattle.registry_offer.specs.Refines.{offer_refines}
use Rattle.demands.specs.Leaves.{leaves}
use Rattle.demands.specs.Starts.{Sound}
use Rattle.demands.proofs.Starts.{begun_start}
use Rattle.demands.specs.Demand2.{Made, begins, goes_on}

question : (m : List ℕ) → Sound m → (o : Op) → reach o ≡ nothing → Refines m m (step (view m) o)
question m s o e = record { registry = sym (asked_same (view m) o e); dense = s.dense }

-- On any sound words.
pub sound_refines : (m : List ℕ) → Sound m → (o : Op) → Refines m (leaves m o) (step (view m) o)
sound_refines m s (Register c) = register_refines m c s.dense (built_fresh m s.built)
sound_refines m s (Begin id) = life_refines m s.dense (Begin id) refl
sound_refines m s (Ready id) = life_refines m s.dense (Ready id) refl
sound_refines m s (Fail id) = life_refines m s.dense (Fail id) refl
sound_refines m s (Unload id) = life_refines m s.dense (Unload id) refl
sound_refines m s (Finish id) = finish_refines m s.dense id
sound_refines m s (Replace id v) = replace_refines m s.dense id v
sound_refines m s (Admit t a) = life_refines m s.dense (Admit t a) refl
sound_refines m s (Call t) = life_refines m s.dense (Call t) refl
sound_refines m s (Retire id) = life_refines m s.dense (Retire id) refl
sound_refines m s (RetireChild c) = life_refines m s.dense (RetireChild c) refl
sound_refines m s (Remove id) = remove_refines m s.dense id
sound_refines m s (Offer id q v) = offer_refines m s.dense s.built id q v
sound_refines m s (Ask q) = question m s (Ask q) refl
sound_refines m s (Write w l) = question m s (Write w l) refl

pub keeps : (m : List ℕ) → Sound m → (o : Op) → Sound (leaves m o)
keeps m s o = let r = sound_refines m s o in record { dense = r.dense; built = subst Built (sym r.registry) (step_built (view m) s.built o) }

-- Every made memory is sound.
pub made_sound : (m : List ℕ) → Made m → Sound m
made_sound _ (begins m w) = (begun_start m w).sound
made_sound _ (goes_on m w o) = keeps m (made_sound m w) o

-- The registry afterwards, seen as document 01's, is the rules' registry, for every operation.
pub demand_2 : (m : List ℕ) → Made m → (o : Op) → Refines m (leaves m o) (step (view m) o)
demand_2 m w o = sound_refines m (made_sound m w) o
