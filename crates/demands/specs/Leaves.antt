-- What each operation leaves in the words: what its function promises. A question leaves them as they are.
use Rattle.std.specs.Prelude.{ℕ, ◌≡◌, refl, List, length, Option, Some, None}
use Rattle.rules.specs.Outcomes.{Outcome}
use Rattle.rules.specs.Steps.{Op, step, Register, Begin, Ready, Fail, Unload, Finish, Replace, Admit, Call, Retire, RetireChild, Remove, Offer, Ask, Write}
use Rattle.memory.specs.View.{view}
use Rattle.memory.specs.Ways.{Way, left_by, Sized, left_size}
use Rattle.memory.specs.Known.{storing, stored_sized}
use Rattle.registry_remove.specs.Words.{removing, removed_sized}
use Rattle.registry_register.specs.Written.{adding, added_sized}
use Rattle.registry_replace.specs.Words.{replacing, replaced_sized}
use Rattle.registry_ready_finish.specs.Finished.{finishing, finished_sized}
use Rattle.registry_offer.specs.Words.{offering, offered_sized}

-- The ways that the functions' promises name; a question, and what is written to a lent buffer, has none.
abbrev pub way_of : Op → Option Way
way_of (Register d) = Some adding
way_of (Begin id) = Some storing
way_of (Ready id) = Some storing
way_of (Fail id) = Some storing
way_of (Unload id) = Some storing
way_of (Finish id) = Some finishing
way_of (Replace id payload) = Some replacing
way_of (Admit t argument) = Some storing
way_of (Call t) = Some storing
way_of (Retire id) = Some storing
way_of (RetireChild c) = Some storing
way_of (Remove id) = Some removing
way_of (Offer id q value) = Some (offering id q value)
way_of (Ask q) = None
way_of (Write w buffer) = None

abbrev pub left : Option Way → List ℕ → Outcome → List ℕ
left None m u = m
left (Some w) m u = left_by w m u

abbrev pub leaves : List ℕ → Op → List ℕ
leaves m o = left (way_of o) m (step (view m) o)

-- On any words, there are as many afterwards.
abbrev AllSized : Option Way → Type 0
AllSized None = Unit {0}
AllSized (Some w) = Sized w

way_sized : (o : Op) → AllSized (way_of o)
way_sized (Register d) = added_sized
way_sized (Begin id) = stored_sized
way_sized (Ready id) = stored_sized
way_sized (Fail id) = stored_sized
way_sized (Unload id) = stored_sized
way_sized (Finish id) = finished_sized
way_sized (Replace id payload) = replaced_sized
way_sized (Admit t argument) = stored_sized
way_sized (Call t) = stored_sized
way_sized (Retire id) = stored_sized
way_sized (RetireChild c) = stored_sized
way_sized (Remove id) = removed_sized
way_sized (Offer id q value) = offered_sized id q value
way_sized (Ask q) = tt
way_sized (Write w buffer) = tt

same_size : (w : Option Way) → AllSized w → (m : List ℕ) (u : Outcome) → length (left w m u) ≡ length m
same_size None s m u = refl
same_size (Some w) s m u = left_size w s m u

pub leaves_size : (m : List ℕ) (o : Op) → length (leaves m o) ≡ length m
leaves_size m o = same_size (way_of o) (way_sized o) m (step (view m) o)
