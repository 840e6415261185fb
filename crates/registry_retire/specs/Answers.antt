-- What a child identity is and answers in document 01's numbers, and what setting the mark says and leaves.
use Rattle.std.specs.Prelude.{ℕ, ◌%◌, ◌≡◌, List, [], ◌∷◌, Result, Ok, Err, Option, Some, None}
use Rattle.rules.specs.Basics.{pick}
use Rattle.rules.specs.Refusals.{Refusal, Retired}
use Rattle.rules.specs.Outcomes.{Answer}
use Rattle.rules.specs.Answers.{answered}
use Rattle.rules.specs.Retirement as rules
use Rattle.memory.specs.Layout.{places}
use Rattle.memory.specs.View.{life_at}
use Rattle.memory.specs.Writes.{put_life}
use Rattle.memory.specs.Lives.{marked_life}
use Rattle.slot_child.specs.declared.Identity.{Identity}

-- the rules' identity of three numbers
abbrev pub identified : ℕ → ℕ → ℕ → rules.Identity
identified domain parent id = record { domain = domain; parent = parent; id = id }

-- the numbers of an identity, or none
abbrev pub child_numbers : Option Identity → List ℕ
child_numbers None = []
child_numbers (Some c) = c.domain ∷ c.parent ∷ c.id ∷ []

abbrev pub child_answer : Result (Option Identity) Refusal → Answer
child_answer r = answered child_numbers r

-- 2 and nothing changes; else the mark of the plugin at a place is set
abbrev pub Marks : List ℕ → ℕ → Result Unit Refusal → List ℕ → Type 0
Marks m i r m' =
    (r ≡ pick (life_at m (i % places)).retired (Err Retired) (Ok tt))
    × (m' ≡ pick (life_at m (i % places)).retired m (put_life m (i % places) (marked_life (life_at m (i % places)))))
