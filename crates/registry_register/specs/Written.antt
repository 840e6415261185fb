-- What a registration answers, and the words it leaves.
use Rattle.std.specs.Prelude.{ℕ, ◌+◌, ◌-◌, ◌/◌, ◌≡◌, refl, List, [], ◌∷◌, length, Option, Some, None, Result, Ok, Err}
use Rattle.rules.specs.Holds.{Plugin, provided, rows_in_use, edition_number, default_of}
use Rattle.rules_types.specs.declared.Port.{Port}
use Rattle.rules_types.specs.declared.Edition.{Edition}
use Rattle.rules.specs.Ports.{flat, rows_in, realm_list}
use Rattle.rules.specs.Outcomes.{Answer, Refused, Accepted, Outcome}
use Rattle.rules.specs.Refusals.{Refusal, number}
use Rattle.rules.specs.Registration.{Definition, room_checks}
use Rattle.memory.specs.Layout.{word, next_word}
use Rattle.memory.specs.View.{view}
use Rattle.memory.specs.Ways.{Way, left_by, by_adding, Sized, adding_sized}
use Rattle.memory_places.specs.Changes.{free_at}
use Rattle.memory_entry.specs.Entries.{filled_place}
use Rattle.memory_entry.specs.Filled.{filled_size}
use Rattle.memory_entry.specs.declared.Entry.{Entry}
use Rattle.rules.specs.Answers.{verdict}
use Rattle.registry_register.specs.Parts.{tag_of, word_of}

-- the rules' definition of what is lent
abbrev pub definition : Option ℕ → Port → List ℕ → List ℕ → List ℕ → ℕ → Definition
definition parent anchor realms dependencies provisions payload = record {
  parent = parent;
  anchor = anchor;
  realms = realms;
  dependencies = dependencies;
  provisions = provisions;
  payload = payload;
}

-- The words of a new plugin beside its lists: next id is its id, and its rows stand behind all others.
abbrev pub new_entry : List ℕ → Option ℕ → ℕ → Edition → ℕ → ℕ → ℕ → Entry
new_entry m parent payload edition dependencies provisions realms = record {
  id = word m next_word;
  tag = tag_of parent;
  parent = word_of parent;
  payload = payload;
  start = rows_in_use (view m);
  dependencies = dependencies;
  provisions = provisions;
  realms = realms;
  edition = edition_number edition;
  default = default_of edition;
  next = word m next_word + 1;
}

-- Written to a place; no place leaves the words.
abbrev pub written_at : List ℕ → Option ℕ → Entry → List ℕ → List ℕ → List ℕ → List ℕ
written_at m (Some p) e dependencies claims realms = filled_place m p e dependencies claims realms
written_at m None e dependencies claims realms = m

-- The words after a registration: the new plugin stands at the lowest free place.
abbrev pub entered : List ℕ → Plugin → List ℕ
entered m q =
    written_at m (free_at m)
    (new_entry m q.parent q.payload q.realms.edition (length q.dependencies) (length q.provisions) (length q.realms.rows))
    (flat q.dependencies) (flat (q.anchor ∷ provided q)) (flat q.realms.rows)

abbrev pub adding : Way
adding = by_adding entered

abbrev pub added_to : List ℕ → Outcome → List ℕ
added_to = left_by adding

-- The late checks and what is written where they pass, by a count of dependencies and the lent lists.
abbrev pub late_verdict : List ℕ → ℕ → List ℕ → Result Unit Refusal
late_verdict m count claims = verdict (room_checks (view m) count (rows_in_use (view m) + (count + length claims / 2)))

abbrev pub answer_by : Result Unit Refusal → ℕ → Answer
answer_by (Ok x) id = Accepted (id ∷ [])
answer_by (Err why) id = Refused (number why) []

abbrev pub words_by : Result Unit Refusal → List ℕ → List ℕ → List ℕ
words_by (Ok x) m new = new
words_by (Err why) m new = m

unfoldable pub settled_answer : List ℕ → ℕ → List ℕ → Answer
settled_answer m count claims = answer_by (late_verdict m count claims) (word m next_word)

unfoldable pub settled_words : List ℕ → Option ℕ → ℕ → ℕ → List ℕ → List ℕ → List ℕ → List ℕ
settled_words m parent payload count dependencies claims realms =
    words_by (late_verdict m count claims) m
    (written_at m (free_at m) (new_entry m parent payload (realm_list realms).edition count (length claims / 2 - 1) (length (rows_in realms) / 2))
    dependencies claims (rows_in realms))

-- what the late checks and the writing answer and leave
abbrev pub Settles : List ℕ → Option ℕ → ℕ → ℕ → List ℕ → List ℕ → List ℕ → Answer → List ℕ → Type 0
Settles m parent payload count dependencies claims realms a m' =
    (a ≡ settled_answer m count claims) × (m' ≡ settled_words m parent payload count dependencies claims realms)

-- On any words, there are as many after a registration.
written_size : (m : List ℕ) (free : Option ℕ) (e : Entry) (dependencies claims realms : List ℕ)
    → length (written_at m free e dependencies claims realms) ≡ length m
written_size m None e dependencies claims realms = refl
written_size m (Some p) e dependencies claims realms = filled_size m p e dependencies claims realms

pub added_sized : Sized adding
added_sized = adding_sized _ λ m q. written_size m (free_at m) _ _ _ _
