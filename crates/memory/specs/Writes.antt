-- What this crate's functions leave in the words.
use Rattle.std.specs.Prelude.{ℕ, zero, suc, ◌+◌, ◌-◌, ◌*◌, ◌≤◌, ◌<◌, ◌≡◌, Bool, ◌&&◌, List, [], ◌∷◌, eqb, set, Option, Some, None}
use mir.Val.{bool_byte}
use Rattle.rules.specs.Basics.{pick}
use Rattle.rules.specs.Queries.{phase_number}
use Rattle.rules_types.specs.declared.Root.{Root}
use Rattle.rules_types.specs.declared.Root.TheVariants.{Unissued, Queued, Spent}
use Rattle.memory.specs.Layout.{taken, id_at, place_words, places, domain_word, revision_word}
use Rattle.memory.specs.declared.Life.{Life}
use Rattle.memory.specs.declared.Words.{Words}

-- the plugin of this place has the id
unfoldable pub names_at : List ℕ → ℕ → ℕ → Bool
names_at m id i = taken m i && eqb (id_at m i) id

-- the first such place, of n places from i on
unfoldable pub find_from : ℕ → List ℕ → ℕ → ℕ → Option ℕ
find_from zero m id i = None
find_from (suc n) m id i = pick (names_at m id i) (Some i) (find_from n m id (i + 1))

unfoldable pub find_at : List ℕ → ℕ → Option ℕ
find_at m id = find_from places m id 0

-- no place before i has the id, and place i has it, if there is one
abbrev pub SameId : List ℕ → ℕ → ℕ → Type 0
SameId m id i = (i ≤ places) × (find_at m id ≡ find_from (places - i) m id i) × (i < places → id_at m i ≡ id)

-- numbers stored from word b + k on, one after the other
abbrev pub puts : List ℕ → ℕ → ℕ → List ℕ → List ℕ
puts m b k [] = m
puts m b k (v ∷ vs) = puts (set m (b + k) v) b (k + 1) vs

-- the header of a memory with no plugin: all places are free
abbrev pub opened_with : List ℕ → (domain first next : ℕ) → List ℕ
opened_with m domain first next = puts m domain_word 0 (domain ∷ first ∷ next ∷ 0 ∷ [])

abbrev pub root_tag : Root → ℕ
root_tag Unissued = 0
root_tag (Queued v a) = 1
root_tag Spent = 2

abbrev pub root_revision : Root → ℕ
root_revision Unissued = 0
root_revision (Queued v a) = v
root_revision Spent = 0

abbrev pub root_argument : Root → ℕ
root_argument Unissued = 0
root_argument (Queued v a) = a
root_argument Spent = 0

abbrev pub life_words : Words → List ℕ
life_words w =
    w.revision ∷ w.payload ∷ w.phase ∷ w.retired ∷ w.generation ∷ w.root ∷ w.root_revision ∷ w.root_argument ∷ []

abbrev pub put_words : List ℕ → ℕ → Words → List ℕ
put_words m i w = puts m (i * place_words) revision_word (life_words w)

unfoldable pub encoded : Life → Words
encoded l = record {
  revision = l.revision;
  payload = l.payload;
  phase = phase_number l.phase;
  retired = bool_byte l.retired;
  generation = l.generation.0;
  root = root_tag l.root;
  root_revision = root_revision l.root;
  root_argument = root_argument l.root;
}

unfoldable pub put_life : List ℕ → ℕ → Life → List ℕ
put_life m i l = put_words m i (encoded l)

-- revision and payload alone, which a replacement changes
unfoldable pub renewed_at : List ℕ → ℕ → ℕ → ℕ → List ℕ
renewed_at m i revision payload = puts m (i * place_words) revision_word (revision ∷ payload ∷ [])
