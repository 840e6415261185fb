-- What is written of a new plugin.
use Rattle.std.specs.Prelude.{ℕ, ◌+◌, ◌*◌, List, [], ◌∷◌, leb, length, set}
use Rattle.rules.specs.Basics.{pick}
use Rattle.rules.specs.Holds.{never_begun}
use Rattle.rules.specs.Limits.{max_rows, max_dependencies}
use Rattle.memory.specs.Layout.{next_word, row_word, place_words, id_word, edition_word, row_words}
use Rattle.memory.specs.Writes.{puts}
use Rattle.memory_places.specs.Changes.{occupied_at}
use Rattle.memory_entry.specs.declared.Entry.{Entry}

-- the words of a place from its id to its mask of values: revision, phase, retired mark, root and mask are 0
abbrev pub entry_words : Entry → List ℕ
entry_words e =
    e.id ∷ e.tag ∷ e.parent ∷ 0 ∷ e.payload ∷ 0 ∷ 0 ∷ never_begun ∷ 0 ∷ 0 ∷ 0 ∷ e.start ∷ e.dependencies ∷ e.provisions ∷ e.realms ∷ 0 ∷ []

-- A plugin written to a place: dependencies and claims as rows from its first row on, its realm list with edition and default, its words, the next
-- id, and the place taken. A first row or a list past its limit changes nothing.
unfoldable pub filled_place : List ℕ → ℕ → Entry → List ℕ → List ℕ → List ℕ → List ℕ
filled_place m p e dependencies claims realms =
    let r = row_word e.start in
    pick (leb e.start max_rows)
    (pick (leb (length dependencies) (max_dependencies * row_words))
    (occupied_at (set (puts (puts (puts (puts m r 0 dependencies) (r + length dependencies) 0 claims)
    (p * place_words + edition_word) 0 (e.edition ∷ e.default ∷ realms)) (p * place_words) id_word (entry_words e)) next_word e.next) p)
    m) m
