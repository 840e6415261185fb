-- Document 01, "Ports and realms".
use Rattle.std.specs.Prelude.{ℕ, Bool, true, false, not, ◌&&◌, ◌||◌, List, [], ◌∷◌, eqb, ltb, length, get_or, drop}
use Rattle.rules.specs.Basics.{pick}
use Rattle.rules.specs.Holds.{Port, port, Edition, First, Second, Realms, RealmList, edition_number, default_of, table_of, same_port}
use Rattle.rules.specs.Refusals.{BadEdition, BadRealms}
use Rattle.rules.specs.Outcomes.{Outcome, answers, Check, ◌⇒◌, checked}
use Rattle.rules.specs.Limits.{max_realm_rows}

-- A list of ports comes as key, realm, key, realm.
abbrev pub pairs : List ℕ → List Port
pairs [] = []
pairs (k ∷ []) = []
pairs (k ∷ r ∷ l) = port k r ∷ pairs l

abbrev pub odd_length : List ℕ → Bool
odd_length [] = false
odd_length (k ∷ []) = true
odd_length (k ∷ r ∷ l) = odd_length l

abbrev pub flat : List Port → List ℕ
flat [] = []
flat (p ∷ ps) = p.key ∷ p.realm ∷ flat ps

abbrev pub same_ports : List Port → List Port → Bool
same_ports [] [] = true
same_ports [] (q ∷ qs) = false
same_ports (p ∷ ps) [] = false
same_ports (p ∷ ps) (q ∷ qs) = same_port p q && same_ports ps qs

abbrev pub rising : List Port → Bool
rising [] = true
rising (p ∷ []) = true
rising (p ∷ q ∷ ps) = ltb p.key q.key && rising (q ∷ ps)

-- Row 4, of the rows of a realm list: odd length, over 16 rows, or keys not strictly rising.
unfoldable pub bad_realms : List ℕ → Bool
bad_realms l = odd_length l || ltb max_realm_rows (length (pairs l)) || not (rising (pairs l))

-- A key found in the realm list gets its realm; any other gets the table's other realm.
abbrev pub resolve_in : ℕ → List Port → ℕ → Port
resolve_in other [] k = port k other
resolve_in other (row ∷ rows) k = pick (eqb row.key k) row (resolve_in other rows k)

unfoldable pub resolve : Realms → ℕ → Port
resolve z k = resolve_in z.other z.rows k

-- Document 02 [5]: a realm list comes as edition, default realm, key, realm, key, realm.
abbrev pub edition_in : List ℕ → ℕ
edition_in l = get_or l 0 0

abbrev pub default_in : List ℕ → ℕ
default_in l = get_or l 1 0

abbrev pub rows_in : List ℕ → List ℕ
rows_in l = drop 2 l

abbrev pub edition_of : ℕ → ℕ → Edition
edition_of number default = pick (eqb number 2) (Second default) First

unfoldable pub realm_list : List ℕ → RealmList
realm_list l = record { edition = edition_of (edition_in l) (default_in l); rows = pairs (rows_in l) }

-- the numbers of a kept list
abbrev pub realm_numbers : RealmList → List ℕ
realm_numbers l = edition_number l.edition ∷ default_of l.edition ∷ flat l.rows

abbrev pub realms_of : List ℕ → Realms
realms_of l = table_of (realm_list l)

-- Row 26: another edition than 1 and 2, or a list that does not name one and a default.
unfoldable pub bad_edition : List ℕ → Bool
bad_edition l = ltb (length l) 2 || not (eqb (edition_in l) 1 || eqb (edition_in l) 2)

-- 26 before 4
abbrev pub realm_checks : List ℕ → List Check
realm_checks l = (bad_edition l ⇒ BadEdition) ∷ (bad_realms (rows_in l) ⇒ BadRealms) ∷ []

-- A key looked up in a lent list.
unfoldable pub resolve_key : List ℕ → ℕ → Outcome
resolve_key l k = checked (realm_checks l) (answers (flat (resolve (realms_of l) k ∷ [])))
