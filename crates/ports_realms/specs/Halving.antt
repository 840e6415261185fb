-- A key looked up by halving a realm list: what the search does on any list, and how many keys it compares.
use Rattle.std.specs.Prelude.{ℕ, zero, suc, ◌+◌, ◌-◌, ◌/◌, Bool, List, [], ◌∷◌, leb, ltb, length, get_or, take, drop}
use Rattle.rules.specs.Basics.{pick}
use Rattle.rules_types.specs.declared.Port.{Port}
use Rattle.rules.specs.Holds.{port, Realms, is_in}
use Rattle.rules.specs.Ports.{pairs, resolve_in, rows_in, realms_of}

-- What a comparison with the middle row leaves: where its key is not above, that row and all behind it; else as many rows in front.
abbrev pub nearer : ℕ → List Port → List Port
nearer k rows =
    let half = length rows / 2 in
    pick (leb (get_or rows half (port 0 0)).key k) (drop half rows) (take (length rows - half) rows)

-- A search on its way: the rows that are left, and how many keys were compared.
pub record Search : Type 0 where
  pub rows : List Port
  pub compared : ℕ

abbrev pub turned : ℕ → Search → Search
turned k s = record { rows = nearer k s.rows; compared = s.compared + 1 }

-- Turn by turn until one row is left, or none; the first number bounds the turns.
unfoldable pub gone_on : ℕ → ℕ → Search → Search
gone_on zero k s = s
gone_on (suc turns) k s = pick (ltb 1 (length s.rows)) (gone_on turns k (turned k s)) s

-- its end; a turn for each row is enough
unfoldable pub ended : ℕ → Search → Search
ended k s = gone_on (length s.rows) k s

abbrev pub begun : List Port → Search
begun rows = record { rows = rows; compared = 0 }

-- What a search for a key leaves of the rows.
unfoldable pub halved : ℕ → List Port → List Port
halved k rows = (ended k (begun rows)).rows

-- The search by halving is the rule's lookup in what is left.
abbrev pub by_halving : ℕ → List Port → ℕ → Port
by_halving other rows k = resolve_in other (halved k rows) k

-- Its comparisons of keys: one for each turn, and one with the row that is left.
unfoldable pub comparisons : ℕ → List Port → ℕ
comparisons k rows = (ended k (begun rows)).compared + length (halved k rows)

-- The rows that pass a test, in order.
abbrev pub passing : (Port → Bool) → List Port → List Port
passing f [] = []
passing f (p ∷ ps) = pick (f p) (p ∷ passing f ps) (passing f ps)

-- The rows that the search reaches, by their own key. Where keys rise, these are all rows.
unfoldable pub reached : List Port → List Port
reached rows = passing (λ (row : Port). is_in row (halved row.key rows)) rows

-- The table that lent rows make with a default realm, where keys are looked up by halving; and a lent realm list's.
abbrev pub reached_with : ℕ → List ℕ → Realms
reached_with other rows = record { rows = reached (pairs rows); other = other }

abbrev pub reached_in : List ℕ → Realms
reached_in l = reached_with (realms_of l).other (rows_in l)
