-- Words that move: rows down over a gap, and the starts behind it down with them.
use Rattle.std.specs.Prelude.{ℕ, zero, suc, ◌+◌, ◌*◌, ◌-◌, ◌&&◌, List, leb, ltb, set}
use Rattle.rules.specs.Basics.{pick}
use Rattle.memory.specs.Layout.{word, taken, start_at, row_word, place_words, places, first_row_word, row_words}
use Rattle.memory_places.specs.Changes.{vacated_at}
use Rattle.memory_places.specs.Rows.{rows_at}
use Rattle.memory_rows.specs.declared.Last.{Last}

-- n words from j on, each from k words further on
unfoldable pub moved : ℕ → List ℕ → ℕ → ℕ → List ℕ
moved zero m j k = m
moved (suc n) m j k = moved n (set m j (word m (j + k))) (j + 1) k

-- of the rows below the end, those behind the gap moved down over it
abbrev pub closed_gap : List ℕ → ℕ → ℕ → ℕ → List ℕ
closed_gap m start count end = moved ((end - (start + count)) * row_words) m (row_word start) (count * row_words)

-- the first row of a place, as it is written
abbrev pub start_word : List ℕ → ℕ → ℕ
start_word m i = word m (i * place_words + first_row_word)

-- a start behind the gap comes down
abbrev pub lowered : ℕ → ℕ → ℕ → ℕ
lowered s end count = pick (leb end s) (s - count) s

abbrev pub lowered_at : List ℕ → ℕ → ℕ → ℕ → List ℕ
lowered_at m end count i = set m (i * place_words + first_row_word) (lowered (start_word m i) end count)

-- the starts of n places from i on, lowered
unfoldable pub lower_from : ℕ → List ℕ → ℕ → ℕ → ℕ → List ℕ
lower_from zero m end count i = m
lower_from (suc n) m end count i = lower_from n (lowered_at m end count i) end count (i + 1)

-- place i, if it is taken and its rows stand behind the gap and later than those of the last one so far; else that one
abbrev pub later : List ℕ → ℕ → ℕ → Last → Last
later m end i last =
    pick (leb end (start_word m i) && taken m i && ltb last.start (start_word m i)) (record { place = i; start = start_word m i }) last

-- the last of one so far and n places from i on
unfoldable pub last_from : ℕ → List ℕ → ℕ → ℕ → Last → Last
last_from zero m end i last = last
last_from (suc n) m end i last = last_from n m end (i + 1) (later m end i last)

-- where the rows of a place end
abbrev pub end_at : List ℕ → ℕ → ℕ
end_at m i = start_at m i + rows_at m i

-- of a place and the taken ones whose rows are behind its own, the one whose rows stand last
unfoldable pub last_behind : List ℕ → ℕ → Last
last_behind m p = last_from places m (end_at m p) 0 (record { place = p; start = start_at m p })

-- where the last rows end
abbrev pub rows_end : List ℕ → ℕ → ℕ
rows_end m p = end_at m (last_behind m p).place

-- A place and its rows freed: the starts and the rows behind them come down. A free place changes nothing.
unfoldable pub freed_place : List ℕ → ℕ → List ℕ
freed_place m p =
    let s = start_at m p in
    let c = rows_at m p in
    pick (taken m p) (vacated_at (closed_gap (lower_from places m (s + c) c 0) s c (rows_end m p)) p) m
