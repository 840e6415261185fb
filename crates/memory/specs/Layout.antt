-- Where the registry's words are. What a place says of its lists is read up to document 01's limits, so that every
-- read stays inside the memory, whatever words it is lent.
use Rattle.std.specs.Prelude.{ℕ, ◌+◌, ◌*◌, ◌/◌, ◌%◌, ◌^◌, min, Bool, ◌&&◌, List, eqb, ltb, get_or, take, drop}
use Rattle.rules.specs.Limits.{max_plugins, max_rows, max_dependencies, max_provision_keys, max_realm_rows, max_plugin_rows}

abbrev pub word : List ℕ → ℕ → ℕ
word m i = get_or m i 0

-- The words of the header.
abbrev pub domain_word : ℕ
domain_word = 0

abbrev pub first_word : ℕ
first_word = 1

abbrev pub next_word : ℕ
next_word = 2

-- a bit for each place
abbrev pub occupancy_word : ℕ
occupancy_word = 3

-- The words of a place, counted from its number times `place_words`; there is room for more.
abbrev pub id_word : ℕ
id_word = 8

-- whether there is a parent
abbrev pub tag_word : ℕ
tag_word = 9

abbrev pub parent_word : ℕ
parent_word = 10

abbrev pub revision_word : ℕ
revision_word = 11

abbrev pub payload_word : ℕ
payload_word = 12

abbrev pub phase_word : ℕ
phase_word = 13

abbrev pub retired_word : ℕ
retired_word = 14

abbrev pub generation_word : ℕ
generation_word = 15

abbrev pub root_word : ℕ
root_word = 16

abbrev pub root_revision_word : ℕ
root_revision_word = 17

abbrev pub root_argument_word : ℕ
root_argument_word = 18

abbrev pub first_row_word : ℕ
first_row_word = 19

abbrev pub dependencies_word : ℕ
dependencies_word = 20

abbrev pub provisions_word : ℕ
provisions_word = 21

abbrev pub realms_word : ℕ
realms_word = 22

-- which provisions have a value
abbrev pub mask_word : ℕ
mask_word = 23

abbrev pub values_word : ℕ
values_word = 24

-- the realm list: edition, default, rows
abbrev pub edition_word : ℕ
edition_word = 39

abbrev pub place_words : ℕ
place_words = 72

abbrev pub place_end : ℕ
place_end = id_word + place_words

abbrev pub places : ℕ
places = max_plugins

-- A row is a port, and the rows follow the places. A plugin's stand together: dependencies, anchor, provisions.
abbrev pub row_words : ℕ
row_words = 2

abbrev pub rows_start : ℕ
rows_start = places * place_words + id_word

-- The last start that is read, and the most rows from it on, are inside.
abbrev pub memory_words : ℕ
memory_words = (max_rows + max_plugin_rows) * row_words + rows_start

abbrev pub occupancy : List ℕ → ℕ
occupancy m = word m occupancy_word % 2 ^ places

unfoldable pub taken : List ℕ → ℕ → Bool
taken m i = ltb i places && eqb (occupancy m / 2 ^ i % 2) 1

abbrev pub id_at : List ℕ → ℕ → ℕ
id_at m i = word m (i * place_words + id_word)

-- Any word is read as a count in its range: by its remainder where that is a mask of bits, else up to its limit.
abbrev pub start_at : List ℕ → ℕ → ℕ
start_at m i = word m (i * place_words + first_row_word) % max_rows

abbrev pub deps_at : List ℕ → ℕ → ℕ
deps_at m i = min (word m (i * place_words + dependencies_word)) max_dependencies

abbrev pub provs_at : List ℕ → ℕ → ℕ
provs_at m i = word m (i * place_words + provisions_word) % (max_provision_keys + 1)

abbrev pub realms_at : List ℕ → ℕ → ℕ
realms_at m i = min (word m (i * place_words + realms_word)) max_realm_rows

abbrev pub row_word : ℕ → ℕ
row_word r = r * row_words + rows_start

abbrev pub part : List ℕ → ℕ → ℕ → List ℕ
part m from n = take n (drop from m)

abbrev pub dep_part : List ℕ → ℕ → List ℕ
dep_part m i = part m (row_word (start_at m i)) (deps_at m i * row_words)

abbrev pub anchor_word : List ℕ → ℕ → ℕ
anchor_word m i = row_word (start_at m i + deps_at m i)

abbrev pub prov_part : List ℕ → ℕ → List ℕ
prov_part m i = part m (anchor_word m i + row_words) (provs_at m i * row_words)

-- edition and default are as long as a row
abbrev pub realm_part : List ℕ → ℕ → List ℕ
realm_part m i = part m (i * place_words + edition_word) ((realms_at m i + 1) * row_words)
