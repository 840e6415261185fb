-- The words of a registry that a text says: a memory of zeros, its header, and the plugins one behind the other.
use Rattle.std.specs.Prelude.{ℕ, ◌+◌, List, [], ◌∷◌, length, replicate}
use Rattle.rules.specs.Basics.{is_some, or_else, yes_no}
use Rattle.rules.specs.Conditions.{claims}
use Rattle.rules.specs.Holds.{Plugin, Registry, plugins, rows_of, edition_number, default_of}
use Rattle.rules.specs.Ports.{flat}
use Rattle.memory.specs.Known.{life_of}
use Rattle.memory.specs.Layout.{memory_words}
use Rattle.memory.specs.Writes.{put_life, opened_with}
use Rattle.memory.specs.declared.Life.{Life}
use Rattle.memory_entry.specs.Entries.{filled_place}
use Rattle.memory_entry.specs.declared.Entry.{Entry}
use Rattle.memory_values.specs.Values.{put_values, mask_of, values_of}

-- A plugin written to a place: as a new one, then its life and its values.
unfoldable pub loaded_place : List ℕ → ℕ → Entry → Life → (realms dependencies claims : List ℕ) → (mask : ℕ) (values : List ℕ) → List ℕ
loaded_place m i e life realms dependencies claims mask values = put_values (put_life (filled_place m i e dependencies claims realms) i life) i mask values

-- what is written of a plugin of the rules beside its life, its lists and its values
abbrev pub entry_for : Plugin → (start next : ℕ) → Entry
entry_for p start next = record {
  id = p.id;
  tag = yes_no (is_some p.parent);
  parent = or_else p.parent 0;
  payload = p.payload;
  start = start;
  dependencies = length p.dependencies;
  provisions = length p.provisions;
  realms = length p.realms.rows;
  edition = edition_number p.realms.edition;
  default = default_of p.realms.edition;
  next = next;
}

abbrev pub loaded_plugin : List ℕ → (place start next : ℕ) → Plugin → List ℕ
loaded_plugin m i start next p =
    loaded_place m i (entry_for p start next) (life_of p) (flat p.realms.rows) (flat p.dependencies) (flat (claims p)) (mask_of p.provisions)
    (values_of p.provisions)

-- plugins from a place and a row on
unfoldable pub loaded_into : List ℕ → (place start next : ℕ) → List Plugin → List ℕ
loaded_into m i start next [] = m
loaded_into m i start next (p ∷ ps) = loaded_into (loaded_plugin m i start next p) (i + 1) (start + rows_of p) next ps

-- shut, so that no proof writes out as many zeros
unfoldable pub zeros : List ℕ
zeros = replicate memory_words 0

unfoldable pub words_of : Registry → List ℕ
words_of r = loaded_into (opened_with zeros r.domain r.first r.next) 0 0 r.next (plugins r)
