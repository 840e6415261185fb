-- The words as document 01's registry, place by place.
use Rattle.std.specs.Prelude.{ℕ, zero, suc, ◌+◌, ◌*◌, ◌/◌, ◌%◌, ◌^◌, not, List, [], ◌∷◌, eqb, Option, Some, None}
use Rattle.rules.specs.Basics.{pick}
use Rattle.rules.specs.Holds.{port, Provision, Plugin, Places, Registry}
use Rattle.rules_types.specs.Generations.{generation_of}
use Rattle.rules_types.specs.declared.Port.{Port}
use Rattle.rules_types.specs.declared.Phase.{Phase}
use Rattle.rules_types.specs.declared.Phase.TheVariants.{Idle, Loading, Active, Unloading}
use Rattle.rules_types.specs.declared.Root.{Root}
use Rattle.rules_types.specs.declared.Root.TheVariants.{Unissued, Queued, Spent}
use Rattle.rules.specs.Ports.{pairs, realm_list}
use Rattle.memory.specs.Layout.{word, taken, id_at, anchor_word, dep_part, prov_part, realm_part, place_words, places, domain_word, first_word, next_word, tag_word}
use Rattle.memory.specs.Layout.{parent_word, revision_word, payload_word, phase_word, retired_word, generation_word, root_word, root_revision_word}
use Rattle.memory.specs.Layout.{root_argument_word, mask_word, values_word}
use Rattle.memory.specs.declared.Life.{Life}
use Rattle.memory.specs.declared.Words.{Words}

abbrev pub parent_of : ℕ → ℕ → Option ℕ
parent_of zero id = None
parent_of (suc n) id = Some id

abbrev pub parent_at : List ℕ → ℕ → Option ℕ
parent_at m i = parent_of (word m (i * place_words + tag_word)) (word m (i * place_words + parent_word))

abbrev pub phase_of : ℕ → Phase
phase_of zero = Idle
phase_of (suc zero) = Loading
phase_of (suc (suc zero)) = Active
phase_of (suc (suc (suc n))) = Unloading

abbrev pub root_of : ℕ → ℕ → ℕ → Root
root_of zero v a = Unissued
root_of (suc zero) v a = Queued v a
root_of (suc (suc n)) v a = Spent

-- what operations on one plugin change, but for its values: its words, and what they say
abbrev pub words_at : List ℕ → ℕ → Words
words_at m i = record {
  revision = word m (i * place_words + revision_word);
  payload = word m (i * place_words + payload_word);
  phase = word m (i * place_words + phase_word);
  retired = word m (i * place_words + retired_word);
  generation = word m (i * place_words + generation_word);
  root = word m (i * place_words + root_word);
  root_revision = word m (i * place_words + root_revision_word);
  root_argument = word m (i * place_words + root_argument_word);
}

unfoldable pub decoded : Words → Life
decoded w = record {
  revision = w.revision;
  payload = w.payload;
  phase = phase_of w.phase;
  retired = not (eqb w.retired 0);
  generation = generation_of w.generation;
  root = root_of w.root w.root_revision w.root_argument;
}

unfoldable pub life_at : List ℕ → ℕ → Life
life_at m i = decoded (words_at m i)

-- the value of provision j, or none
unfoldable pub value_at : List ℕ → ℕ → ℕ → Option ℕ
value_at m i j = pick (eqb (word m (i * place_words + mask_word) / 2 ^ j % 2) 1) (Some (word m (i * place_words + values_word + j))) None

abbrev pub valued : List ℕ → ℕ → ℕ → List Port → List Provision
valued m i j [] = []
valued m i j (q ∷ qs) = record { port = q; value = value_at m i j } ∷ valued m i (j + 1) qs

-- between the dependencies and the provisions
abbrev pub anchor_at : List ℕ → ℕ → Port
anchor_at m i = port (word m (anchor_word m i)) (word m (anchor_word m i + 1))

unfoldable pub plugin_at : List ℕ → ℕ → Plugin
plugin_at m i = record {
  id = id_at m i;
  parent = parent_at m i;
  anchor = anchor_at m i;
  realms = realm_list (realm_part m i);
  dependencies = pairs (dep_part m i);
  provisions = valued m i 0 (pairs (prov_part m i));
  revision = (life_at m i).revision;
  payload = (life_at m i).payload;
  phase = (life_at m i).phase;
  retired = (life_at m i).retired;
  generation = (life_at m i).generation.0;
  root = (life_at m i).root;
}

unfoldable pub place_at : List ℕ → ℕ → Option Plugin
place_at m i = pick (taken m i) (Some (plugin_at m i)) None

-- n places from i on
unfoldable pub places_from : ℕ → List ℕ → ℕ → Places
places_from zero m i = []
places_from (suc n) m i = place_at m i ∷ places_from n m (i + 1)

unfoldable pub view : List ℕ → Registry
view m = record { domain = word m domain_word; first = word m first_word; next = word m next_word; places = places_from places m 0 }
