-- The bytes that the parts lay are a plugin's lines, where the values are those of its words.
use Rattle.std.specs.Prelude.{ℕ, ◌+◌, ◌*◌, ◌/◌, ◌≤◌, ◌<◌, ◌≡◌, List, [], ◌++◌, get_or, drop, Option}
use native.Mathlib.Omega.{arith}
use Rattle.std.proofs.Math.Path.{sym, ap}
use Rattle.std.proofs.Math.ListN.{length}
use Rattle.rules_types.specs.declared.Port.{Port}
use Rattle.rules_types.specs.declared.Edition.{Edition}
use Rattle.rules.specs.Text.Values.{edition_and_default}
use Rattle.rules.specs.Ports.{pairs, realm_list}
use Rattle.text_form.specs.Bytes.{bytes}
use Rattle.text_laws.specs.Parts.{block_of}
use Rattle.memory.specs.Layout.{id_at, dep_part, prov_part, realm_part}
use Rattle.memory.specs.View.{parent_at, life_at, anchor_at, valued, plugin_at}
use Rattle.memory.specs.Known.{life_of_lem}
use Rattle.memory.specs.declared.Life.{Life}
use Rattle.memory_values.specs.Values.{value_below, value_below_lem}
use Rattle.memory_values.specs.Firsts.{few_words}
use Rattle.ports.specs.Places.{pairs_at, pairs_end, length_pairs}
use Rattle.text_lines.specs.Lines.{ended, or_none, pair, port_lines}
use Rattle.memory_lists.specs.Listed.{valued_length}
use Rattle.text_block.specs.Parts.{name_lines, life_lines, ports_lines, realm_lines, list_lines, provision_line, provision_lines, provisions_lines}
use Rattle.text_block.specs.Parts.{or_none_lem, block_by_parts}

pub ports_bytes : (plural name ports : List ℕ) → (plural ++ ended (length ports / 2) 10) ++ port_lines name (pairs ports) ≡ ports_lines plural name (pairs ports)
ports_bytes plural name ports = rw (length_pairs ports)

pub realm_bytes : (l : List ℕ) {e : Edition} {rows : List ℕ} → e ≡ (realm_list l).edition → rows ≡ drop 2 l
    → edition_and_default.write e ++ ports_lines (bytes "realms=") (bytes "realm=") (pairs rows) ≡ realm_lines (realm_list l)
unfolding realm_lines realm_list
realm_bytes l e f = rw (e, f)

-- the provisions from the j-th on, with their values
abbrev pub provs_from : List ℕ → ℕ → ℕ → List ℕ → List ℕ
provs_from m i j words = provision_lines (valued m i j (pairs (drop (j * 2) words)))

module _ (m : List ℕ) (i : ℕ) where
  pub name_bytes : {n : ℕ} {o : Option ℕ} → n ≡ id_at m i → o ≡ (plugin_at m i).parent
      → (bytes "id=" ++ ended n 10) ++ (bytes "parent=" ++ or_none o) ≡ name_lines (plugin_at m i)
  unfolding name_lines plugin_at
  name_bytes e f = rw (e, f, or_none_lem (parent_at m i))

  pub list_bytes
      : {a : Port} {zs ds : List ℕ} → a ≡ anchor_at m i → zs ≡ realm_part m i → ds ≡ dep_part m i
      → (bytes "anchor=" ++ pair a.key a.realm)
      ++ (realm_lines (realm_list zs) ++ ports_lines (bytes "deps=") (bytes "dep=") (pairs ds))
      ≡ list_lines (plugin_at m i)
  unfolding list_lines plugin_at
  list_bytes e f g = rw (e, f, g)

  -- The j-th of the words' provisions, and no more of them.
  pub one_provision
      : (j : ℕ) {w : List ℕ} → w ≡ prov_part m i → j < length w / 2
      → provision_line (get_or w (j * 2) 0) (get_or w (j * 2 + 1) 0) (value_below m i j) ++ provs_from m i (j + 1) w ≡ provs_from m i j w
  unfolding provision_lines
  one_provision j {w} e h =
      let next : j * 2 + 2 ≡ (j + 1) * 2 = omega arith in
      let value = value_below_lem m i j (omega (arith, ap length e, few_words m i)) in
      sym (rw (pairs_at w (j * 2) (omega arith), next, value))

  pub no_provision : (j : ℕ) (w : List ℕ) → length w / 2 ≤ j → [] ≡ provs_from m i j w
  unfolding provision_lines
  no_provision j w h = sym (rw (pairs_end w (j * 2) (omega arith)))

  pub provision_bytes : {w : List ℕ} → w ≡ prov_part m i
      → (bytes "provs=" ++ ended (length w / 2) 10) ++ provs_from m i 0 w ≡ provisions_lines (plugin_at m i).provisions
  unfolding plugin_at
  provision_bytes {w} e = rw (e, valued_length m i 0 (pairs (prov_part m i)), length_pairs (prov_part m i))

  -- All of them are the block.
  pub block_bytes
      : {l : Life} → l ≡ life_at m i
      → name_lines (plugin_at m i) ++ (life_lines l ++ (list_lines (plugin_at m i) ++ provisions_lines (plugin_at m i).provisions)) ≡ block_of (plugin_at m i)
  block_bytes e = rw (e, ← life_of_lem m i) (sym (block_by_parts (plugin_at m i)))
