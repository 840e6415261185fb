-- How long the text's parts are, by the digits of their numbers.
use Rattle.std.specs.Prelude.{Option}
use Prim.Native.Nat.{ℕ, ◌+◌, ◌*◌, ◌/◌, ◌≤◌, ◌<◌}
use native.Mathlib.Omega.{arith}
use mathlib.Core.Path.{◌≡◌, refl, sym, ap, ◌∙◌}
use mathlib.Core.Bool.{Bool, true, false}
use mathlib.Core.List.{List, ◌++◌}
use lib.ListN.{length, get_or, drop, length-append}
use Rattle.rules_types.specs.declared.Port.{Port}
use Rattle.rules_types.specs.declared.Phase.{Phase}
use Rattle.rules_types.specs.declared.Phase.TheVariants.{Idle, Loading, Active, Unloading}
use Rattle.rules_types.specs.declared.Edition.{Edition}
use Rattle.rules.specs.Text.Values.{edition_and_default}
use Rattle.rules.specs.Ports.{pairs, realm_list}
use Rattle.text_form.specs.Bytes.{bytes}
use Rattle.text_form.specs.Digits.{decimal_of}
use Rattle.text_laws.specs.Parts.{block_of}
use Rattle.memory.specs.Layout.{id_at, dep_part, prov_part, realm_part}
use Rattle.memory.specs.View.{life_at, anchor_at, plugin_at}
use Rattle.memory_values.specs.Values.{value_below}
use Rattle.memory.specs.declared.Life.{Life}
use Rattle.ports.specs.Places.{pairs_end}
use Rattle.text_lines.specs.Lines.{ended, or_none, pair, triple, root_lines, port_lines}
use Rattle.text_block.specs.Parts.{name_lines, phase_line, retired_line, life_lines, ports_lines, list_lines, provision_line, provisions_lines}
use Rattle.text_block.specs.Laws.{ports_bytes, realm_bytes, provs_from, name_bytes, list_bytes, one_provision, no_provision, provision_bytes, block_bytes}

abbrev digits : ℕ → ℕ
digits n = length (decimal_of n)

-- A name, and a number, two, or two and one or none behind it.
module _ (name : List ℕ) (a : ℕ) where
  pub number_length : length (name ++ ended a 10) ≡ length name + 1 + digits a
  number_length = simp length-append (omega arith)

  pub pair_length : (b : ℕ) → length (name ++ pair a b) ≡ length name + 2 + digits a + digits b
  pair_length b = simp length-append (omega arith)

  pub triple_length : (b : ℕ) (o : Option ℕ) → length (name ++ triple a b o) ≡ length name + 2 + digits a + digits b + length (or_none o)
  triple_length b o = simp length-append (omega arith)

four_length : (a b c d : List ℕ) → length (a ++ ((b ++ c) ++ d)) ≡ length a + length b + length c + length d
four_length a b c d = simp length-append (omega arith)

-- Any phase is one digit, and so is either mark.
phase_length : (p : Phase) → length (phase_line p) ≡ 8
phase_length Idle = refl
phase_length Loading = refl
phase_length Active = refl
phase_length Unloading = refl

retired_length : (b : Bool) → length (retired_line b) ≡ 10
retired_length true = refl
retired_length false = refl

pub life_length
    : (l : Life)
    → length (life_lines l) ≡ 49 + digits l.generation.0 + digits l.revision + digits l.payload + length (root_lines l.root)
unfolding life_lines
life_length l = simp length-append (omega (arith, phase_length l.phase, retired_length l.retired))

-- A count and ports: at first, and with none left.
module _ (plural name ports : List ℕ) where
  pub ports_start
      : length plural + 1 + digits (length ports / 2) + length (port_lines name (pairs ports)) ≡ length (ports_lines plural name (pairs ports))
  ports_start = simp length-append (omega arith) ∙ ap length (ports_bytes plural name ports)

pub ports_end : (name ports : List ℕ) → length ports ≤ 1 → length (port_lines name (pairs ports)) ≡ 0
ports_end name ports h = rw (pairs_end ports 0 h)

-- the line of the j-th of the words' provisions
abbrev line_at : List ℕ → ℕ → ℕ → List ℕ → List ℕ
line_at m i j w = provision_line (get_or w (j * 2) 0) (get_or w (j * 2 + 1) 0) (value_below m i j)

module _ (m : List ℕ) (i : ℕ) where
  pub name_length : {n : ℕ} → n ≡ id_at m i → length (name_lines (plugin_at m i)) ≡ 11 + digits n + length (or_none (plugin_at m i).parent)
  name_length e = ap length (sym (name_bytes m i e refl)) ∙ simp length-append (omega arith)

  pub list_length
      : {a : Port} {zs ds rows : List ℕ} {e : Edition} → a ≡ anchor_at m i → zs ≡ realm_part m i → ds ≡ dep_part m i
      → e ≡ (realm_list zs).edition → rows ≡ drop 2 zs
      → length (list_lines (plugin_at m i))
      ≡ 9 + digits a.key + digits a.realm + length (edition_and_default.write e)
      + length (ports_lines (bytes "realms=") (bytes "realm=") (pairs rows))
      + length (ports_lines (bytes "deps=") (bytes "dep=") (pairs ds))
  list_length {a} {zs} {ds} {rows} {e} x y z f g =
      let anchor = bytes "anchor=" ++ pair a.key a.realm in
      let realms = ports_lines (bytes "realms=") (bytes "realm=") (pairs rows) in
      let deps = ports_lines (bytes "deps=") (bytes "dep=") (pairs ds) in
      ap length (sym (list_bytes m i x y z))
      ∙ rw (← realm_bytes zs f g)
      (omega (arith, four_length anchor (edition_and_default.write e) realms deps, pair_length (bytes "anchor=") a.key a.realm))

  -- A count and provisions: at first, with the j-th, and with none left.
  pub provisions_start : {w : List ℕ} → w ≡ prov_part m i
      → 7 + digits (length w / 2) + length (provs_from m i 0 w) ≡ length (provisions_lines (plugin_at m i).provisions)
  provisions_start {w} e = simp length-append (omega arith) ∙ ap length (provision_bytes m i e)

  pub provisions_next
      : (j : ℕ) {w : List ℕ} → w ≡ prov_part m i → j < length w / 2
      → length (line_at m i j w) + length (provs_from m i (j + 1) w) ≡ length (provs_from m i j w)
  provisions_next j {w} e h = sym (length-append (line_at m i j w) (provs_from m i (j + 1) w)) ∙ ap length (one_provision m i j e h)

  pub provisions_end : (j : ℕ) (w : List ℕ) → length w / 2 ≤ j → length (provs_from m i j w) ≡ 0
  provisions_end j w h = sym (ap length (no_provision m i j w h))

  pub block_length
      : {l : Life} → l ≡ life_at m i
      → length (block_of (plugin_at m i))
      ≡ length (name_lines (plugin_at m i)) + length (life_lines l) + length (list_lines (plugin_at m i)) + length (provisions_lines (plugin_at m i).provisions)
  block_length e = ap length (sym (block_bytes m i e)) ∙ simp length-append (omega arith)
