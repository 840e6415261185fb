-- How long a text can be: a bound for each way to make a form, and so one for the registry's text.
use Rattle.std.specs.Prelude.{ℕ, ◌+◌, ◌*◌, ◌≤◌, ◌≡◌, refl, Bool, true, false, List, [], ◌∷◌, ◌++◌, ◌⊎◌, length, Some, None}
use Prim.Native.String.{String}
use Rattle.std.proofs.Common.{mul-suc, arith, inl, inr, length-append}
use Rattle.rules.specs.Basics.{sum, last}
use Rattle.rules_types.specs.declared.Phase.{Phase}
use Rattle.rules_types.specs.declared.Phase.TheVariants.{Idle, Loading, Active, Unloading}
use Rattle.rules.specs.Holds.{Plugin, Places, Registry, held, plugins, count, rows_of, sum_rows, rows_in_use}
use Rattle.rules_laws.specs.Built.{Built}
use Rattle.rules_laws.specs.Laws.Members.{In}
use Rattle.text_form.specs.Digits.{decimal_of}
use Rattle.text_form.specs.Bytes.{bytes}
use Rattle.text_form.specs.Words.{no_digit}
use Rattle.text_form.specs.Forms.{torn, Form, behind, literal, ◌then◌, either, FitAll, write_all, counted}
use Rattle.text_form.specs.Numbers.{number_to, digits_most_20}
use Rattle.text_form.specs.Lines.{line, list, number, comma, number_or_none}
use Rattle.rules.specs.Text.Values.{key_realm, key_realm_value, phase, zero_or_one, root_and_queued, edition_and_default}
use Rattle.text_form.specs.Lines.{from_option}
use Rattle.rules.specs.Text.Values.{from_root, from_edition}
use Rattle.rules.specs.Text.{header, realms, lines_of, block, text, by_id, said, text_of}
use Rattle.text_laws.specs.Rising.{by_id_in, by_id_sum}

-- What fits takes at most so many bytes, by its value.
pub record Most {A : Type 0} (f : Form A) (m : A → ℕ) : Type 0 where
  pub most : (a : A) → f.Fits a → length (f.write a) ≤ m a

pub number_most_lem : (stop : ℕ) → Most (number_to stop) (λ n. 21)
number_most_lem stop = record { most = λ n l. omega (arith, length-append (decimal_of n) (stop ∷ []), digits_most_20 n l) }

pub literal_most : (w : List ℕ) → Most (literal w) (λ u. length w)
literal_most w = record { most = λ a l. omega (arith, length-append w []) }

module _ {A : Type 0} {f : Form A} {m : A → ℕ} (h : Most f m) where
  pub behind_most : (w : List ℕ) → Most (behind w f) (λ a. length w + m a)
  behind_most w = record { most = λ a l. omega (arith, length-append w (f.write a), h.most a l) }

  pub wider : (n : A → ℕ) → ((a : A) → m a ≤ n a) → Most f n
  wider n e = record { most = λ a l. omega (arith, h.most a l, e a) }

  infixr 30 ◌and◌
  pub ◌and◌ : {B : Type 0} {g : Form B} {n : B → ℕ} → Most g n → Most (f then g) (λ p. m p.0 + n p.1)
  ◌and◌ {B} {g} {n} k = record { most = λ p l. omega (arith, length-append (f.write p.0) (g.write p.1), h.most p.0 l.0, k.most p.1 l.1) }

module _ {A B : Type 0} {f : Form A} {g : Form B} where
  pub either_most : (k : ℕ) → Most f (λ a. k) → Most g (λ b. k) → Most (either f g) (λ e. k)
  either_most k x y = record { most = go }
    where
      go : (e : A ⊎ B) → (either f g).Fits e → length ((either f g).write e) ≤ k
      go (inl a) l = x.most a l
      go (inr b) l = y.most b l

-- values one behind the other, and their count
module _ {A : Type 0} {f : Form A} {m : A → ℕ} (h : Most f m) where
  pub all_most : (l : List A) → FitAll f l → length (write_all f l) ≤ sum m l
  all_most [] k = omega arith
  all_most (a ∷ l) k = omega (arith, length-append (f.write a) (write_all f l), h.most a k.0, all_most l k.1)

  pub counted_most : {n : Form ℕ} (c : ℕ) → Most n (λ k. c) → Most (counted n f) (λ l. c + sum m l)
  counted_most {n} c k =
      record { most = λ l w. omega (arith, length-append (n.write (length l)) (write_all f l), k.most (length l) w.0, all_most l w.1) }

pub sum_same : {A : Type 0} (k : ℕ) (l : List A) → sum (λ (a : A). k) l ≡ k * length l
sum_same k [] = omega arith
sum_same k (a ∷ l) = omega (arith, sum_same k l, mul-suc k (length l))

-- The values and lines of the text.
abbrev number_most : Most number (λ n. 21)
number_most = number_most_lem 10

abbrev comma_most : Most comma (λ n. 21)
comma_most = number_most_lem 44

phase_length : (ph : Phase) → length (phase.write ph) ≤ 2
phase_length Idle = omega arith
phase_length Loading = omega arith
phase_length Active = omega arith
phase_length Unloading = omega arith

phase_most : Most phase (λ ph. 2)
phase_most = record { most = λ ph l. phase_length ph }

mark_length : (b : Bool) → length (zero_or_one.write b) ≤ 2
mark_length false = omega arith
mark_length true = omega arith

mark_most : Most zero_or_one (λ b. 2)
mark_most = record { most = λ b l. mark_length b }

line_most : {A : Type 0} {f : Form A} {m : A → ℕ} (key : String) → Most f m → Most (line key f) (λ a. length (bytes key ++ bytes "=") + m a)
line_most key h = behind_most h (bytes key ++ bytes "=")

list_most
    : {A : Type 0} {f : Form A} (plural key : String) (k : ℕ) → Most f (λ a. k)
    → Most (list plural key f) (λ l. length (bytes plural ++ bytes "=") + 21 + (length (bytes key ++ bytes "=") + k) * length l)
list_most {A} {f} plural key k h =
    let c = length (bytes plural ++ bytes "=") + 21 in
    let m = length (bytes key ++ bytes "=") + k in
    record { most = λ l w. rw (sum_same m l) at ((counted_most (line_most key h) c (line_most plural number_most)).most l w) }

option_most : Most number_or_none (λ o. 21)
option_most = record {
  most = λ o l. (either_most 21 number_most (wider (literal_most (bytes "none\n")) (λ u. 21) (λ u. omega arith))).most (from_option o) l;
}

port_most : Most key_realm (λ p. 42)
port_most = record { most = λ p l. (comma_most and number_most).most (p.key, p.realm) l }

provision_most : Most key_realm_value (λ v. 63)
provision_most = record { most = λ v l. (comma_most and comma_most and option_most).most (v.port.key, (v.port.realm, v.value)) l }

root_most : Most root_and_queued (λ t. 56)
root_most = record {
  most = λ t l.
      (either_most 56
      (wider (literal_most (bytes "root=0\nqueued=none\n")) (λ u. 56) (λ u. omega arith))
      (either_most 56
      (wider (behind_most (comma_most and number_most) (bytes "root=1\nqueued=")) (λ q. 56) (λ q. omega arith))
      (wider (literal_most (bytes "root=2\nqueued=none\n")) (λ u. 56) (λ u. omega arith)))
      ).most (from_root t) l;
}

edition_most : Most edition_and_default (λ e. 39)
edition_most = record {
  most = λ e l.
      (either_most 39
      (wider (literal_most (bytes "edition=1\ndefault=0\n")) (λ u. 39) (λ u. omega arith))
      (wider (behind_most number_most (bytes "edition=2\ndefault=")) (λ d. 39) (λ d. omega arith))
      ).most (from_edition e) l;
}

realms_most : Most realms (λ z. 67 + 48 * length z.rows)
realms_most = record {
  most = λ z l.
      (wider (edition_most and list_most "realms" "realm" 42 port_most) (λ x. 67 + 48 * length x.1) (λ x. omega arith)
      ).most (z.edition, z.rows) l;
}

-- Document 01's limits on the lists of a plugin.
pub record Lists (p : Plugin) : Type 0 where
  pub realm_rows_lem : length p.realms.rows ≤ 16
  pub dependencies : length p.dependencies ≤ 48
  pub provisions : length p.provisions ≤ 15

block_length
    : (p : Plugin) → block.Fits p
    → length (block.write p) ≤ 386 + 48 * length p.realms.rows + 46 * length p.dependencies + 68 * length p.provisions
block_length p l =
    let x =
    (line_most "id" number_most
    and line_most "parent" option_most
    and line_most "phase" phase_most
    and line_most "retired" mark_most
    and line_most "generation" number_most
    and line_most "revision" number_most
    and line_most "payload" number_most
    and root_most
    and line_most "anchor" port_most
    and realms_most
    and list_most "deps" "dep" 42 port_most
    and list_most "provs" "prov" 63 provision_most).most (lines_of p) l in
    omega (arith, x)

-- So much for a plugin, and 46 for each of its rows.
pub block_most : (p : Plugin) → block.Fits p → Lists p → length (block.write p) ≤ 1438 + 46 * rows_of p
block_most p l o = omega (arith, block_length p l, o.realm_rows_lem, o.dependencies, o.provisions)

blocks_most
    : (l : List Plugin) → FitAll block l → ((p : Plugin) → In p l → Lists p)
    → length (write_all block l) ≤ sum (λ (p : Plugin). 1438 + 46 * rows_of p) l
blocks_most [] h o = omega arith
blocks_most (p ∷ l) h o =
    omega (arith, length-append (block.write p) (write_all block l), block_most p h.0 (o p (inl refl)), blocks_most l h.1 (λ q m. o q (inr m)))

sum_rows_lem : (l : List Plugin) → sum (λ (p : Plugin). 1438 + 46 * rows_of p) l ≡ 1438 * length l + 46 * sum_rows l
sum_rows_lem [] = omega arith
sum_rows_lem (p ∷ l) = omega (arith, sum_rows_lem l)

header_most : Most header (λ h. 81)
header_most = record { most = λ h l. (line_most "domain" number_most and line_most "first" number_most and line_most "next" number_most).most h l }

plugins_line : (n : ℕ) → n ≤ last → length ((line "plugins" number).write n) ≤ 29
plugins_line n h = (line_most "plugins" number_most).most n h

-- A registry's text, by its plugins and rows.
pub text_most
    : (r : Registry) → text.Fits (said r) → ((p : Plugin) → In p (plugins r) → Lists p)
    → length (text_of r) ≤ 110 + 1438 * count r + 46 * rows_in_use r
unfolding text_of count rows_in_use
text_most r l o =
    let ps = by_id (plugins r) in
    let h = header.write (r.domain, (r.first, r.next)) in
    let c = (line "plugins" number).write (length ps) in
    omega (
      arith,
      length-append h (c ++ write_all block ps),
      length-append c (write_all block ps),
      header_most.most (r.domain, (r.first, r.next)) l.0,
      plugins_line (length ps) l.1.0,
      blocks_most ps l.1.1 (λ p m. o p (by_id_in p (plugins r) m)),
      by_id_sum (λ (p : Plugin). 1438 + 46 * rows_of p) (plugins r),
      sum_rows_lem (plugins r),
    )

pub held_most : (ps : Places) → length (held ps) ≤ length ps
held_most [] = omega arith
held_most (None ∷ ps) = omega (arith, held_most ps)
held_most (Some p ∷ ps) = omega (arith, held_most ps)

pub rows_most : (l : List Plugin) → ((p : Plugin) → In p l → Lists p) → sum_rows l ≤ 64 * length l
rows_most [] o = omega arith
rows_most (p ∷ l) o =
    let k = o p (inl refl) in
    omega (arith, rows_most l (λ q m. o q (inr m)), k.dependencies, k.provisions)

-- Of 32 plugins, each as long as it may be; and of a registry that operations build.
pub any_text
    : (r : Registry) → text.Fits (said r) → ((p : Plugin) → In p (plugins r) → Lists p) → length r.places ≤ 32
    → length (text_of r) ≤ 140334
unfolding count rows_in_use
any_text r l o h = omega (arith, text_most r l o, held_most r.places, rows_most (plugins r) o)

built_lists : (r : Registry) → Built r → (p : Plugin) → In p (plugins r) → Lists p
built_lists r b p m =
    let s = (b.members p m).shaped in
    record { realm_rows_lem = s.realm_rows_lem; dependencies = s.dependencies; provisions = s.provisions }

pub built_text : (r : Registry) → text.Fits (said r) → Built r → length (text_of r) ≤ 93230
unfolding count
built_text r l b = omega (arith, text_most r l (built_lists r b), held_most r.places, b.room, b.rows)
