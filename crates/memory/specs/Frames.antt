-- What a change of the words leaves of what is read at a place.
use Rattle.std.specs.Prelude.{ℕ, zero, suc, ◌+◌, ◌*◌, ◌-◌, ◌<◌, ◌≤◌, ◌≡◌, refl, ◌≢◌, Bool, true, false, not, List, [], ◌∷◌, eqb, length, get_or, set, drop}
use Rattle.std.proofs.Common.{arith, le_of_suc-le-suc, not-suc-le-zero, sym, ◌∙◌, lit<, length-set, length-take, length-drop, get_or-set_same, get_or-set_other, get_or-take, get_or-drop, ext_get_or}
use Rattle.std.proofs.Math.Path.{ap}
use mir.Val.{bool_byte}
use Rattle.rules.specs.Holds.{Plugin, changed}
use Rattle.rules_types.specs.declared.Port.{Port}
use Rattle.rules_types.specs.declared.Phase.{Phase}
use Rattle.rules_types.specs.declared.Phase.TheVariants.{Idle, Loading, Active, Unloading}
use Rattle.rules_types.specs.declared.Root.{Root}
use Rattle.rules_types.specs.declared.Root.TheVariants.{Unissued, Queued, Spent}
use Rattle.rules.specs.Ports.{pairs}
use Rattle.rules.specs.Queries.{phase_number}
use Rattle.rules.specs.Limits.{max_provision_keys}
use Rattle.memory.specs.Layout.{word, part, anchor_word, dep_part, prov_part, realm_part, memory_words, place_words, places, id_word, tag_word, parent_word}
use Rattle.memory.specs.Layout.{revision_word, payload_word, phase_word, retired_word, generation_word, root_word, root_revision_word, root_argument_word}
use Rattle.memory.specs.Layout.{first_row_word, mask_word, values_word}
use Rattle.memory.specs.View.{phase_of, root_of, words_at, decoded, life_at, value_at, valued, plugin_at}
use Rattle.memory.specs.Writes.{puts, root_tag, root_revision, root_argument, life_words, encoded, put_life, renewed_at}
use Rattle.memory.specs.Lives.{renewed_life}
use Rattle.memory.specs.declared.Life.{Life}

-- A part is read word by word.
pub part_same : (m m' : List ℕ) (a b n : ℕ) → a + n ≤ length m' → b + n ≤ length m → ((k : ℕ) → k < n → word m' (a + k) ≡ word m (b + k))
    → part m' a n ≡ part m b n
part_same m m' a b n la lb h =
    let whole : (l : List ℕ) (c : ℕ) → c + n ≤ length l → length (part l c n) ≡ n = λ l c le. simp (length-take, length-drop) (omega arith) in
    ext_get_or 0 (part m' a n) (part m b n) (whole m' a la ∙ sym (whole m b lb)) λ i l.
    let k : i < n = omega (arith, whole m' a la) in
    (get_or-take n (drop a m') i 0 k ∙ get_or-drop a m' i 0) ∙ h i k ∙ sym (get_or-take n (drop b m) i 0 k ∙ get_or-drop b m i 0)

-- A run of stores.
pub puts_length : (vs m : List ℕ) (b k : ℕ) → length (puts m b k vs) ≡ length m
puts_length [] m b k = refl
puts_length (v ∷ vs) m b k = puts_length vs (set m (b + k) v) b (k + 1) ∙ length-set m (b + k) v

pub puts_before : (vs m : List ℕ) (b k j : ℕ) → j < b + k → word (puts m b k vs) j ≡ word m j
puts_before [] m b k j h = refl
puts_before (v ∷ vs) m b k j h =
    puts_before vs (set m (b + k) v) b (k + 1) j (omega arith) ∙ get_or-set_other m (b + k) j v 0 (omega arith)

pub puts_after : (vs m : List ℕ) (b k j : ℕ) → b + k + length vs ≤ j → word (puts m b k vs) j ≡ word m j
puts_after [] m b k j h = refl
puts_after (v ∷ vs) m b k j h =
    puts_after vs (set m (b + k) v) b (k + 1) j (omega arith) ∙ get_or-set_other m (b + k) j v 0 (omega arith)

pub puts_apart : (vs m : List ℕ) (b k j : ℕ) → (b + k ≤ j → j < b + k + length vs → ⊥) → word (puts m b k vs) j ≡ word m j
puts_apart [] m b k j n = refl
puts_apart (v ∷ vs) m b k j n =
    puts_apart vs (set m (b + k) v) b (k + 1) j (λ x y. n (omega arith) (omega arith)) ∙ get_or-set_other m (b + k) j v 0 (λ e. n (omega arith) (omega arith))

pub puts_same : (vs m : List ℕ) (b k n : ℕ) → n < length vs → b + k + length vs ≤ length m → word (puts m b k vs) (b + (k + n)) ≡ get_or vs n 0
puts_same [] m b k n h f = absurd (not-suc-le-zero h)
puts_same (v ∷ vs) m b k zero h f =
    let e : b + (k + zero) ≡ b + k = omega arith in
    rw e (puts_before vs (set m (b + k) v) b (k + 1) (b + k) (omega arith) ∙ get_or-set_same m (b + k) v 0 (omega arith))
puts_same (v ∷ vs) m b k (suc n) h f =
    let e : b + (k + suc n) ≡ b + (k + 1 + n) = omega arith in
    let g : length (set m (b + k) v) ≡ length m = length-set m (b + k) v in
    rw e (puts_same vs (set m (b + k) v) b (k + 1) n (le_of_suc-le-suc h) (omega arith))

-- What is read at a place, but for its life.
pub record Kept (m m' : List ℕ) (i : ℕ) : Type 0 where
  pub id : word m' (i * place_words + id_word) ≡ word m (i * place_words + id_word)
  pub tag : word m' (i * place_words + tag_word) ≡ word m (i * place_words + tag_word)
  pub parent : word m' (i * place_words + parent_word) ≡ word m (i * place_words + parent_word)
  pub anchor_key : word m' (anchor_word m' i) ≡ word m (anchor_word m i)
  pub anchor_realm : word m' (anchor_word m' i + 1) ≡ word m (anchor_word m i + 1)
  pub realms : realm_part m' i ≡ realm_part m i
  pub dependencies : dep_part m' i ≡ dep_part m i
  pub provisions : prov_part m' i ≡ prov_part m i
  pub mask : word m' (i * place_words + mask_word) ≡ word m (i * place_words + mask_word)
  pub values : (j : ℕ) → j < max_provision_keys → word m' (i * place_words + values_word + j) ≡ word m (i * place_words + values_word + j)

abbrev pub with_life : Plugin → Life → Plugin
with_life p l = changed p p.provisions l.revision l.payload l.phase l.retired l.generation.0 l.root

pairs_half : (l : List ℕ) (n : ℕ) → length l ≤ n * 2 → length (pairs l) ≤ n
pairs_half [] n h = omega arith
pairs_half (a ∷ []) n h = omega arith
pairs_half (a ∷ b ∷ l) zero h = absurd (omega arith)
pairs_half (a ∷ b ∷ l) (suc n) h = let r = pairs_half l n (omega arith) in omega arith

value_same : (m m' : List ℕ) (i : ℕ) → Kept m m' i → (j : ℕ) → j < max_provision_keys → value_at m' i j ≡ value_at m i j
unfolding value_at
value_same m m' i w j h = rw (w.mask, w.values j h)

valued_same : (m m' : List ℕ) (i : ℕ) → Kept m m' i → (qs : List Port) (j : ℕ) → j + length qs ≤ max_provision_keys → valued m' i j qs ≡ valued m i j qs
valued_same m m' i w [] j h = refl
valued_same m m' i w (q ∷ qs) j h =
    let e = value_same m m' i w j (omega arith) in
    let r = valued_same m m' i w qs (j + 1) (omega arith) in
    rw (e, r)

few : (m : List ℕ) (i : ℕ) → length (pairs (prov_part m i)) ≤ max_provision_keys
few m i = pairs_half (prov_part m i) max_provision_keys (simp (length-take, length-drop) (omega arith))

-- A place that is kept reads as before, but for its life.
pub plugin_kept : (m m' : List ℕ) (i : ℕ) → Kept m m' i → plugin_at m' i ≡ with_life (plugin_at m i) (life_at m' i)
unfolding plugin_at
plugin_kept m m' i w =
    rw (
      w.id,
      w.tag,
      w.parent,
      w.anchor_key,
      w.anchor_realm,
      w.realms,
      w.dependencies,
      w.provisions,
      valued_same m m' i w (pairs (prov_part m i)) 0 (omega (arith, few m i)),
    )

-- The codes.
phase_code : (p : Phase) → phase_of (phase_number p) ≡ p
phase_code Idle = refl
phase_code Loading = refl
phase_code Active = refl
phase_code Unloading = refl

root_code : (r : Root) → root_of (root_tag r) (root_revision r) (root_argument r) ≡ r
root_code Unissued = refl
root_code (Queued v a) = refl
root_code Spent = refl

flag_code : (b : Bool) → not (eqb (bool_byte b) 0) ≡ b
flag_code true = refl
flag_code false = refl

pub decoded_encoded : (l : Life) → decoded (encoded l) ≡ l
unfolding decoded encoded
decoded_encoded l = λ x. record {
  revision = l.revision;
  payload = l.payload;
  phase = phase_code l.phase x;
  retired = flag_code l.retired x;
  generation = l.generation;
  root = root_code l.root x;
}

-- No word changes but those of place i's life.
pub record OnlyLife (m m' : List ℕ) (i : ℕ) : Type 0 where
  pub size : length m' ≡ length m
  pub apart : (k : ℕ) → (i * place_words + revision_word ≤ k → k < i * place_words + first_row_word → ⊥) → word m' k ≡ word m k

module _ (m m' : List ℕ) (i : ℕ) (o : OnlyLife m m' i) where
  words_other : (j : ℕ) → i ≢ j → words_at m' j ≡ words_at m j
  words_other j d = λ x. record {
    revision = o.apart (j * place_words + revision_word) (λ a b. d (omega arith)) x;
    payload = o.apart (j * place_words + payload_word) (λ a b. d (omega arith)) x;
    phase = o.apart (j * place_words + phase_word) (λ a b. d (omega arith)) x;
    retired = o.apart (j * place_words + retired_word) (λ a b. d (omega arith)) x;
    generation = o.apart (j * place_words + generation_word) (λ a b. d (omega arith)) x;
    root = o.apart (j * place_words + root_word) (λ a b. d (omega arith)) x;
    root_revision = o.apart (j * place_words + root_revision_word) (λ a b. d (omega arith)) x;
    root_argument = o.apart (j * place_words + root_argument_word) (λ a b. d (omega arith)) x;
  }

  pub life_other : (j : ℕ) → i ≢ j → life_at m' j ≡ life_at m j
  unfolding life_at
  life_other j d = ap decoded (words_other j d)

-- The words of a life: what is stored is what is read, and nothing else changes.
module _ (m : List ℕ) (i : ℕ) (l : Life) where
  pub life_length : length (put_life m i l) ≡ length m
  unfolding put_life
  life_length = puts_length (life_words (encoded l)) m (i * place_words) revision_word

  pub life_before : (k : ℕ) → k < i * place_words + revision_word → word (put_life m i l) k ≡ word m k
  unfolding put_life
  life_before k h = puts_before (life_words (encoded l)) m (i * place_words) revision_word k h

  pub life_only : OnlyLife m (put_life m i l) i
  unfolding put_life
  life_only = record {
    size = life_length;
    apart = λ k n. puts_apart (life_words (encoded l)) m (i * place_words) revision_word k (λ x y. n x (omega arith));
  }

  module _ (h : i < places) (s : length m ≡ memory_words) where
    one_same : (n : ℕ) → n < 8 → word (put_life m i l) (i * place_words + (revision_word + n)) ≡ get_or (life_words (encoded l)) n 0
    unfolding put_life
    one_same n k = puts_same (life_words (encoded l)) m (i * place_words) revision_word n k (omega arith)

    words_put : words_at (put_life m i l) i ≡ encoded l
    words_put = λ x. record {
      revision = one_same 0 (lit< tt) x;
      payload = one_same 1 (lit< tt) x;
      phase = one_same 2 (lit< tt) x;
      retired = one_same 3 (lit< tt) x;
      generation = one_same 4 (lit< tt) x;
      root = one_same 5 (lit< tt) x;
      root_revision = one_same 6 (lit< tt) x;
      root_argument = one_same 7 (lit< tt) x;
    }

    pub life_put : life_at (put_life m i l) i ≡ l
    unfolding life_at
    life_put = ap decoded words_put ∙ decoded_encoded l

-- Revision and payload: what is stored is what is read, and nothing else changes.
module _ (m : List ℕ) (i revision payload : ℕ) where
  pub renewed_only : OnlyLife m (renewed_at m i revision payload) i
  unfolding renewed_at
  renewed_only = record {
    size = puts_length (revision ∷ payload ∷ []) m (i * place_words) revision_word;
    apart = λ k n. puts_apart (revision ∷ payload ∷ []) m (i * place_words) revision_word k (λ x y. n x (omega arith));
  }

  module _ (h : i < places) (s : length m ≡ memory_words) where
    stored : (n : ℕ) → n < 2 → word (renewed_at m i revision payload) (i * place_words + (revision_word + n)) ≡ get_or (revision ∷ payload ∷ []) n 0
    unfolding renewed_at
    stored n k = puts_same (revision ∷ payload ∷ []) m (i * place_words) revision_word n k (omega arith)

    behind : (n : ℕ) → i * place_words + phase_word ≤ n → word (renewed_at m i revision payload) n ≡ word m n
    unfolding renewed_at
    behind n k = puts_after (revision ∷ payload ∷ []) m (i * place_words) revision_word n (omega arith)

    pub life_renewed : life_at (renewed_at m i revision payload) i ≡ renewed_life (life_at m i) revision payload
    unfolding life_at decoded
    life_renewed = λ x. decoded (record {
      revision = stored 0 (lit< tt) x;
      payload = stored 1 (lit< tt) x;
      phase = behind (i * place_words + phase_word) (omega arith) x;
      retired = behind (i * place_words + retired_word) (omega arith) x;
      generation = behind (i * place_words + generation_word) (omega arith) x;
      root = behind (i * place_words + root_word) (omega arith) x;
      root_revision = behind (i * place_words + root_revision_word) (omega arith) x;
      root_argument = behind (i * place_words + root_argument_word) (omega arith) x;
    })
