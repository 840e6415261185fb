-- The words of a list, by what is read of its place.
use Prim.Native.Nat.{ℕ, ◌+◌, ◌*◌}
use native.Mathlib.Omega.{arith}
use mathlib.Core.Path.{◌≡◌}
use mathlib.Core.List.{List}
use Rattle.rules.specs.Holds.{port}
use Rattle.rules_types.specs.declared.Port.{Port}
use Rattle.memory.specs.Layout.{word, part, start_at, deps_at, provs_at, realms_at, dep_part, prov_part, realm_part, place_words, edition_word, row_words, row_word}
use Rattle.memory.specs.View.{anchor_at}

module _ (m l : List ℕ) (j s d : ℕ) (e : s ≡ start_at m j) (f : d ≡ deps_at m j) where
  pub dep_words : l ≡ part m (row_word s) (d * row_words) → l ≡ dep_part m j
  dep_words h = rw (e, f) at h

  pub prov_words : (n : ℕ) → n ≡ provs_at m j → l ≡ part m (row_word (s + d + 1)) (n * row_words) → l ≡ prov_part m j
  prov_words n g h =
      let k : row_word (s + d + 1) ≡ row_word (s + d) + row_words = omega arith in
      rw (k, e, f, g) at h

pub realm_words_lem : (m l : List ℕ) (j n : ℕ) → n ≡ realms_at m j → l ≡ part m (j * place_words + edition_word) ((n + 1) * row_words) → l ≡ realm_part m j
realm_words_lem m l j n e h = rw e at h

pub anchor_words : (m : List ℕ) (j s d : ℕ) (q : Port) → s ≡ start_at m j → d ≡ deps_at m j
    → q ≡ port (word m (row_word (s + d))) (word m (row_word (s + d) + 1)) → q ≡ anchor_at m j
anchor_words m j s d q e f h = rw (e, f) at h
