-- A lookup by the index of all places finds a port's provider.
use Prim.Native.Nat.{ℕ, zero, suc, ◌+◌, ◌*◌, ◌%◌, ◌^◌, ◌<◌, ◌≤◌}
use Rattle.std.proofs.Common.{arith, sym, ◌∙◌, length-set, get_or-set_same, get_or-set_other}
use Rattle.std.specs.Prelude.{◌≡◌, Bool, true, false, ◌&&◌, ◌||◌, List, [], ◌∷◌, eqb, length, replicate}
use Rattle.std.proofs.Math.Path.{refl, ap}
use Rattle.std.proofs.Math.Bool.{or-true, or-false, and-true, and-false}
use Rattle.std.specs.Int.Bits.{bit_or}
use Rattle.std.proofs.lemmas.List.{length-replicate, get_or-replicate}
use borrow.Author.Tests.{eqb-true, eqb-false, eq-eqb, ne_eqb}
use Rattle.rules.specs.Basics.{pick, any}
use Rattle.rules.specs.Holds.{Plugin, is_in, provides, same_port}
use Rattle.rules.specs.Ports.{pairs}
use Rattle.rules_types.specs.declared.Port.{Port}
use Rattle.rules_laws.specs.Laws.Tests.{by_test, both}
use Rattle.memory.specs.Layout.{word, taken, memory_words, places}
use Rattle.memory.specs.Lookups.{search_from}
use Rattle.memory.specs.View.{plugin_at}
use Rattle.memory_places.specs.Bits.{bit_none, one_shl}
use Rattle.memory_providers.specs.Claimed.{offered_is}
use Rattle.memory_providers.specs.Providers.{provider_at, offered_part}
use Rattle.memory_providers.specs.Words.{is_among}
use Rattle.memory_index.specs.Among.{among_or}
use Rattle.memory_index.specs.Index.{remainders, word_for, noted, index_from, index_of, first_among, provider_by}

-- What every lookup by an index rests on.
abbrev pub Indexed : List ℕ → List ℕ → Type 0
Indexed m t = (q : Port) → provider_by m t q ≡ provider_at m q

-- whether one of the ports has its key in this word
abbrev keyed : ℕ → List Port → Bool
keyed k qs = any (λ (q : Port). eqb (word_for q.key) k) qs

keyed_in : (q : Port) (qs : List Port) → is_in q qs ≡ true → keyed (word_for q.key) qs ≡ true
keyed_in q [] e = cc
keyed_in q (p ∷ qs) e = by_test (same_port q p)
    (λ t. let k : q.key ≡ p.key = eqb-true _ _ (both _ _ t).0 in rw (eq-eqb (word_for p.key) (word_for q.key) (ap word_for (sym k))))
    (λ f. rw (keyed_in q qs (rw f at e)) (or-true (eqb (word_for p.key) (word_for q.key))))

noted_size : (t : List ℕ) (i : ℕ) (qs : List Port) → length (noted t i qs) ≡ length t
unfolding noted
noted_size t i [] = refl
noted_size t i (q ∷ qs) = length-set (noted t i qs) (word_for q.key) _ ∙ noted_size t i qs

absorb : (a b c : Bool) → ((a || (b && c)) || b) ≡ (a || b)
absorb true b c = refl
absorb false true true = refl
absorb false true false = refl
absorb false false c = refl

noted_bit : (t : List ℕ) (i : ℕ) (qs : List Port) (k j : ℕ) → length t ≡ remainders → i < places → k < remainders
    → is_among (word (noted t i qs) k) j ≡ (is_among (word t k) j || (eqb j i && keyed k qs))
unfolding noted
noted_bit t i [] k j size h l = sym (ap (λ b. is_among (word t k) j || b) (and-false (eqb j i)) ∙ or-false (is_among (word t k) j))
noted_bit t i (q ∷ qs) k j size h l =
    let u = noted t i qs in
    let a = word_for q.key in
    let r = noted_bit t i qs k j size h l in
    by_test (eqb a k)
    (λ y. let e : a ≡ k = eqb-true a k y in
    let g = get_or-set_same u k (bit_or (word u k) ((1 * 2 ^ i) % 2 ^ 32)) 0 (omega (arith, noted_size t i qs)) in
    rw (y, e, g, one_shl i h, among_or (word u k) i j, r) (absorb (is_among (word t k) j) (eqb j i) (keyed k qs)
    ∙ ap (λ b. is_among (word t k) j || b) (sym (and-true (eqb j i)))))
    (λ n. rw (n, get_or-set_other u a k (bit_or (word u a) ((1 * 2 ^ i) % 2 ^ 32)) 0 (λ e. eqb-false a k n (sym e))) r)

-- The places from i on, one after the other: a place's bits come at its turn and stay.
module _ (m : List ℕ) (k j : ℕ) (l : k < remainders) where
  abbrev next : List ℕ → ℕ → List ℕ
  next t i = pick (taken m i) (noted t i (pairs (offered_part m i))) t

  next_size : (t : List ℕ) (i : ℕ) → length (next t i) ≡ length t
  next_size t i = by_test (taken m i) (λ y. rw y (noted_size t i (pairs (offered_part m i)))) (λ n. rw n)

  next_own : (t : List ℕ) → length t ≡ remainders → j < places
      → is_among (word (next t j) k) j ≡ (is_among (word t k) j || (taken m j && keyed k (pairs (offered_part m j))))
  next_own t size h = by_test (taken m j)
      (λ y. rw y (noted_bit t j (pairs (offered_part m j)) k j size h l ∙ rw (eq-eqb j j refl)))
      (λ n. rw n (sym (or-false (is_among (word t k) j))))

  next_other : (t : List ℕ) (i : ℕ) → length t ≡ remainders → i < places → eqb j i ≡ false → is_among (word (next t i) k) j ≡ is_among (word t k) j
  next_other t i size h d = by_test (taken m i)
      (λ y. rw y (noted_bit t i (pairs (offered_part m i)) k j size h l ∙ rw d (or-false (is_among (word t k) j))))
      (λ n. rw n)

  behind : (n : ℕ) (t : List ℕ) (i : ℕ) → length t ≡ remainders → i + n ≤ places → j < i → is_among (word (index_from n m t i) k) j ≡ is_among (word t k) j
  unfolding index_from
  behind zero t i size h g = refl
  behind (suc n) t i size h g =
      behind n (next t i) (i + 1) (next_size t i ∙ size) (omega arith) (omega arith)
      ∙ next_other t i size (omega arith) (ne_eqb j i (λ e. omega arith))

  at_turn : (n : ℕ) (t : List ℕ) (i : ℕ) → length t ≡ remainders → i + n ≤ places → i ≤ j → j < i + n
      → is_among (word (index_from n m t i) k) j ≡ (is_among (word t k) j || (taken m j && keyed k (pairs (offered_part m j))))
  unfolding index_from
  at_turn zero t i size h g f = absurd (omega arith)
  at_turn (suc n) t i size h g f = by_test (eqb j i)
      (λ y. let e = eqb-true j i y in
      behind n (next t i) (i + 1) (next_size t i ∙ size) (omega arith) (omega arith) ∙ rw (← e) (next_own t size (omega arith)))
      (λ d. let e = eqb-false j i d in
      at_turn n (next t i) (i + 1) (next_size t i ∙ size) (omega arith) (omega arith) (omega arith)
      ∙ ap (λ b. b || (taken m j && keyed k (pairs (offered_part m j)))) (next_other t i size (omega arith) d))

  index_bit : j < places → is_among (word (index_of m) k) j ≡ (taken m j && keyed k (pairs (offered_part m j)))
  unfolding index_of
  index_bit h =
      at_turn places (replicate remainders 0) 0 (length-replicate {A = ℕ} remainders 0) (omega arith) (omega arith) (omega arith)
      ∙ rw (get_or-replicate {A = ℕ} remainders k 0 0 l, bit_none j)

-- places of which as many are found
same_first : (m : List ℕ) (w : ℕ) (q : Port) (n i : ℕ)
    → ((j : ℕ) → j < i + n → (is_among w j && provides (plugin_at m j) q) ≡ (taken m j && provides (plugin_at m j) q))
    → first_among n m w q i ≡ search_from (λ (p : Plugin). provides p q) n m i
unfolding first_among search_from
same_first m w q zero i h = refl
same_first m w q (suc n) i h =
    let s : i + 1 + n ≡ i + suc n = omega arith in
    rw (h i (omega arith), same_first m w q n (i + 1) (λ j l. h j (rw s at l)))

pub index_finds : (m t : List ℕ) → length m ≡ memory_words → t ≡ index_of m → Indexed m t
unfolding provider_at
index_finds m t size e q = same_first m (word t (word_for q.key)) q places 0 (λ j l. by_test (provides (plugin_at m j) q)
    (λ y.
    let o : is_in q (pairs (offered_part m j)) ≡ true = offered_is m j size q ∙ y in
    let b : is_among (word t (word_for q.key)) j ≡ taken m j =
    ap (λ x. is_among (word x (word_for q.key)) j) e ∙ index_bit m (word_for q.key) j (omega arith) l
    ∙ ap (λ x. taken m j && x) (keyed_in q (pairs (offered_part m j)) o) ∙ and-true (taken m j) in
    rw b)
    (λ n. rw (n, and-false (is_among (word t (word_for q.key)) j), and-false (taken m j))))
