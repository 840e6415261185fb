-- What a table says is so: then a lookup by it finds a port's provider, and what it says afterwards is so.
use Prim.Native.Nat.{ℕ, zero, suc, ◌+◌, ◌-◌, ◌^◌, ◌<◌, ◌≤◌}
use Rattle.std.proofs.Common.{arith, sym, ap, ◌∙◌, length-set, get_or-set_same, get_or-set_other, eqb-true}
use Rattle.std.specs.Prelude.{◌≡◌, true, ◌&&◌, List, eqb, length, set, replicate}
use Rattle.std.proofs.Math.Path.{refl}
use Rattle.std.proofs.lemmas.List.{get_or-replicate}
use Rattle.std.proofs.lemmas.Bool.{eqb-false}
use Rattle.rules.specs.Holds.{Plugin, is_in, provides, provided}
use Rattle.rules.specs.Ports.{pairs}
use Rattle.rules_types.specs.declared.Port.{Port}
use Rattle.rules_laws.specs.Laws.Tests.{by_test, both}
use Rattle.memory.specs.Layout.{word, taken, prov_part, places}
use Rattle.memory.specs.View.{anchor_at, plugin_at}
use Rattle.memory.specs.Lookups.{search_from}
use Rattle.memory_lists.specs.Listed.{provided_at}
use Rattle.ports_bits.specs.Bits.{with_bit, has_bit, all_bits}
use Rattle.ports_bits.specs.Keys.{key_stays, same_key, key_comes}
use Rattle.memory_providers.specs.Providers.{provider_at}
use Rattle.memory_keys.specs.Tables.{place_keys, offers_by, kept_by, found_from, table_from, provider_by, table_by}

-- what a place offers has its bit
abbrev pub Says : List ℕ → ℕ → ℕ → Type 0
Says m i w = (q : Port) → taken m i ≡ true → provides (plugin_at m i) q ≡ true → has_bit w q.key ≡ true

pub record Known (m t : List ℕ) : Type 0 where
  pub size : length t ≡ places
  pub says : (i : ℕ) → i < places → Says m i (word t i)

-- a key that is offered has its bit
offered_key : (m : List ℕ) (i : ℕ) (q : Port) → provides (plugin_at m i) q ≡ true → has_bit (place_keys m i) q.key ≡ true
unfolding place_keys plugin_at
offered_key m i q e = by_test (is_in q (provided (plugin_at m i)))
    (λ t. key_comes (with_bit 0 (anchor_at m i).key) (pairs (prov_part m i)) q (ap (is_in q) (sym (provided_at m i)) ∙ t))
    (λ f. key_stays (with_bit 0 (anchor_at m i).key) (pairs (prov_part m i)) q.key (same_key 0 (anchor_at m i) q (rw f at e)))

-- by what is so, a place offers what it provides
offers_is : (m : List ℕ) (w i : ℕ) (q : Port) → Says m i w → offers_by m w i q ≡ (taken m i && provides (plugin_at m i) q)
offers_is m w i q s = by_test (has_bit w q.key)
    (λ t. rw t)
    (λ f. by_test (taken m i && provides (plugin_at m i) q)
    (λ y. let b = both (taken m i) (provides (plugin_at m i) q) y in let x = s q b.0 b.1 in cc)
    (λ n. rw (f, n)))

-- and what is kept is so
kept_says : (m : List ℕ) (w i : ℕ) (q : Port) → Says m i w → Says m i (kept_by m w i q)
kept_says m w i q s p y z = by_test (has_bit w q.key)
    (λ t. by_test (provides (plugin_at m i) q)
    (λ o. rw (t, y, o) (s p y z))
    (λ n. rw (t, y, n) (offered_key m i p z)))
    (λ f. rw f (s p y z))

module _ (m : List ℕ) (q : Port) where
  pub kept_known : (t : List ℕ) (i : ℕ) → i < places → Known m t → Known m (set t i (kept_by m (word t i) i q))
  kept_known t i h k = record {
    size = length-set t i (kept_by m (word t i) i q) ∙ k.size;
    says = λ j g. by_test (eqb j i)
        (λ e. let s : j ≡ i = eqb-true j i e in
        rw (s, get_or-set_same t i (kept_by m (word t i) i q) 0 (omega (arith, k.size))) (kept_says m (word t i) i q (k.says i h)))
        (λ n. rw (get_or-set_other t i j (kept_by m (word t i) i q) 0 (eqb-false j i n)) (k.says j g));
  }

  found_is : (n : ℕ) (t : List ℕ) (i : ℕ) → i + n ≤ places → Known m t → found_from n m t q i ≡ search_from (λ (p : Plugin). provides p q) n m i
  unfolding found_from search_from
  found_is zero t i h k = refl
  found_is (suc n) t i h k =
      rw (
        offers_is m (word t i) i q (k.says i (omega arith)),
        found_is n (set t i (kept_by m (word t i) i q)) (i + 1) (omega arith) (kept_known t i (omega arith) k),
      )

  table_known : (n : ℕ) (t : List ℕ) (i : ℕ) → i + n ≤ places → Known m t → Known m (table_from n m t q i)
  unfolding table_from
  table_known zero t i h k = k
  table_known (suc n) t i h k =
      let u = kept_known t i (omega arith) k in
      by_test (offers_by m (word t i) i q)
      (λ y. rw y u)
      (λ no'. rw no' (table_known n (set t i (kept_by m (word t i) i q)) (i + 1) (omega arith) u))

  -- a lookup by a table that says what is so
  module _ (t : List ℕ) (k : Known m t) where
    pub by_provider : provider_by m t q ≡ provider_at m q
    unfolding provider_at
    by_provider = found_is places t 0 (omega arith) k

    pub by_known : Known m (table_by m t q)
    by_known = table_known places t 0 (omega arith) k

-- a table with all bits
pub all_known : (m : List ℕ) → Known m (replicate places (2 ^ 64 - 1))
all_known m = record { size = cc; says = λ i h q y z. rw (get_or-replicate places i (2 ^ 64 - 1) 0 h) (all_bits q.key) }
