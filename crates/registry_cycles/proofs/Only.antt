-- Where all ports differ a port's first provider is its only one: so the rows of providers say who needs whom.
use Rattle.std.specs.Prelude.{Option, Some, None}
use Prim.Native.Nat.{ℕ, zero, suc, ◌+◌, ◌<◌, ◌≤◌}
use native.Mathlib.Omega.{arith}
use mathlib.Core.Path.{◌≡◌, refl, sym, ap, ◌∙◌}
use mathlib.Core.Logic.{inl, inr}
use mathlib.Core.Bool.{Bool, true, false, ◌&&◌, ◌||◌, or-true, and-false, true≢false}
use mathlib.Core.List.{List, [], ◌∷◌}
use lib.Dec.{eqb}
use borrow.Author.Tests.{eqb-true, eqb-false, eq-eqb, not-true}
use Rattle.rules.specs.Basics.{any, all}
use Rattle.rules.specs.Holds.{Plugin, held, plugins, provides, running, is_loading, is_active}
use Rattle.rules.specs.Conditions.{claims, claims_of, ports_differ}
use Rattle.rules.specs.Phases.{available}
use Rattle.rules.specs.Registration.{repeats}
use Rattle.rules_types.specs.declared.Port.{Port}
use Rattle.rules_laws.specs.Laws.Members.{In}
use Rattle.rules_laws.specs.Laws.Tests.{by_test, both}
use Rattle.rules_load.specs.Laws.Claims.{repeats_split, provides_claims, claimed}
use Rattle.memory.specs.Layout.{taken, places}
use Rattle.memory.specs.Lookups.{search_from, search_found}
use Rattle.memory.specs.View.{plugin_at, place_at, places_from, view}
use Rattle.memory_providers.specs.Providers.{provider_at, provider_view}
use Rattle.memory_providers.specs.Words.{is_among, word_of}
use Rattle.registry_cycles.specs.Left.{Needed}
use Rattle.registry_cycles.specs.Rows.{is_at, provides_one, served_in, RowsFor}
use Rattle.registry_cycles.specs.Runs.{runs_at, all_of}
use Rattle.registry_cycles.proofs.Laws.{all_at}
use Rattle.registry_cycles.proofs.Words.{among_word, word_same}

-- the plugin of a taken place is among those of the places
in_held : (n : ℕ) (m : List ℕ) (i j : ℕ) → i ≤ j → j < i + n → taken m j ≡ true → In (plugin_at m j) (held (places_from n m i))
unfolding places_from place_at
in_held zero m i j g h t = absurd (omega arith)
in_held (suc n) m i j g h t = by_test (eqb j i)
    (λ y. let e = eqb-true j i y in let u : taken m i ≡ true = ap (taken m) (sym e) ∙ t in rw u (inl (ap (plugin_at m) (sym e))))
    (λ d. let e = eqb-false j i d in
    let r = in_held n m (i + 1) j (omega arith) (omega arith) t in
    by_test (taken m i) (λ u. rw u (inr r)) (λ u. rw u r))

-- a place that provides a port is the first that does
only_provider : (q : Port) (n : ℕ) (m : List ℕ) (i j : ℕ) → repeats (claims_of (held (places_from n m i))) ≡ false → i ≤ j → j < i + n
    → taken m j ≡ true → provides (plugin_at m j) q ≡ true → search_from (λ (p : Plugin). provides p q) n m i ≡ Some j
unfolding search_from places_from place_at
only_provider q zero m i j e g h t p = absurd (omega arith)
only_provider q (suc n) m i j e g h t p = by_test (eqb j i)
    (λ y. let s = eqb-true j i y in
    let u : taken m i ≡ true = ap (taken m) (sym s) ∙ t in
    let v : provides (plugin_at m i) q ≡ true = ap (λ k. provides (plugin_at m k) q) (sym s) ∙ p in
    rw (u, v) (ap Some (sym s)))
    (λ d. let s = eqb-false j i d in
    by_test (taken m i)
    (λ u.
    let f = rw u at e in
    let w = repeats_split (claims (plugin_at m i)) (claims_of (held (places_from n m (i + 1)))) f in
    let k = claimed (held (places_from n m (i + 1))) (plugin_at m j) q (in_held n m (i + 1) j (omega arith) (omega arith) t) p in
    by_test (provides (plugin_at m i) q)
    (λ v. absurd (w.2 q (sym (provides_claims (plugin_at m i) q) ∙ v) k))
    (λ v. rw (u, v) (only_provider q n m (i + 1) j w.1 (omega arith) (omega arith) t p)))
    (λ u. let f = rw u at e in rw u (only_provider q n m (i + 1) j f (omega arith) (omega arith) t p)))

is_at_lem : (x : Option ℕ) (j : ℕ) → is_at x j ≡ true → x ≡ Some j
is_at_lem (Some i) j e = ap Some (sym (eqb-true j i e))
is_at_lem None j e = cc

runs_active : (p : Plugin) → is_active p.phase ≡ true → running p ≡ true
runs_active p e = rw e (or-true (is_loading p.phase))

module _ (m : List ℕ) (among : ℕ) (e : among ≡ word_of (runs_at m) places 0) (apart : ports_differ (plugins (view m)) ≡ true) where
  among_is : (j : ℕ) → j < places → is_among among j ≡ runs_at m j
  among_is j l = ap (λ w. is_among w j) e ∙ among_word (runs_at m) j l

  -- of a port that has an Active provider
  port_at_lem : (q : Port) (j : ℕ) → j < places → available (view m) q ≡ true → is_at (provider_at m q) j ≡ (is_among among j && provides (plugin_at m j) q)
  unfolding provider_at view
  port_at_lem q j l a = by_test (is_at (provider_at m q) j)
      (λ y.
      let s = is_at_lem (provider_at m q) j y in
      let f = search_found (λ (p : Plugin). provides p q) places m 0 j s in
      let r : is_active (plugin_at m j).phase ≡ true = rw (provider_view m q, s) at a in
      y ∙ sym (rw (among_is j l, f.there, runs_active (plugin_at m j) r, f.passes)))
      (λ n. by_test (is_among among j && provides (plugin_at m j) q)
      (λ y.
      let b = both (is_among among j) (provides (plugin_at m j) q) y in
      let t = both (taken m j) (running (plugin_at m j)) (sym (among_is j l) ∙ b.0) in
      let o = only_provider q places m 0 j (not-true _ apart) (omega arith) (omega arith) t.0 b.1 in
      absurd (true≢false (sym (eq-eqb j j refl) ∙ ap (λ x. is_at x j) (sym o) ∙ n)))
      (λ k. n ∙ sym k))

  ports_at : (j : ℕ) → j < places → (qs : List Port) → all (available (view m)) qs ≡ true
      → provides_one m qs j ≡ (is_among among j && any (provides (plugin_at m j)) qs)
  ports_at j l [] a = sym (and-false (is_among among j))
  ports_at j l (q ∷ qs) a =
      let b = both (available (view m) q) (all (available (view m)) qs) a in
      rw (port_at_lem q j l b.0, ports_at j l qs b.1) (spread (is_among among j) (provides (plugin_at m j) q) (any (provides (plugin_at m j)) qs))
    where
      spread : (a b c : Bool) → ((a && b) || (a && c)) ≡ (a && (b || c))
      spread true b c = refl
      spread false b c = refl

  pub only_needed : all_of (served_in m among) places 0 ≡ true → (rows : List ℕ) → RowsFor m among rows places → Needed m among rows places
  only_needed s rows r i h t =
      let a = all_at (served_in m among) places 0 i s (omega arith) (omega arith) in
      let b : all (available (view m)) (plugin_at m i).dependencies ≡ true = rw t at a in
      r i h t ∙ word_same _ _ places 0 (λ j l. ports_at j l (plugin_at m i).dependencies b)
