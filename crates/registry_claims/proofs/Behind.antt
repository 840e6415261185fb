-- The claims from a place on are those of its plugin, if it is taken, and then those from the next place on.
use Prim.Native.Nat.{ℕ, zero, suc, ◌+◌, ◌-◌, ◌%◌, ◌<◌, ◌≤◌}
use native.Mathlib.Numerals.{add-one}
use native.Mathlib.Nat.{mod-eq_of_lt}
use native.Mathlib.Omega.{arith}
use mathlib.Core.Path.{◌≡◌, sym, ap, ◌∙◌}
use mathlib.Core.Bool.{true, false, ◌||◌, or-true, or_comm}
use mathlib.Core.List.{List, [], ◌∷◌, ◌++◌}
use Rattle.rules_types.specs.declared.Port.{Port}
use Rattle.rules.specs.Holds.{plugins, provided, provides, same_port, is_in}
use Rattle.rules.specs.Registration.{repeats}
use Rattle.rules.specs.Conditions.{claims, ports_differ}
use Rattle.rules_laws.specs.Laws.Tests.{by_test}
use Rattle.rules_laws.specs.Laws.Members.{any_append}
use Rattle.memory.specs.Layout.{taken, places}
use Rattle.memory.specs.View.{plugin_at, place_at, places_from, view}
use Rattle.registry_claims.specs.Behind.{claims_from}

pub claims_end : (m : List ℕ) (i : ℕ) → places ≤ i → claims_from m i ≡ []
unfolding claims_from places_from
claims_end m i h = let e : places - i ≡ 0 = omega arith in rw e

module _ (m : List ℕ) (i : ℕ) (h : i < places) where
  one_less : places - i ≡ suc (places - (i + 1))
  one_less = omega arith

  pub claims_taken : taken m i ≡ true → claims_from m i ≡ claims (plugin_at m i) ++ claims_from m (i + 1)
  unfolding claims_from places_from place_at
  claims_taken t = rw one_less (rw t)

  pub claims_free : taken m i ≡ false → claims_from m i ≡ claims_from m (i + 1)
  unfolding claims_from places_from place_at
  claims_free f = rw one_less (rw f)

  module _ (t : taken m i ≡ true) (q : Port) where
    here_or_behind : is_in q (claims_from m i) ≡ (provides (plugin_at m (i % places)) q || is_in q (claims_from m (i + 1)))
    here_or_behind =
        let p = plugin_at m i in
        let n : i % places ≡ i = mod-eq_of_lt h in
        ap (is_in q) (claims_taken t) ∙ any_append (same_port q) (claims p) (claims_from m (i + 1))
        ∙ ap (λ b. b || is_in q (claims_from m (i + 1))) (or_comm (same_port q p.anchor) (is_in q (provided p)))
        ∙ ap (λ j. provides (plugin_at m j) q || is_in q (claims_from m (i + 1))) (sym n)

    pub claimed_here : provides (plugin_at m (i % places)) q ≡ true → is_in q (claims_from m i) ≡ true
    claimed_here y = here_or_behind ∙ rw y

    pub claimed_behind_lem : provides (plugin_at m (i % places)) q ≡ false → is_in q (claims_from m i) ≡ is_in q (claims_from m (i + 1))
    claimed_behind_lem n = here_or_behind ∙ rw n

-- where two ports behind are alike, two of all are
pub repeats_behind : (l m : List Port) → repeats m ≡ true → repeats (l ++ m) ≡ true
repeats_behind [] m e = e
repeats_behind (p ∷ l) m e = rw (repeats_behind l m e) (or-true (is_in p (l ++ m)))

pub repeats_from : (m : List ℕ) (i : ℕ) → i ≤ places → repeats (claims_from m i) ≡ true → repeats (claims_from m 0) ≡ true
repeats_from m zero h e = e
repeats_from m (suc i) h e =
    let l : i < places = omega arith in
    let n : i + 1 ≡ suc i = add-one i in
    let f : repeats (claims_from m (i + 1)) ≡ true = rw n e in
    repeats_from m i (omega arith)
    (by_test (taken m i)
    (λ t. ap repeats (claims_taken m i l t) ∙ repeats_behind (claims (plugin_at m i)) (claims_from m (i + 1)) f)
    (λ u. ap repeats (claims_free m i l u) ∙ f))

-- the registry's answer: once place 0 is done, or where two claims from some place on are alike
pub all_differ : (m : List ℕ) (i : ℕ) → i ≤ 0 → repeats (claims_from m i) ≡ false → true ≡ ports_differ (plugins (view m))
unfolding claims_from view
all_differ m i h e = let z : i ≡ 0 = omega arith in let f : repeats (claims_from m 0) ≡ false = rw z at e in rw f

pub two_alike : (m : List ℕ) (i : ℕ) → i ≤ places → repeats (claims_from m i) ≡ true → false ≡ ports_differ (plugins (view m))
unfolding claims_from view
two_alike m i h e = let f : repeats (claims_from m 0) ≡ true = repeats_from m i h e in rw f
