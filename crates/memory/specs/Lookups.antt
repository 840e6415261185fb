-- Searching the places is searching the registry's plugins.
use Rattle.std.specs.Prelude.{ℕ, zero, suc, ◌+◌, ◌<◌, ◌≡◌, refl, Bool, true, false, ◌&&◌, List, eqb, Option, Some, None}
use Rattle.std.proofs.Common.{arith, sym, ap, ◌∙◌}
use Rattle.rules.specs.Basics.{pick, first}
use Rattle.rules.specs.Holds.{Plugin, held, lookup}
use Rattle.rules_laws.specs.Laws.Tests.{by_test, both}
use Rattle.memory.specs.Layout.{taken, places}
use Rattle.memory.specs.View.{plugin_at, place_at, places_from, view}
use Rattle.memory.specs.Writes.{names_at, find_from, find_at}

-- the plugin of a place
abbrev pub placed : List ℕ → Option ℕ → Option Plugin
placed m (Some i) = Some (plugin_at m i)
placed m None = None

-- the first of n places from i on whose plugin passes
unfoldable pub search_from : (Plugin → Bool) → ℕ → List ℕ → ℕ → Option ℕ
search_from f zero m i = None
search_from f (suc n) m i = pick (taken m i && f (plugin_at m i)) (Some i) (search_from f n m (i + 1))

pub search_first : (f : Plugin → Bool) (n : ℕ) (m : List ℕ) (i : ℕ) → first f (held (places_from n m i)) ≡ placed m (search_from f n m i)
unfolding search_from places_from place_at
search_first f zero m i = refl
search_first f (suc n) m i =
    let r = search_first f n m (i + 1) in
    by_test (taken m i)
    (λ t. by_test (f (plugin_at m i)) (λ y. rw t (rw y)) (λ no'. rw t (rw no' r)))
    (λ u. rw u r)

-- what is found is a taken place below the end, and passes
pub record Found (f : Plugin → Bool) (m : List ℕ) (n k : ℕ) : Type 0 where
  pub below : k < n
  pub there : taken m k ≡ true
  pub passes : f (plugin_at m k) ≡ true

pub search_found : (f : Plugin → Bool) (n : ℕ) (m : List ℕ) (i k : ℕ) → search_from f n m i ≡ Some k → Found f m (i + n) k
unfolding search_from
search_found f zero m i k e = let z : ◌≡◌ {A = ℕ} 0 1 = cc in absurd (omega arith)
search_found f (suc n) m i k e = go (taken m i && f (plugin_at m i)) refl (search_found f n m (i + 1) k)
  where
    go : (b : Bool) → (taken m i && f (plugin_at m i)) ≡ b → (search_from f n m (i + 1) ≡ Some k → Found f m (i + 1 + n) k) → Found f m (i + suc n) k
    go true q ih =
        let s : i ≡ k = cc (rw q at e) in
        let w = both (taken m i) (f (plugin_at m i)) q in
        record { below = omega arith; there = rw (← s) w.0; passes = rw (← s) w.1 }
    go false q ih =
        let r : Found f m (i + 1 + n) k = ih (rw q at e) in
        record { below = omega arith; there = r.there; passes = r.passes }

-- Finding an id is such a search.
abbrev pub has_id : ℕ → Plugin → Bool
has_id id p = eqb p.id id

find_search : (n : ℕ) (m : List ℕ) (id i : ℕ) → find_from n m id i ≡ search_from (has_id id) n m i
unfolding find_from search_from names_at plugin_at
find_search zero m id i = refl
find_search (suc n) m id i = rw (find_search n m id (i + 1))

pub lookup_view : (m : List ℕ) (id : ℕ) → lookup (view m) id ≡ placed m (find_at m id)
unfolding lookup view find_at
lookup_view m id = search_first (has_id id) places m 0 ∙ ap (placed m) (sym (find_search places m id 0))

pub find_found : (m : List ℕ) (id k : ℕ) → find_at m id ≡ Some k → Found (has_id id) m places k
unfolding find_at
find_found m id k e = search_found (has_id id) places m 0 k (sym (find_search places m id 0) ∙ e)
