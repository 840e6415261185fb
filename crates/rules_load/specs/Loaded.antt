-- What a load gives: the loaded registry says what the text said, and exactly the loadable texts open one.
use Rattle.std.specs.Prelude.{ℕ, ◌≤◌, true, false, List, map, ◌≢◌, eqb, leb, length, Option, Some, None}
use Rattle.std.proofs.Common.{arith, ◌∙◌}
use Rattle.std.proofs.Math.Path.{◌≡◌, refl, ap}
use borrow.Author.Tests.{eq-eqb, ne_eqb, leb-true}
use Rattle.rules.specs.Basics.{twice, last}
use Rattle.rules.specs.Limits.{max_plugins, max_rows}
use Rattle.rules.specs.Holds.{Registry, plugins, opened, sum_rows}
use Rattle.rules.specs.Refusals.{BadText, SameDomain}
use Rattle.rules.specs.Steps.{Op, after_step}
use Rattle.rules.specs.Text.{Said, by_id, said, read_text}
use Rattle.rules.specs.Conditions.{loadable}
use Rattle.rules.specs.Load.{unqueued, moved_to, in_places, loaded, refused, opens, opening, load}
use Rattle.rules_laws.specs.Laws.Tests.{by_test, both}
use Rattle.rules_laws.specs.Built.{ids_of}
use Rattle.rules_laws.specs.Laws.Placed.{held_placed}
use Rattle.rules_load.specs.Meets.{loadable_meets}
use Rattle.rules_load.specs.Laws.Sorting.{rises_strictly, rises_once, rises_sorted}
use Rattle.rules_load.specs.Laws.Unqueued.{moved_loadable}

-- What is in places says what was said, and no id stands in two of them.
module _ (s : Said) (e : loadable s ≡ true) where
  in_places_lem : plugins (in_places s) ≡ s.plugins
  in_places_lem =
      let few = leb (length s.plugins) max_plugins in
      held_placed max_plugins s.plugins (leb-true _ _ (both few (leb (sum_rows s.plugins) max_rows) (loadable_meets s e).limits).0)

  pub said_in_places : said (in_places s) ≡ s
  said_in_places =
      let rises = rises_strictly s.next s.first s.plugins (loadable_meets s e).rise in
      ap (λ ps. record { domain = s.domain; first = s.first; next = s.next; plugins = ps })
      (ap by_id in_places_lem ∙ rises_sorted s.plugins rises)

  pub once_in_places : twice (ids_of (plugins (in_places s))) ≡ false
  once_in_places =
      rw in_places_lem (rises_once s.plugins (rises_strictly s.next s.first s.plugins (loadable_meets s e).rise))

module _ (d : ℕ) (s : Said) (e : loadable s ≡ true) where
  -- The loaded registry says what was said but for the domain and the Queued roots.
  pub said_loaded : said (loaded d s) ≡ moved_to d s
  said_loaded = said_in_places (moved_to d s) (moved_loadable d s e)

  pub loaded_plugins : plugins (loaded d s) ≡ map unqueued s.plugins
  loaded_plugins = in_places_lem (moved_to d s) (moved_loadable d s e)

-- Exactly the texts that say something loadable open a registry, under another domain than theirs: 24 and then 25 refuse the others.
module _ (d : ℕ) (t : List ℕ) where
  module _ (s : Said) (i : read_text t ≡ Some s) where
    pub load_unfit : loadable s ≡ false → load d t ≡ refused BadText
    unfolding load
    load_unfit e = rw (i, e)

    pub load_same : loadable s ≡ true → s.domain ≡ d → load d t ≡ refused SameDomain
    unfolding load
    load_same e j = rw (i, e, j) (rw (eq-eqb d d refl))

    pub load_fits : loadable s ≡ true → s.domain ≢ d → load d t ≡ opens (loaded d s)
    unfolding load
    load_fits e n = rw (i, e, ne_eqb s.domain d n)

  pub load_opens : (r : Registry) → load d t ≡ opens r → (s : Said) × (read_text t ≡ Some s) × (loadable s ≡ true) × (r ≡ loaded d s)
  unfolding load
  load_opens r e = go (read_text t) refl e
    where
      go : (u : Option Said) → read_text t ≡ u → opening d u ≡ opens r → (s : Said) × (read_text t ≡ Some s) × (loadable s ≡ true) × (r ≡ loaded d s)
      go None i h = let z : ◌≡◌ {A = ℕ} 0 1 = cc in absurd (omega arith)
      go (Some s) i h = by_test (loadable s)
          (λ y. by_test (eqb s.domain d)
          (λ a. let k : refused SameDomain ≡ opens r = rw (y, a) at h in let z : ◌≡◌ {A = ℕ} 0 1 = cc in absurd (omega arith))
          (λ n. let k : opens (loaded d s) ≡ opens r = rw (y, n) at h in let j : r ≡ loaded d s = cc in (s, i, y, j)))
          (λ n. let k : refused BadText ≡ opens r = rw n at h in let z : ◌≡◌ {A = ℕ} 0 1 = cc in absurd (omega arith))

-- Every registry that operations build, from an opening or a load.
pub data Reached : Registry → Type 0 where
  by_opening : (d f : ℕ) → f ≤ last → Reached (opened d f)
  by_load : (d : ℕ) (t : List ℕ) {r : Registry} → load d t ≡ opens r → Reached r
  by_step : {r : Registry} → Reached r → (o : Op) → Reached (after_step r o)
