-- Of a load, as the demands speak of operations: a refusal changes nothing, what an accepted one leaves is the rules' loaded registry,
-- and it is a beginning as an opening is.
use Rattle.std.specs.Prelude.{ℕ, ◌≡◌, refl, List, [], ◌⊎◌, eqb, Option, Some, None}
use Rattle.std.proofs.Common.{arith, ap, ◌∙◌, inl, inr}
use Rattle.rules.specs.Holds.{Registry}
use Rattle.rules.specs.Outcomes.{Refused, Accepted}
use Rattle.rules.specs.Text.{Said, text, text_of, read_text}
use Rattle.rules.specs.Conditions.{loadable}
use Rattle.rules.specs.Load.{moved_to, loaded, Opening, refused, opens, opening, load, load_answer, after_load}
use Rattle.rules_laws.specs.Laws.Tests.{by_test}
use Rattle.rules_load.specs.Loaded.{load_opens}
use Rattle.rules_load.proofs.Loaded.{text_loaded}
use Rattle.memory.specs.View.{view}
use Rattle.memory_load.specs.Loading.{words_of}
use Rattle.registry_load.specs.Words.{leaves_load}
use Rattle.demands.specs.Starts as starts
use Rattle.demands.specs.Starts.{Begun, load_view}
use Rattle.demands.specs.Demand2.{Made, begins}

-- Demand 1: on any words, a refused load answers 24 or 25 and leaves the words as they were.
pub demand_1_load : (m : List ℕ) (d : ℕ) (t : List ℕ) (n : ℕ) (vs : List ℕ) → load_answer (load d t) ≡ Refused n vs
    → ((n ≡ 24) ⊎ (n ≡ 25)) × (leaves_load m (load d t) ≡ m)
unfolding load leaves_load
demand_1_load m d t n vs = go (read_text t)
  where
    go : (u : Option Said) → load_answer (opening d u) ≡ Refused n vs → ((n ≡ 24) ⊎ (n ≡ 25)) × (leaves_load m (opening d u) ≡ m)
    go None h = (inl cc, refl)
    go (Some s) h = by_test (loadable s)
        (λ y. by_test (eqb s.domain d)
        (λ a. let k : Refused 25 [] ≡ Refused n vs = rw (y, a) at h in rw (y, a) (inr cc, refl))
        (λ b. let k : Accepted [] ≡ Refused n vs = rw (y, b) at h in let z : ◌≡◌ {A = ℕ} 0 1 = cc in absurd (omega arith)))
        (λ b. let k : Refused 24 [] ≡ Refused n vs = rw b at h in rw b (inl cc, refl))

-- Demand 2: on any words, the registry afterwards, seen as document 01's, is the rules' registry.
pub load_refines : (m : List ℕ) (d : ℕ) (t : List ℕ) → view (leaves_load m (load d t)) ≡ after_load (view m) (load d t)
unfolding leaves_load
load_refines m d t = go (load d t) refl
  where
    go : (o : Opening) → load d t ≡ o → view (leaves_load m o) ≡ after_load (view m) o
    go (refused x) e = refl
    go (opens r) e = load_view d t r e

-- Any load of a made memory leaves a made one, as an opening or an operation does.
pub load_made : (m : List ℕ) → Made m → (d : ℕ) (t : List ℕ) → Made (leaves_load m (load d t))
unfolding leaves_load
load_made m w d t = go (load d t) refl
  where
    go : (o : Opening) → load d t ≡ o → Made (leaves_load m o)
    go (refused x) e = w
    go (opens r) e = begins (words_of r) (starts.loaded d t r e)

-- An accepted load.
module _ (d : ℕ) (t : List ℕ) (r : Registry) (e : load d t ≡ opens r) where
  pub loads_begun : Begun (words_of r)
  loads_begun = starts.loaded d t r e

  pub loads_made : Made (words_of r)
  loads_made = begins (words_of r) loads_begun

  -- under the domain that the caller gives
  pub loads_domain : (view (words_of r)).domain ≡ d
  loads_domain = ap (λ (q : Registry). q.domain) (load_view d t r e ∙ (load_opens d t r e).3)

  -- The text of what it leaves is the loaded text but for the domain and the Queued roots.
  pub text_after_load : (s : Said) → read_text t ≡ Some s → text_of (view (words_of r)) ≡ text.write (moved_to d s)
  text_after_load s i =
      let o = load_opens d t r e in
      let j : o.0 ≡ s = cc in
      ap text_of (load_view d t r e ∙ o.3) ∙ text_loaded d o.0 o.2 ∙ ap (λ s. text.write (moved_to d s)) j
