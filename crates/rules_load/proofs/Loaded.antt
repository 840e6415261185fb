-- A load: the loaded registry starts runs as an opening does, its text is the old one, and every registry that operations build from
-- an opening or a load meets the conditions again.
use Rattle.std.specs.Prelude.{ℕ, true, List, map, ◌≢◌}
use Rattle.std.proofs.Common.{arith, sym, ◌∙◌, subst}
use Rattle.std.proofs.Math.Path.{◌≡◌, ap, subst⁻¹}
use Rattle.rules_types.specs.declared.Root.{Root}
use Rattle.rules_types.specs.declared.Root.TheVariants.{Unissued, Queued, Spent}
use Rattle.rules.specs.Limits.{max_plugins}
use Rattle.rules.specs.Holds.{Plugin, Registry, plugins, lookup}
use Rattle.rules.specs.Steps.{Op, Call, answer_to, run}
use Rattle.rules.specs.Admission.{Invocation}
use Rattle.rules.specs.Text.{Said, by_id, said, text, text_of}
use Rattle.rules.proofs.Text.{read_written, written_read}
use Rattle.rules.specs.Conditions.{loadable}
use Rattle.rules.specs.Load.{unqueued_root, unqueued, moved_to, loaded, opens, load}
use Rattle.rules_laws.specs.History.{story, Demand3}
use Rattle.rules_laws.specs.Demand3.{Start}
use Rattle.rules_laws.proofs.Demand3.{demand_3}
use Rattle.rules_laws.specs.Laws.Members.{In, lookup_in}
use Rattle.rules_laws.specs.Built.{Built}
use Rattle.rules_laws.specs.Kept.{opened_built, step_built, built_start}
use Rattle.text_laws.specs.Rising.{by_id_found}
use Rattle.rules_laws.specs.Laws.Placed.{length_placed}
use Rattle.rules_load.specs.Formed.{Formed, text_formed}
use Rattle.rules_load.specs.Laws.Unqueued.{if_unqueued, among_unqueued, moved_loadable, was, moved_formed}
use Rattle.rules_load.specs.Twin.{built_loadable, loadable_built}
use Rattle.rules_load.specs.Loaded.{once_in_places, said_loaded, loaded_plugins, load_fits, load_opens, Reached, by_opening, by_load, by_step}

module _ (d : ℕ) (s : Said) (e : loadable s ≡ true) where
  -- Writing the loaded registry gives the old text but for the domain and the Queued roots.
  pub text_loaded : text_of (loaded d s) ≡ text.write (moved_to d s)
  unfolding text_of
  text_loaded = ap (λ s. text.write s) (said_loaded d s e)

-- The loaded registry is one that runs start from.
module _ (d : ℕ) (s : Said) (f : Formed s) (e : loadable s ≡ true) where
  pub loaded_built : Built (loaded d s)
  loaded_built =
      let m = moved_loadable d s e in
      let i = sym (said_loaded d s e) in
      loadable_built (loaded d s) (length_placed max_plugins (map unqueued s.plugins)) (once_in_places (moved_to d s) m)
      (subst Formed i (moved_formed d s f))
      (subst (λ t. loadable t ≡ true) i m)

  -- No root is Queued: demand 3's sequence starts anew at the load.
  pub loaded_start : Start (loaded d s)
  loaded_start = built_start (loaded d s) loaded_built λ x p i v a j.
      let w = was s.plugins p (subst (In p) (loaded_plugins d s e) (lookup_in (loaded d s) x p i)) in
      no_queue w.0.root v a (ap (λ (p : Plugin). p.root) w.2 ∙ j)
    where
      no_queue : (o : Root) (v a : ℕ) → unqueued_root o ≢ Queued v a
      no_queue Unissued v a i = let z : ◌≡◌ {A = ℕ} 0 1 = cc in omega arith
      no_queue (Queued w b) v a i = let z : ◌≡◌ {A = ℕ} 0 1 = cc in omega arith
      no_queue Spent v a i = let z : ◌≡◌ {A = ℕ} 0 1 = cc in omega arith

  -- So demand 3 holds over every sequence from a load.
  pub loaded_demand_3 : (ops : List Op) (t : Invocation)
      → Demand3 d t (story (loaded d s) t.id (run (loaded d s) ops).events) (answer_to (run (loaded d s) ops).registry (Call t))
  loaded_demand_3 ops t = demand_3 (loaded d s) loaded_start ops t

-- What an accepted load opens.
module _ (d : ℕ) (t : List ℕ) (r : Registry) (e : load d t ≡ opens r) where
  pub opens_built : Built r
  opens_built = let o = load_opens d t r e in subst⁻¹ Built o.3 (loaded_built d o.0 (text_formed t o.0 o.1) o.2)

  pub opens_start : Start r
  opens_start = let o = load_opens d t r e in subst⁻¹ Start o.3 (loaded_start d o.0 (text_formed t o.0 o.1) o.2)

  pub opens_text : (s : Said) × (t ≡ text.write s) × (text_of r ≡ text.write (moved_to d s))
  opens_text = let o = load_opens d t r e in (o.0, sym (written_read t o.0 o.1).1, ap text_of o.3 ∙ text_loaded d o.0 o.2)

-- It is built,
pub reached_built : {r : Registry} → Reached r → Built r
reached_built (by_opening d f l) = opened_built d f l
reached_built (by_load d t {r} e) = opens_built d t r e
reached_built (by_step {r} k o) = step_built r (reached_built k) o

-- and meets the conditions.
pub reached_loadable : {r : Registry} → Reached r → loadable (said r) ≡ true
reached_loadable {r} k = built_loadable r (reached_built k)

-- So its text loads, and every plugin is found under its id as it was, but for a Queued root.
pub reached_loads : {r : Registry} (d : ℕ) → Reached r → text.Fits (said r) → r.domain ≢ d → load d (text_of r) ≡ opens (loaded d (said r))
reached_loads {r} d k h n = load_fits d (text_of r) (said r) (read_written r h) (reached_loadable k) n

pub reloaded_lookup : {r : Registry} (d : ℕ) → Reached r → (x : ℕ) → lookup (loaded d (said r)) x ≡ if_unqueued (lookup r x)
unfolding lookup
reloaded_lookup {r} d k x =
    rw (loaded_plugins d (said r) (reached_loadable k)) (among_unqueued (by_id (plugins r)) x ∙ ap if_unqueued (by_id_found x (plugins r)))
