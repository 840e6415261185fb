-- One plugin: what each change keeps of it.
use Rattle.std.specs.Prelude.{ℕ, ◌+◌, ◌≤◌, ◌≡◌, refl, Bool, true, false, List, [], ◌∷◌, map, ◌≢◌, length}
use Rattle.std.proofs.Common.{arith, sym, ap, ◌∙◌, subst, true≢false}
use Rattle.std.proofs.lemmas.List.{length-map}
use Rattle.rules.specs.Basics.{all, any, is_none, last}
use Rattle.rules_types.specs.declared.Port.{Port}
use Rattle.rules_types.specs.declared.Phase.{Phase}
use Rattle.rules_types.specs.declared.Phase.TheVariants.{Idle, Loading, Active, Unloading}
use Rattle.rules_types.specs.declared.Root.{Root}
use Rattle.rules_types.specs.declared.Root.TheVariants.{Unissued, Queued, Spent}
use Rattle.rules.specs.Holds.{Provision, Plugin, is_idle, is_active}
use Rattle.rules.specs.Holds.{provided, provides, rows_of, changed, with_provisions, with_generation, with_root}
use Rattle.rules.specs.Phases.{Begin, Ready, Fail, Unload, Finish, moved, dropped}
use Rattle.rules_laws.specs.Laws.Members.{In}
use Rattle.rules_laws.specs.Built.{Shaped, Lively}

-- What registration fixed stays.
pub record Alike (p q : Plugin) : Type 0 where
  pub id : q.id ≡ p.id
  pub parent : q.parent ≡ p.parent
  pub anchor : q.anchor ≡ p.anchor
  pub realms : q.realms ≡ p.realms
  pub dependencies : q.dependencies ≡ p.dependencies
  pub provisions : provided q ≡ provided p

-- every change is of this kind
pub alike : (p : Plugin) {ps : List Provision} {v w g : ℕ} {h : Phase} {m : Bool} {o : Root}
    → map (λ (v : Provision). v.port) ps ≡ provided p → Alike p (changed p ps v w h m g o)
alike p e = record { id = refl; parent = refl; anchor = refl; realms = refl; dependencies = refl; provisions = e }

module _ (p q : Plugin) (s : Alike p q) where
  pub as_many_lem : length q.provisions ≡ length p.provisions
  as_many_lem = sym (length-map q.provisions _) ∙ ap length s.provisions ∙ length-map p.provisions _

  pub alike_rows : rows_of q ≡ rows_of p
  alike_rows = rw (s.dependencies, as_many_lem)

  pub alike_provides : (k : Port) → provides q k ≡ provides p k
  alike_provides k = rw (s.provisions, s.anchor)

  pub alike_shaped : Shaped p → Shaped q
  alike_shaped a = record {
    realm_rows_lem = rw s.realms a.realm_rows_lem;
    rise = rw s.realms a.rise;
    provisions = rw as_many_lem a.provisions;
    dependencies = rw s.dependencies a.dependencies;
    resolved = λ k m. rw s.realms (a.resolved k (subst (In k) s.provisions m));
    apart = rw (s.anchor, s.provisions) a.apart;
  }

-- no provision has a value
pub unvalued : {A : Type 0} (f : A → Provision) → ((a : A) → is_none (f a).value ≡ true) → (l : List A)
    → all (λ (v : Provision). is_none v.value) (map f l) ≡ true
unvalued f h [] = refl
unvalued f h (a ∷ l) = rw (h a, unvalued f h l)

-- neither Idle nor Active: nothing is asked of the values
midway : (q : Plugin) → is_idle q.phase ≡ false → is_active q.phase ≡ false → 1 ≤ q.generation
    → ((v a : ℕ) → q.root ≡ Queued v a → v ≤ q.revision) → q.revision ≤ last → q.generation ≤ last → Lively q
midway q n m b o v g = record {
  idle_root = λ i. absurd (true≢false (sym (ap is_idle i) ∙ n));
  idle_values = λ i. absurd (true≢false (sym (ap is_idle i) ∙ n));
  active_root = λ i. absurd (true≢false (sym (ap is_active i) ∙ m));
  active_values = λ i. absurd (true≢false (sym (ap is_active i) ∙ m));
  begun = λ _. b;
  queued = o;
  revision = v;
  generation = g;
}

module _ (p : Plugin) (l : Lively p) where
  begun : (h : Phase) → p.phase ≡ h → is_idle h ≡ false → 1 ≤ p.generation
  begun h e n = l.begun (ap is_idle e ∙ n)

  pub lively_begun : p.phase ≡ Idle → p.generation ≢ last → Lively (moved Begin (with_generation (p.generation + 1) (with_root Unissued p)))
  lively_begun e n = midway _ (rw e) (rw e) (omega arith) (λ v a i. let z : ◌≡◌ {A = ℕ} 0 1 = cc in omega arith) l.revision (omega (arith, l.generation))

  pub lively_ready : p.phase ≡ Loading → p.root ≡ Spent → any (λ (v : Provision). is_none v.value) p.provisions ≡ false → Lively (moved Ready p)
  lively_ready e s f = record {
    idle_root = λ i. let j : Active ≡ Idle = rw e at i in cc;
    idle_values = λ i. let j : Active ≡ Idle = rw e at i in cc;
    active_root = λ _. s;
    active_values = λ _. f;
    begun = λ _. begun Loading e refl;
    queued = l.queued;
    revision = l.revision;
    generation = l.generation;
  }

  pub lively_failed : p.phase ≡ Loading → Lively (moved Fail p)
  lively_failed e = midway _ (rw e) (rw e) (begun Loading e refl) l.queued l.revision l.generation

  pub lively_unloaded : p.phase ≡ Active → Lively (moved Unload p)
  lively_unloaded e = midway _ (rw e) (rw e) (begun Active e refl) l.queued l.revision l.generation

  pub lively_finished : p.phase ≡ Unloading → Lively (moved Finish (with_provisions (map dropped p.provisions) (with_root Unissued p)))
  lively_finished e = record {
    idle_root = λ _. refl;
    idle_values = λ _. unvalued dropped (λ _. refl) p.provisions;
    active_root = λ i. let j : Idle ≡ Active = rw e at i in cc;
    active_values = λ i. let j : Idle ≡ Active = rw e at i in cc;
    begun = λ _. begun Unloading e refl;
    queued = λ v a i. let z : ◌≡◌ {A = ℕ} 0 1 = cc in omega arith;
    revision = l.revision;
    generation = l.generation;
  }

  -- another payload, another mark, a revision that is not below
  pub lively_noted : (v w : ℕ) (m : Bool) → p.revision ≤ v → v ≤ last → Lively (changed p p.provisions v w p.phase m p.generation p.root)
  lively_noted v w m above below = record {
    idle_root = l.idle_root;
    idle_values = l.idle_values;
    active_root = l.active_root;
    active_values = l.active_values;
    begun = l.begun;
    queued = λ x a i. let n = l.queued x a i in omega arith;
    revision = below;
    generation = l.generation;
  }

  pub lively_rooted : (o : Root) → p.phase ≡ Loading → ((v a : ℕ) → o ≡ Queued v a → v ≤ p.revision) → Lively (with_root o p)
  lively_rooted o e f = midway _ (rw e) (rw e) (begun Loading e refl) f l.revision l.generation

  pub lively_offered : (ps : List Provision) → p.phase ≡ Loading → Lively (with_provisions ps p)
  lively_offered ps e = midway _ (rw e) (rw e) (begun Loading e refl) l.queued l.revision l.generation
