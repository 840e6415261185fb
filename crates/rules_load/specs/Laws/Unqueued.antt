-- Where Queued roots become Unissued, every condition that was met is met.
use Rattle.std.specs.Prelude.{ℕ, zero, suc, ◌+◌, ◌≤◌, ◌≡◌, refl, Bool, true, not, ◌&&◌, List, [], ◌∷◌, map, eqb, ltb, Option, Some, None}
use Rattle.std.proofs.Common.{sym, ap, ◌∙◌, subst, true≢false, inl, inr}
use Rattle.std.proofs.lemmas.List.{length-map}
use Rattle.rules_types.specs.declared.Port.{Port}
use Rattle.rules_types.specs.declared.Root.{Root}
use Rattle.rules_types.specs.declared.Root.TheVariants.{Unissued, Queued, Spent}
use Rattle.rules.specs.Basics.{any, all, only, or_none, is_none, is_some, last, ◌⊃◌}
use Rattle.rules.specs.Holds.{Provision, Plugin, provides, running, sum_rows, rows_of, is_idle, is_active}
use Rattle.rules.specs.Phases.{is_spent}
use Rattle.rules.specs.Admission.{is_unissued}
use Rattle.rules.specs.Registration.{inherited_from}
use Rattle.rules.specs.Text.{Said}
use Rattle.rules.specs.Load.{unqueued_root, unqueued, moved_to}
use Rattle.rules.specs.Limits.{max_plugins}
use Rattle.rules.specs.Conditions.{among, ids_rise, parent_lower, lists_short, realms_rise, claims_of, provisions_resolved, parent_in}
use Rattle.rules.specs.Conditions.{by_rule, begun_once, idle_clean, active_whole, queued_by, queued_within, active_in, dependencies_served}
use Rattle.rules.specs.Conditions.{needs, waits, still_waiting, none_left_after, no_cycles, loadable}
use Rattle.rules_laws.specs.Laws.Tests.{by_test, both}
use Rattle.rules_laws.specs.Laws.Members.{In}
use Rattle.rules_load.specs.Formed.{Formed}
use Rattle.rules_load.specs.Meets.{loadable_meets, meets_loadable}

any_map : {A B : Type 0} (f : B → Bool) (g : A → B) (l : List A) → any f (map g l) ≡ any (λ a. f (g a)) l
any_map f g [] = refl
any_map f g (x ∷ l) = rw (any_map f g l)

all_map : {A B : Type 0} (f : B → Bool) (g : A → B) (l : List A) → all f (map g l) ≡ all (λ a. f (g a)) l
all_map f g [] = refl
all_map f g (x ∷ l) = rw (all_map f g l)

-- a test that each plugin passed, and passes still
still : (f g : Plugin → Bool) → ((a : Plugin) → f a ≡ true → g (unqueued a) ≡ true) → (l : List Plugin) → all f l ≡ true → all g (map unqueued l) ≡ true
still f g h [] e = refl
still f g h (p ∷ l) e = let w = both (f p) (all f l) e in rw (h p w.0, still f g h l w.1)

-- the plugin without its queue, if there is one
abbrev pub if_unqueued : Option Plugin → Option Plugin
if_unqueued None = None
if_unqueued (Some p) = Some (unqueued p)

pub among_unqueued : (l : List Plugin) (x : ℕ) → among (map unqueued l) x ≡ if_unqueued (among l x)
among_unqueued [] x = refl
among_unqueued (p ∷ l) x = by_test (eqb p.id x) (λ y. rw y) (λ n. rw (n, among_unqueued l x))

pub there_unqueued : (l : List Plugin) (x : ℕ) → is_some (among (map unqueued l) x) ≡ is_some (among l x)
there_unqueued l x = rw (among_unqueued l x) (go (among l x))
  where
    go : (u : Option Plugin) → is_some (if_unqueued u) ≡ is_some u
    go None = refl
    go (Some p) = refl

pub parents_unqueued : (l : List Plugin) (v : Option ℕ) → inherited_from (parent_in (map unqueued l) v) ≡ inherited_from (parent_in l v)
parents_unqueued l None = refl
parents_unqueued l (Some x) = rw (among_unqueued l x) (go (among l x))
  where
    go : (u : Option Plugin) → inherited_from (if_unqueued u) ≡ inherited_from u
    go None = refl
    go (Some p) = refl

rise_unqueued : (f n : ℕ) (l : List Plugin) → ids_rise f n (map unqueued l) ≡ ids_rise f n l
rise_unqueued f n [] = refl
rise_unqueued f n (p ∷ l) = rw (rise_unqueued (p.id + 1) n l)

pub rows_unqueued : (l : List Plugin) → sum_rows (map unqueued l) ≡ sum_rows l
rows_unqueued [] = refl
rows_unqueued (p ∷ l) = ap (λ n. rows_of p + n) (rows_unqueued l)

pub claims_unqueued : (l : List Plugin) → claims_of (map unqueued l) ≡ claims_of l
claims_unqueued [] = refl
claims_unqueued (p ∷ l) = rw (claims_unqueued l)

lower_unqueued : (l : List Plugin) (a : Plugin) → parent_lower l a ≡ true → parent_lower (map unqueued l) (unqueued a) ≡ true
lower_unqueued l a e = go a.parent e
  where
    go : (v : Option ℕ) → or_none (λ x. ltb x a.id && is_some (among l x)) v ≡ true → or_none (λ x. ltb x a.id && is_some (among (map unqueued l) x)) v ≡ true
    go None h = refl
    go (Some x) h = rw (there_unqueued l x) h

clean_unqueued : (a : Plugin) → idle_clean a ≡ true → idle_clean (unqueued a) ≡ true
clean_unqueued a e = by_test (is_idle a.phase)
    (λ y. rw y (go a.root (rw y at e)))
    (λ n. rw n)
  where
    go : (o : Root) → (is_unissued o && all (λ (v : Provision). is_none v.value) a.provisions) ≡ true
        → (is_unissued (unqueued_root o) && all (λ (v : Provision). is_none v.value) a.provisions) ≡ true
    go Unissued h = h
    go (Queued v b) h = absurd (true≢false (sym h))
    go Spent h = absurd (true≢false (sym h))

whole_unqueued : (a : Plugin) → active_whole a ≡ true → active_whole (unqueued a) ≡ true
whole_unqueued a e = by_test (is_active a.phase)
    (λ y. rw y (go a.root (rw y at e)))
    (λ n. rw n)
  where
    go : (o : Root) → (is_spent o && not (any (λ (v : Provision). is_none v.value) a.provisions)) ≡ true
        → (is_spent (unqueued_root o) && not (any (λ (v : Provision). is_none v.value) a.provisions)) ≡ true
    go Unissued h = absurd (true≢false (sym h))
    go (Queued v b) h = absurd (true≢false (sym h))
    go Spent h = h

none_queued : (o : Root) (v : ℕ) → queued_by (unqueued_root o) v ≡ true
none_queued Unissued v = refl
none_queued (Queued w a) v = refl
none_queued Spent v = refl

active_unqueued : (l : List Plugin) (k : Port) → active_in (map unqueued l) k ≡ active_in l k
active_unqueued l k = any_map (λ (q : Plugin). is_active q.phase && provides q k) unqueued l

pub served_unqueued : (l : List Plugin) → all (dependencies_served (map unqueued l)) (map unqueued l) ≡ all (dependencies_served l) l
served_unqueued l =
    all_map (dependencies_served (map unqueued l)) unqueued l
    ∙ ap (λ (f : Port → Bool). all (λ (p : Plugin). running p ⊃ all f p.dependencies) l) (λ i k. active_unqueued l k i)

-- the same are left in each round
only_unqueued : (f g : Plugin → Bool) → ((a : Plugin) → f (unqueued a) ≡ g a) → (l : List Plugin) → only f (map unqueued l) ≡ map unqueued (only g l)
only_unqueued f g h [] = refl
only_unqueued f g h (p ∷ l) = by_test (g p)
    (λ y. rw (h p, y, only_unqueued f g h l))
    (λ n. rw (h p, n, only_unqueued f g h l))

left_unqueued : (n : ℕ) (l : List Plugin) → none_left_after n (map unqueued l) ≡ none_left_after n l
unfolding none_left_after
left_unqueued zero l = rw (length-map l unqueued)
left_unqueued (suc n) l =
    rw (only_unqueued (waits (map unqueued l)) (waits l) (λ a. any_map (needs (unqueued a)) unqueued l) l) (left_unqueued n (still_waiting l))

pub cycles_unqueued : (l : List Plugin) → no_cycles (map unqueued l) ≡ no_cycles l
cycles_unqueued l = ap (none_left_after max_plugins) (only_unqueued running running (λ a. refl) l) ∙ left_unqueued max_plugins (only running l)

pub moved_loadable : (d : ℕ) (s : Said) → loadable s ≡ true → loadable (moved_to d s) ≡ true
moved_loadable d s e =
    let ps = s.plugins in
    let c = loadable_meets s e in
    meets_loadable (moved_to d s) record {
      rise = rise_unqueued s.first s.next ps ∙ c.rise;
      parents = still (parent_lower ps) (parent_lower (map unqueued ps)) (lower_unqueued ps) ps c.parents;
      limits = rw (length-map ps unqueued, rows_unqueued ps) c.limits;
      short = still lists_short lists_short (λ a h. h) ps c.short;
      realms = still realms_rise realms_rise (λ a h. h) ps c.realms;
      ports = rw (claims_unqueued ps) c.ports;
      resolved = still provisions_resolved provisions_resolved (λ a h. h) ps c.resolved;
      ruled = still (by_rule ps) (by_rule (map unqueued ps)) (λ a h. rw (parents_unqueued ps a.parent) h) ps c.ruled;
      begun = still begun_once begun_once (λ a h. h) ps c.begun;
      idle = still idle_clean idle_clean clean_unqueued ps c.idle;
      active = still active_whole active_whole whole_unqueued ps c.active;
      queued = still queued_within queued_within (λ a h. none_queued a.root a.revision) ps c.queued;
      served = served_unqueued ps ∙ c.served;
      acyclic = cycles_unqueued ps ∙ c.acyclic;
    }

-- a plugin of the moved text is one of the text, but for its root
pub was : (l : List Plugin) (a : Plugin) → In a (map unqueued l) → (b : Plugin) × In b l × (unqueued b ≡ a)
was [] a h = elim h [ ]
was (p ∷ l) a (inl i) = (p, inl refl, i)
was (p ∷ l) a (inr m) = let w = was l a m in (w.0, inr w.1, w.2)

pub moved_formed : (d : ℕ) (s : Said) → Formed s → Formed (moved_to d s)
moved_formed d s f = record {
  next = f.next;
  revision = λ a m. let w = was s.plugins a m in subst (λ (p : Plugin). p.revision ≤ last) w.2 (f.revision w.0 w.1);
  generation = λ a m. let w = was s.plugins a m in subst (λ (p : Plugin). p.generation ≤ last) w.2 (f.generation w.0 w.1);
}
