-- A set whose ids pass the checks: they are different, and each names a plugin that begin would take up; so they are no more than there
-- are plugins.
use Rattle.std.specs.Prelude.{ℕ, ◌≤◌, ◌≡◌, refl, true, false, not, List, [], ◌∷◌, ◌++◌, eqb, length, Option, Some, None}
use Rattle.std.proofs.Common.{arith, sym, ap, ◌∙◌, true≢false, ⊎_elim, eqb-true, eq-eqb, ne_eqb}
use Rattle.std.proofs.Math.ListN.{length-map}
use Rattle.std.proofs.lemmas.Bool.{not-false}
use Rattle.rules.specs.Basics.{first, holds, is_none, twice, last}
use Rattle.rules.specs.Holds.{Plugin, Registry, plugins, count, lookup, is_idle}
use Rattle.rules.specs.Outcomes.{Check}
use Rattle.rules.specs.Orders.{named, id_checks, checks_behind, set_checks}
use Rattle.rules_laws.specs.Built.{ids_of}
use Rattle.rules_laws.specs.Laws.Tests.{by_test, Passed}
use Rattle.rules_orders.specs.Ids.{Within, named_head, named_tail, named_cases, named_left, named_right, no_more}

pub passed_split : (cs ds : List Check) → Passed (cs ++ ds) → Passed cs × Passed ds
passed_split [] ds h = (tt, h)
passed_split (c ∷ cs) ds h = let s = passed_split cs ds h.1 in ((h.0, s.0), s.1)

registered_named : (ps : List Plugin) (id : ℕ) (p : Plugin) → first (λ (q : Plugin). eqb q.id id) ps ≡ Some p → named id (ids_of ps) ≡ true
registered_named [] id p e = let z : ◌≡◌ {A = ℕ} 0 1 = cc in absurd (omega arith)
registered_named (q ∷ ps) id p e =
    let f = registered_named ps id p in
    by_test (eqb q.id id)
    (λ t. rw (eq-eqb id q.id (sym (eqb-true q.id id t))))
    (λ n. named_tail id q.id (ids_of ps) (f (rw n at e)))

module _ (r : Registry) where
  checks_new : (earlier set : List ℕ) → Passed (checks_behind r earlier set) → (y : ℕ) → named y earlier ≡ true → named y set ≡ false
  checks_new earlier [] h y m = refl
  checks_new earlier (x ∷ set) h y m =
      let s = passed_split (id_checks r earlier x) (checks_behind r (earlier ++ x ∷ []) set) h in
      rw (ne_eqb y x (λ e. true≢false (sym m ∙ ap (λ z. named z earlier) e ∙ s.0.0)))
      (checks_new (earlier ++ x ∷ []) set s.1 y (named_left y earlier (x ∷ []) m))

  checks_once : (earlier set : List ℕ) → Passed (checks_behind r earlier set) → twice set ≡ false
  checks_once earlier [] h = refl
  checks_once earlier (x ∷ set) h =
      let s = passed_split (id_checks r earlier x) (checks_behind r (earlier ++ x ∷ []) set) h in
      rw (checks_new (earlier ++ x ∷ []) set s.1 x (named_right x earlier (x ∷ []) (named_head x [])))
      (checks_once (earlier ++ x ∷ []) set s.1)

  -- what passed of each id of the set
  pub record Startable (id : ℕ) : Type 0 where
    pub plugin : Plugin
    pub registered : lookup r id ≡ Some plugin
    pub unretired : plugin.retired ≡ false
    pub idle : is_idle plugin.phase ≡ true
    pub further : eqb plugin.generation last ≡ false

  id_startable : (earlier : List ℕ) (id : ℕ) → Passed (id_checks r earlier id) → Startable id
  id_startable earlier id h = go (lookup r id) refl h.1.0 h.1.1.0 h.1.1.1.0 h.1.1.1.1.0
    where
      go : (u : Option Plugin) → lookup r id ≡ u → is_none u ≡ false → holds (λ (p : Plugin). p.retired) u ≡ false
          → holds (λ (p : Plugin). not (is_idle p.phase)) u ≡ false → holds (λ (p : Plugin). eqb p.generation last) u ≡ false → Startable id
      go None e a b c d = absurd (true≢false a)
      go (Some p) e a b c d = record { plugin = p; registered = e; unretired = b; idle = not-false _ c; further = d }

  checks_startable : (earlier set : List ℕ) → Passed (checks_behind r earlier set) → (y : ℕ) → named y set ≡ true → Startable y
  checks_startable earlier [] h y m = absurd (true≢false (sym m))
  checks_startable earlier (x ∷ set) h y m =
      let s = passed_split (id_checks r earlier x) (checks_behind r (earlier ++ x ∷ []) set) h in
      let f = checks_startable (earlier ++ x ∷ []) set s.1 y in
      ⊎_elim (λ e. rw e (id_startable earlier x s.0)) f (named_cases y x set m)

  module _ (set : List ℕ) (h : Passed (set_checks r set)) where
    pub set_once : twice set ≡ false
    set_once = checks_once [] set h

    pub set_startable : (y : ℕ) → named y set ≡ true → Startable y
    set_startable = checks_startable [] set h

    pub set_size : length set ≤ count r
    unfolding count lookup
    set_size =
        let ids = ids_of (plugins r) in
        let w : Within set ids = λ y m. let s = set_startable y m in registered_named (plugins r) y s.plugin s.registered in
        omega (arith, no_more set ids set_once w, length-map (plugins r) (λ (q : Plugin). q.id))
