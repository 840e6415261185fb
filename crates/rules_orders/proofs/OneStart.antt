-- The start of one plugin: begun, admitted, called, given its values and made ready, where its dependencies are available.
use Rattle.std.specs.Prelude.{ℕ, ◌+◌, ◌≡◌, refl, true, false, List, [], ◌∷◌, ◌++◌, map, eqb, Some, None}
use Rattle.std.proofs.Common.{sym, ap, ◌∙◌, subst, append-nil, append_assoc, eq-eqb}
use Rattle.std.proofs.lemmas.Simd.{map-map}
use Rattle.rules.specs.Basics.{any, all, is_none, last}
use Rattle.rules_types.specs.declared.Port.{Port}
use Rattle.rules_types.specs.declared.Phase.{Phase}
use Rattle.rules_types.specs.declared.Phase.TheVariants.{Idle, Loading, Active}
use Rattle.rules_types.specs.declared.Root.{Root}
use Rattle.rules_types.specs.declared.Root.TheVariants.{Unissued, Queued, Spent}
use Rattle.rules.specs.Holds.{Provision, Plugin, Registry, lookup, provided, is_in, changed}
use Rattle.rules.specs.Outcomes.{stores, after, checked, found}
use Rattle.rules.specs.Registration.{repeats}
use Rattle.rules.specs.Phases.{available, setup, begin, ready}
use Rattle.rules.specs.Admission.{is_live, receipt, admit, call}
use Rattle.rules.specs.Values.{value_in, offered, offer}
use Rattle.rules.specs.Steps.{Op, Begin, Ready, Admit, Call, Offer, Run, step, go_on, go_on_with}
use Rattle.rules_laws.specs.Built.{Built}
use Rattle.rules_laws.specs.Kept.Places.{only_stored}
use Rattle.rules_orders.proofs.Started.{Since, since_next}
use Rattle.rules_orders.specs.Offers.{in_here, first_time, filled, filled_none, filled_more, unfilled, all_filled}
use Rattle.rules_orders.specs.OneStart.{invocation_of, smooth, start_one, ticket_of}

pub on_append : (n : Run) (os ps : List Op) → go_on_with n (os ++ ps) ≡ go_on_with (go_on_with n os) ps
on_append n [] ps = refl
on_append n (o ∷ os) ps = on_append (go_on n o) os ps

-- Each operation stores the plugin's next stage.
abbrev stage : Plugin → List Provision → Phase → Root → Plugin
stage p vs h o = changed p vs p.revision p.payload h p.retired (p.generation + 1) o

same : (n : ℕ) → eqb n n ≡ true
same n = eq-eqb n n refl

module _ (r : Registry) (x : ℕ) (p : Plugin) (i : p.retired ≡ false) where
  begin_stores : lookup r x ≡ Some p → p.phase ≡ Idle → eqb p.generation last ≡ false → all (available r) p.dependencies ≡ true
      → begin r x ≡ stores (stage p p.provisions Loading Unissued) (r.domain ∷ x ∷ (p.generation + 1) ∷ setup ∷ [])
  unfolding begin found checked
  begin_stores e h g d = rw (e, i, h, g, d)

  admit_stores : (d a : ℕ) (vs : List Provision) → d ≡ r.domain → lookup r x ≡ Some (stage p vs Loading Unissued)
      → admit r (ticket_of d x p) a ≡ stores (stage p vs Loading (Queued p.revision a)) (r.domain ∷ p.id ∷ (p.generation + 1) ∷ p.revision ∷ a ∷ [])
  unfolding admit found checked
  admit_stores d a vs j e = rw (eq-eqb d r.domain j, e, i, same (p.generation + 1))

  call_stores : (d a : ℕ) (vs : List Provision) → d ≡ r.domain → lookup r x ≡ Some (stage p vs Loading (Queued p.revision a))
      → call r (invocation_of d a x p) ≡ stores (stage p vs Loading Spent) (receipt (invocation_of d a x p) p.payload)
  unfolding call found checked is_live
  call_stores d a vs j e = rw (eq-eqb d r.domain j, e, i, same p.revision, same a, same (p.generation + 1))

  offer_stores : (k : Port) (n : ℕ) (vs : List Provision) → is_in k (map (λ (u : Provision). u.port) vs) ≡ true → value_in k vs ≡ None
      → lookup r x ≡ Some (stage p vs Loading Spent) → offer r x k n ≡ stores (stage p (map (offered k n) vs) Loading Spent) []
  unfolding offer found checked
  offer_stores k n vs h w e = rw (e, i, h, w)

  ready_stores : (vs : List Provision) → any (λ (u : Provision). is_none u.value) vs ≡ false
      → lookup r x ≡ Some (stage p vs Loading Spent) → ready r x ≡ stores (stage p vs Active Spent) []
  unfolding ready found checked
  ready_stores vs h e = rw (e, i, h)

-- While plugin x is started from m on: it has become q, and the others are as they were.
pub record During (s : Registry) (m : Run) (x : ℕ) (n : Run) (q : Plugin) : Type 0 where
  pub accepted : smooth n.events ≡ true
  pub since : Since s n
  pub here : lookup n.registry x ≡ Some q
  pub other : (y : ℕ) → eqb x y ≡ false → lookup n.registry y ≡ lookup m.registry y

module _ (s : Registry) (b : Built s) (m : Run) (x : ℕ) where
  -- one operation more
  goes_on_lem : (n : Run) (p q : Plugin) → During s m x n p → (o : Op) {vs : List ℕ} → q.id ≡ x → step n.registry o ≡ stores q vs → During s m x (go_on n o) q
  goes_on_lem n p q w o {vs} i e =
      let r = n.registry in
      let c = only_stored r vs p q (ap (lookup r) i ∙ w.here) in
      let k : (y : ℕ) → lookup (go_on n o).registry y ≡ lookup (after r (stores q vs)) y = λ y. ap (λ u. lookup (after r u) y) e in
      record {
        accepted = rw e w.accepted;
        since = since_next s b n w.since o;
        here = k x ∙ ap (lookup (after r (stores q vs))) (sym i) ∙ c.now;
        other = λ y g. k y ∙ c.other y (ap (λ z. eqb z y) i ∙ g) ∙ w.other y g;
      }

  module _ (p : Plugin) (i : p.retired ≡ false) (j : p.id ≡ x) (v : Port → ℕ) (h : repeats (provided p) ≡ false) where
    -- the values of its provisions, one after the other
    offers_go : (front rest : List Port) → front ++ rest ≡ provided p → (n : Run)
        → During s m x n (stage p (map (filled v front) p.provisions) Loading Spent)
        → During s m x (go_on_with n (map (λ k. Offer x k (v k)) rest)) (stage p (map (filled v (front ++ rest)) p.provisions) Loading Spent)
    offers_go front [] e n w = rw append-nil w
    offers_go front (k ∷ rest) e n w =
        let ps = p.provisions in
        let done = front ++ k ∷ [] in
        let f = first_time front k rest (rw e h) in
        let g = map-map (λ (u : Provision). u.port) (filled v front) ps ∙ sym e in
        let c = offer_stores n.registry x p i k (v k) (map (filled v front) ps) (rw g (in_here front k rest)) (unfilled v front k f ps) w.here in
        let next = goes_on_lem n _ (stage p (map (filled v done) ps) Loading Spent) w (Offer x k (v k)) j (rw (filled_more v front k ps) at c) in
        let a = append_assoc front (k ∷ []) rest in
        subst (λ l. During s m x (go_on_with n (map (λ k. Offer x k (v k)) (k ∷ rest))) (stage p (map (filled v l) ps) Loading Spent)) a
        (offers_go done rest (a ∙ e) (go_on n (Offer x k (v k))) next)

    -- and the whole start
    pub one_starts : (a : ℕ) → smooth m.events ≡ true → Since s m → lookup m.registry x ≡ Some p → p.phase ≡ Idle → eqb p.generation last ≡ false
        → all (λ (u : Provision). is_none u.value) p.provisions ≡ true → all (available m.registry) p.dependencies ≡ true
        → During s m x (go_on_with m (start_one s.domain a v x p)) (stage p (map (filled v (provided p)) p.provisions) Active Spent)
    one_starts a t f e idle g bare d =
        let ps = p.provisions in
        let o₁ = Begin x in
        let o₂ = Admit (ticket_of s.domain x p) a in
        let o₃ = Call (invocation_of s.domain a x p) in
        let os = map (λ k. Offer x k (v k)) (provided p) in
        let m₁ = go_on m o₁ in
        let m₂ = go_on m₁ o₂ in
        let m₃ = go_on m₂ o₃ in
        let m₄ = go_on_with m₃ os in
        let w₀ : During s m x m p = record { accepted = t; since = f; here = e; other = λ y n. refl } in
        let w₁ = goes_on_lem m p _ w₀ o₁ j (begin_stores m.registry x p i e idle g d) in
        let w₂ = goes_on_lem m₁ _ _ w₁ o₂ j (admit_stores m₁.registry x p i s.domain a ps (sym w₁.since.domain) w₁.here) in
        let w₃ = goes_on_lem m₂ _ _ w₂ o₃ j (call_stores m₂.registry x p i s.domain a ps (sym w₂.since.domain) w₂.here) in
        let w₄ = offers_go [] (provided p) refl m₃ (rw (filled_none v ps bare) w₃) in
        rw (on_append m₃ os (Ready x ∷ [])) (goes_on_lem m₄ _ _ w₄ (Ready x) j (ready_stores m₄.registry x p i _ (all_filled v [] ps) w₄.here))
