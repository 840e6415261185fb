-- Whether a plugin is Active, read off the history of accepted operations: each step makes it so, or not, as the history says.
use Rattle.std.specs.Prelude.{ℕ, ◌≡◌, Bool, false, List, [], Option, Some, None}
use Rattle.std.proofs.Math.Path.{refl, sym, ap}
use Rattle.std.proofs.Common.{◌∙◌}
use Rattle.std.proofs.Math.Dec.{eqb}
use borrow.Author.Tests.{eqb-true, eq-eqb, not-false}
use Rattle.rules.specs.Holds.{Plugin, Registry, lookup, is_loading, is_active}
use Rattle.rules.specs.Refusals.{Refusal, Unknown}
use Rattle.rules.specs.Outcomes.{Reply, refusing, accepting, Outcome, tells, writes, stores, adds, removes, refuses}
use Rattle.rules.specs.Outcomes.{answer_of, after, Check, checked, known, handing_back}
use Rattle.rules.specs.Registration.{Definition, register}
use Rattle.rules.specs.Phases.{begin, ready, fail, unload, finish}
use Rattle.rules.specs.Replacement.{replace}
use Rattle.rules.specs.Admission.{admit, call}
use Rattle.rules.specs.Retirement.{retire, retire_found, retire_child, remove}
use Rattle.rules.specs.Values.{offer}
use Rattle.rules.specs.Steps.{Op, Register, Begin, Ready, Fail, Unload, Finish, Replace, Admit, Call, Retire, RetireChild, Remove, Offer, Ask, Write}
use Rattle.rules.specs.Steps.{step}
use Rattle.rules_laws.specs.Laws.Tests.{by_test, both, neither, Passed, checked_elim, found_elim}
use Rattle.rules_laws.specs.Laws.Quiet.{Quiet, writing_quiet}
use Rattle.rules_laws.specs.Laws.Lookups.{lookup_id}
use Rattle.rules_laws.specs.Laws.Table.{begins, readies, fails, unloads, finishes, is_idle_lem}
use Rattle.rules_laws.specs.Built.{Built}
use Rattle.rules_laws.specs.Kept.Places.{Only, only_stored, only_freed}
use Rattle.rules_laws.specs.Kept.Moves.{Join, join_only}
use Rattle.rules_laws.specs.Kept.New.{new_joins}
use Rattle.rules_orders.specs.Histories.{active, up_after, up_by}

module _ (r : Registry) (x : ℕ) where
  -- where the plugin under one id changes
  only_goes : (r' : Registry) (id : ℕ) (u u' : Option Plugin) → Only r r' id u u' → (f : ℕ → Bool → Bool) → active u' ≡ f id (active u)
      → (eqb id x ≡ false → (b : Bool) → f x b ≡ b) → active (lookup r' x) ≡ f x (active (lookup r x))
  only_goes r' id u u' c f h k = by_test (eqb id x)
      (λ y. let i = eqb-true id x y in
      ap (λ z. active (lookup r' z)) (sym i) ∙ ap active c.now ∙ h ∙ ap (λ v. f id (active v)) (sym c.was) ∙ ap (λ z. f z (active (lookup r z))) i)
      (λ n. ap active (c.other x n) ∙ sym (k n _))

  -- The outcome of an operation makes plugin x Active, or not, as the history says.
  unfoldable pub Goes : Op → Outcome → Type 0
  Goes o u = active (lookup (after r u) x) ≡ up_after x o (answer_of u) (active (lookup r x))

  refused : (o : Op) (n : Refusal) (vs : List ℕ) → Goes o (refuses n vs)
  unfolding Goes after
  refused o n vs = refl

  told : (o : Op) (a : Reply) → ((b : Bool) → up_by x o b ≡ b) → Goes o (tells a)
  unfolding Goes after
  told o (refusing n vs) k = refl
  told o (accepting vs) k = sym (k _)

  quietly : (o : Op) (u : Outcome) → Quiet u → ((b : Bool) → up_by x o b ≡ b) → Goes o u
  unfolding Goes after
  quietly o (tells a) h k = told o a k
  quietly o (writes place l vs) h k = sym (k _)
  quietly o (stores q vs) h k = absurd h
  quietly o (adds q vs) h k = absurd h
  quietly o (removes id vs) h k = absurd h

  handing : (o : Op) (v : ℕ) (u : Outcome) → Goes o u → Goes o (handing_back v u)
  unfolding Goes after handing_back
  handing o v (tells (refusing n vs)) g = refl
  handing o v (tells (accepting vs)) g = g
  handing o v (writes place l vs) g = g
  handing o v (stores p vs) g = g
  handing o v (adds p vs) g = g
  handing o v (removes id vs) g = g

  knows : (o : Op) (id : ℕ) (f : Plugin → Outcome) → ((p : Plugin) → lookup r id ≡ Some p → Goes o (f p)) → Goes o (known r id f)
  knows o id f g = found_elim (Goes o) (lookup r id) f (refused o Unknown []) g

  checks : (o : Op) (cs : List Check) (u : Outcome) → (Passed cs → Goes o u) → Goes o (checked cs u)
  checks o cs u g = checked_elim (Goes o) cs u (λ n. refused o n []) g

  -- the plugin p, found under id, becomes q
  turns : (o : Op) (vs : List ℕ) (id : ℕ) (p q : Plugin) → lookup r id ≡ Some p → q.id ≡ p.id → is_active q.phase ≡ up_by id o (is_active p.phase)
      → (eqb id x ≡ false → (b : Bool) → up_by x o b ≡ b) → Goes o (stores q vs)
  unfolding Goes
  turns o vs id p q e i h k =
      let j : q.id ≡ id = i ∙ lookup_id r id p e in
      only_goes (after r (stores q vs)) q.id (Some p) (Some q) (only_stored r vs p q (ap (lookup r) j ∙ e)) (λ y. up_by y o)
      (h ∙ ap (λ y. up_by y o (is_active p.phase)) (sym j)) (λ n. k (ap (λ y. eqb y x) (sym j) ∙ n))

  -- one comes that does not run, or goes that is Idle
  joins : Built r → (d : Definition) (vs : List ℕ) (q : Plugin) → Join r q → Goes (Register d) (adds q vs)
  unfolding Goes
  joins b d vs q j =
      let n = (neither (is_loading q.phase) (is_active q.phase) j.rests).1 in
      only_goes _ _ None (Some q) (join_only r b q j vs) (λ y. up_by y (Register d)) n (λ n b. refl)

  leaves : (id : ℕ) (vs : List ℕ) (p : Plugin) → lookup r id ≡ Some p → is_active p.phase ≡ false → Goes (Remove id) (removes id vs)
  unfolding Goes
  leaves id vs p e n = only_goes _ id (Some p) None (only_freed r vs id p e) (λ y. up_by y (Remove id)) (sym n) (λ n b. refl)

  pub goes : Built r → (o : Op) → Goes o (step r o)
  unfolding begin ready fail unload finish replace admit call retire retire_child offer remove register
  goes b (Register d) = checks _ _ _ λ c. joins b d _ _ (new_joins r d c)
  goes b (Begin id) = knows _ _ _ λ p e. checks _ _ _ λ c. turns _ _ id p _ e refl (rw (begins p.phase c.1.0)) (λ n b. refl)
  goes b (Ready id) = knows _ _ _ λ p e. checks _ _ _ λ c. turns _ _ id p _ e refl (rw (readies p.phase c.1.0, eq-eqb id id refl)) (λ n b. rw n)
  goes b (Fail id) = knows _ _ _ λ p e. checks _ _ _ λ c. turns _ _ id p _ e refl (rw (fails p.phase c.0)) (λ n b. refl)
  goes b (Unload id) = knows _ _ _ λ p e. checks _ _ _ λ c. turns _ _ id p _ e refl (rw (unloads p.phase c.0, eq-eqb id id refl)) (λ n b. rw n)
  goes b (Finish id) = knows _ _ _ λ p e. checks _ _ _ λ c. turns _ _ id p _ e refl (rw (finishes p.phase c.0)) (λ n b. refl)
  goes b (Replace id v) = handing _ v _ (knows _ _ _ λ p e. checks _ _ _ λ c. turns _ _ id p _ e refl refl (λ n b. refl))
  goes b (Admit t a) = checks _ _ _ λ c. knows _ _ _ λ p e. checks _ _ _ λ f. turns _ _ t.id p _ e refl refl (λ n b. refl)
  goes b (Call t) = checks _ _ _ λ c. knows _ _ _ λ p e. checks _ _ _ λ f. turns _ _ t.id p _ e refl refl (λ n b. refl)
  goes b (Retire id) = knows _ _ _ λ p e. checks _ _ _ λ c. turns _ _ id p _ e refl refl (λ n b. refl)
  goes b (RetireChild c) = checks _ _ _ λ f. go (lookup r c.id) refl
    where
      go : (u : Option Plugin) → lookup r c.id ≡ u → Goes (RetireChild c) (retire_found c.parent u)
      go None e = told _ _ (λ b. refl)
      go (Some p) e = checks _ _ _ λ f. turns _ _ c.id p _ e refl refl (λ n b. refl)
  goes b (Remove id) = knows _ _ _ λ p e. checks _ _ _ λ c.
      let i = is_idle_lem p.phase (both _ _ (not-false _ c.0)).0 in
      leaves id _ p e (rw i)
  goes b (Offer id q v) = knows _ _ _ λ p e. checks _ _ _ λ c. turns _ _ id p _ e refl refl (λ n b. refl)
  goes b (Ask q) = told _ _ (λ b. refl)
  goes b (Write w l) = quietly _ _ (writing_quiet r w l) (λ b. refl)
