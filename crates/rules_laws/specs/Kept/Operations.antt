-- What each operation comes to: nothing changes, or a plugin turns, joins or leaves.
use Rattle.std.specs.Prelude.{ℕ, ◌+◌, Bool, true, false, ◌||◌, List, [], ◌∷◌, Option, Some, None}
use Rattle.std.proofs.Common.{arith, le_refl, sym, ◌∙◌, subst, true≢false}
use Rattle.std.proofs.Math.Path.{◌≡◌, refl, ap, subst⁻¹}
use Rattle.std.proofs.lemmas.Simd.{map-map}
use borrow.Author.Tests.{eqb-false, not-false}
use Rattle.rules.specs.Basics.{all, last}
use Rattle.rules_types.specs.declared.Port.{Port}
use Rattle.rules_types.specs.declared.Phase.{Phase}
use Rattle.rules_types.specs.declared.Phase.TheVariants.{Idle, Loading, Active, Unloading}
use Rattle.rules_types.specs.declared.Root.{Root}
use Rattle.rules_types.specs.declared.Root.TheVariants.{Unissued, Queued, Spent}
use Rattle.rules.specs.Holds.{Plugin, Registry, lookup, is_loading, is_active, with_retired}
use Rattle.rules.specs.Outcomes.{Reply, refusing, accepting, Outcome, tells, writes, stores, adds, removes, Check, checked, known, handing_back, after}
use Rattle.rules.specs.Registration.{Definition, new_plugin, register}
use Rattle.rules.specs.Phases.{available, in_use, is_spent, dropped, begin, ready, fail, unload, finish}
use Rattle.rules.specs.Replacement.{replace}
use Rattle.rules.specs.Admission.{Ticket, Invocation, is_live, admit, call}
use Rattle.rules.specs.Retirement.{Identity, retire, retire_found, retire_child, remove}
use Rattle.rules.specs.Values.{offered, offer}
use Rattle.rules.specs.Steps.{Op, step, Register, Begin, Ready, Fail, Unload, Finish, Replace, Admit, Call, Ask, Retire, RetireChild, Remove, Offer, Write}
use Rattle.rules_laws.specs.Acts.{Act, joins, leaves, begins, stays, act}
use Rattle.rules_laws.specs.Laws.Tests.{both, neither, Passed, checked_elim, found_elim}
use Rattle.rules_laws.specs.Laws.Quiet.{Quiet, writing_quiet}
use Rattle.rules_laws.specs.Laws.Lookups.{lookup_id}
use Rattle.rules_laws.specs.Laws.Table as table
use Rattle.rules_laws.specs.Laws.Table.{readies, fails, unloads, finishes, is_loading_lem}
use Rattle.rules_laws.specs.Built.{Lively}
use Rattle.rules_laws.specs.Kept.Plugins.{Alike, alike, lively_begun, lively_ready, lively_failed, lively_unloaded, lively_finished, lively_noted}
use Rattle.rules_laws.specs.Kept.Plugins.{lively_rooted, lively_offered}
use Rattle.rules_laws.specs.Kept.Moves.{Turn, Join, Leave}
use Rattle.rules_laws.specs.Kept.Reach.{nothing, members, reach, Within}
use Rattle.rules_laws.specs.Kept.New.{new_joins}

-- Where p turns into q: its own begin makes the generation one more, and what else may turn a plugin leaves it.
abbrev pub Dated : Act → Plugin → Plugin → Type 0
Dated (begins id) p q = (id ≡ q.id) × (q.generation ≡ p.generation + 1)
Dated stays p q = q.generation ≡ p.generation
Dated (joins d) p q = ⊥
Dated (leaves id) p q = ⊥

-- What the operation o may come to. Only a registration adds a plugin, the one that it defines, under the next id, which it answers;
-- only a removal takes one away.
unfoldable pub Lawful : Registry → Op → Outcome → Type 0
Lawful r o (tells (refusing x vs)) = Unit {0}
Lawful r o (tells (accepting vs)) = act o ≡ stays
Lawful r o (writes place l vs) = act o ≡ stays
Lawful r o (stores q vs) = (p : Plugin) × Dated (act o) p q × (lookup r q.id ≡ Some p) × Turn r p q × Within (reach o) p q
Lawful r o (adds q vs) = (d : Definition) × (act o ≡ joins d) × (vs ≡ r.next ∷ []) × (q ≡ new_plugin r d) × Join r q × (reach o ≡ members)
Lawful r o (removes id vs) = (p : Plugin) × (act o ≡ leaves id) × (lookup r id ≡ Some p) × Leave r id p × (reach o ≡ members)

is_spent_lem : (o : Root) → is_spent o ≡ true → o ≡ Spent
is_spent_lem Unissued e = cc
is_spent_lem (Queued v a) e = cc
is_spent_lem Spent e = refl

live_loading : (p : Plugin) (t : Invocation) → is_live p t ≡ true → p.phase ≡ Loading
unfolding is_live
live_loading p t e = is_loading_lem p.phase (both _ _ (both _ _ (both _ _ e).0).0).0

abbrev runs : Phase → Bool
runs h = is_loading h || is_active h

module _ (r : Registry) where
  -- the id is found; the checks are passed
  knows : (o : Op) (id : ℕ) (f : Plugin → Outcome) → ((p : Plugin) → lookup r id ≡ Some p → Lawful r o (f p)) → Lawful r o (known r id f)
  unfolding Lawful
  knows o id f g = found_elim (Lawful r o) (lookup r id) f tt g

  passes : (o : Op) (cs : List Check) (u : Outcome) → (Passed cs → Lawful r o u) → Lawful r o (checked cs u)
  unfolding Lawful
  passes o cs u g = checked_elim (Lawful r o) cs u (λ x. tt) g

  -- nothing changes, whatever is told
  told : (o : Op) (a : Reply) → act o ≡ stays → Lawful r o (tells a)
  unfolding Lawful
  told o (refusing x vs) n = tt
  told o (accepting vs) n = n

  -- the plugin p, found under id, becomes q
  module _ (o : Op) (vs : List ℕ) (id : ℕ) (p q : Plugin) (e : lookup r id ≡ Some p) (n : Dated (act o) p q) (a : Alike p q) (l : Lively p → Lively q)
      (w : Within (reach o) p q) (k : is_active p.phase ≡ true → q.provisions ≡ p.provisions) where
    -- from one phase to another
    moves : (from to : Phase) → p.phase ≡ from → q.phase ≡ to
        → (runs from ≡ false → runs to ≡ true → all (available r) p.dependencies ≡ true)
        → (is_active from ≡ true → is_active to ≡ false → in_use r p ≡ false) → Lawful r o (stores q vs)
    unfolding Lawful
    moves from to i j f g = (
      p,
      n,
      subst⁻¹ (λ x. lookup r x ≡ Some p) (a.id ∙ lookup_id r id p e) e,
      record {
        alike = a;
        lively = l;
        starts = λ m y. f (sym (ap runs i) ∙ m) (sym (ap runs j) ∙ y);
        stops = λ y m. g (sym (ap is_active i) ∙ y) (sym (ap is_active j) ∙ m);
        values = k;
      },
      w,
    )

    -- its phase stays
    rests : q.phase ≡ p.phase → Lawful r o (stores q vs)
    rests i = moves p.phase p.phase refl i (λ m y. absurd (true≢false (sym y ∙ m))) (λ y m. absurd (true≢false (sym y ∙ m)))

  begin_lawful : (id : ℕ) → Lawful r (Begin id) (begin r id)
  unfolding begin
  begin_lawful id = knows _ _ _ λ p e. passes _ _ _ λ c.
      let h = table.begins p.phase c.1.0 in
      moves _ _ _ p _ e (sym (lookup_id r id p e), refl) (alike p refl) (λ l. lively_begun p l h (eqb-false _ _ c.1.1.0)) refl (λ _. refl)
      Idle Loading h (rw h) (λ n y. not-false _ c.1.1.1.0) (λ y n. cc)

  ready_lawful : (id : ℕ) → Lawful r (Ready id) (ready r id)
  unfolding ready
  ready_lawful id = knows _ _ _ λ p e. passes _ _ _ λ c.
      let h = readies p.phase c.1.0 in
      moves _ _ _ p _ e refl (alike p refl) (λ l. lively_ready p l h (is_spent_lem p.root (not-false _ c.1.1.0)) c.1.1.1.0) refl (λ _. refl)
      Loading Active h (rw h) (λ n y. cc) (λ y n. cc)

  fail_lawful : (id : ℕ) → Lawful r (Fail id) (fail r id)
  unfolding fail
  fail_lawful id = knows _ _ _ λ p e. passes _ _ _ λ c.
      let h = fails p.phase c.0 in
      moves _ _ _ p _ e refl (alike p refl) (λ l. lively_failed p l h) refl (λ _. refl) Loading Unloading h (rw h) (λ n y. cc) (λ y n. cc)

  unload_lawful : (id : ℕ) → Lawful r (Unload id) (unload r id)
  unfolding unload
  unload_lawful id = knows _ _ _ λ p e. passes _ _ _ λ c.
      let h = unloads p.phase c.0 in
      moves _ _ _ p _ e refl (alike p refl) (λ l. lively_unloaded p l h) refl (λ _. refl) Active Unloading h (rw h) (λ n y. cc) (λ y n. c.1.0)

  finish_lawful : (id : ℕ) → Lawful r (Finish id) (finish r id)
  unfolding finish
  finish_lawful id = knows _ _ _ λ p e. passes _ _ _ λ c.
      let h = finishes p.phase c.0 in
      moves _ _ _ p _ e refl (alike p (map-map _ dropped p.provisions)) (λ l. lively_finished p l h) tt
      (λ y. absurd (true≢false (sym y ∙ ap is_active h))) Unloading Idle h (rw h) (λ n y. cc) (λ y n. cc)

  handing : (o : Op) (v : ℕ) (u : Outcome) → Lawful r o u → Lawful r o (handing_back v u)
  unfolding handing_back Lawful
  handing o v (tells (refusing x vs)) g = tt
  handing o v (tells (accepting vs)) g = g
  handing o v (writes place l vs) g = g
  handing o v (stores p vs) g = g
  handing o v (adds p vs) g = g
  handing o v (removes id vs) g = g

  replace_lawful : (id v : ℕ) → Lawful r (Replace id v) (replace r id v)
  unfolding replace
  replace_lawful id v = handing _ v _ (knows _ _ _ λ p e. passes _ _ _ λ c.
      let n = eqb-false p.revision last c.0 in
      rests _ _ _ p _ e refl (alike p refl) (λ l. lively_noted p l (p.revision + 1) v p.retired (omega arith) (omega (arith, n, l.revision))) refl
      (λ _. refl) refl)

  admit_lawful : (t : Ticket) (a : ℕ) → Lawful r (Admit t a) (admit r t a)
  unfolding admit
  admit_lawful t a = passes _ _ _ λ c. knows _ _ _ λ p e. passes _ _ _ λ f.
      let h = is_loading_lem p.phase (not-false _ (neither _ _ f.1.0).0) in
      rests _ _ _ p _ e refl (alike p refl) (λ l. lively_rooted p l (Queued p.revision a) h (λ v b i. let j : p.revision ≡ v = cc in omega arith)) refl
      (λ _. refl) refl

  call_lawful : (t : Invocation) → Lawful r (Call t) (call r t)
  unfolding call
  call_lawful t = passes _ _ _ λ c. knows _ _ _ λ p e. passes _ _ _ λ f.
      let h = live_loading p t (not-false _ f.1.0) in
      rests _ _ _ p _ e refl (alike p refl) (λ l. lively_rooted p l Spent h (λ v b i. let z : ◌≡◌ {A = ℕ} 0 1 = cc in omega arith)) refl (λ _. refl) refl

  retires : (o : Op) (id : ℕ) (p : Plugin) → lookup r id ≡ Some p → Dated (act o) p (with_retired true p) → Within (reach o) p (with_retired true p)
      → Lawful r o (stores (with_retired true p) [])
  retires o id p e n w = rests o [] id p _ e n (alike p refl) (λ l. lively_noted p l p.revision p.payload true (le_refl _) l.revision) w
      (λ _. refl) refl

  retire_lawful : (id : ℕ) → Lawful r (Retire id) (retire r id)
  unfolding retire
  retire_lawful id = knows _ _ _ λ p e. passes _ _ _ λ c. retires _ _ p e refl refl

  retire_child_lawful : (c : Identity) → Lawful r (RetireChild c) (retire_child r c)
  unfolding retire_child
  retire_child_lawful c = passes _ _ _ λ f. go (lookup r c.id) refl
    where
      go : (u : Option Plugin) → lookup r c.id ≡ u → Lawful r (RetireChild c) (retire_found c.parent u)
      go None e = told _ _ refl
      go (Some p) e = passes _ _ _ λ f. retires _ _ p e refl refl

  offer_lawful : (id : ℕ) (q : Port) (v : ℕ) → Lawful r (Offer id q v) (offer r id q v)
  unfolding offer
  offer_lawful id q v = knows _ _ _ λ p e. passes _ _ _ λ c.
      let h = is_loading_lem p.phase (both _ _ (not-false _ c.0)).0 in
      rests _ _ _ p _ e refl (alike p (map-map _ (offered q v) p.provisions)) (λ l. lively_offered p l _ h) tt
      (λ y. absurd (true≢false (sym y ∙ ap is_active h))) refl

  remove_lawful : (id : ℕ) → Lawful r (Remove id) (remove r id)
  unfolding remove Lawful
  remove_lawful id = knows (Remove id) _ _ λ p e. passes (Remove id) _ _ λ c.
      (p, refl, e, record { idle = (both _ _ (not-false _ c.0)).0; childless = c.1.0 }, refl)

  register_lawful : (d : Definition) → Lawful r (Register d) (register r d)
  unfolding register Lawful
  register_lawful d = passes (Register d) _ _ λ c. (d, refl, refl, refl, new_joins r d c, refl)

  -- what is written to a lent buffer
  quietly : (o : Op) (u : Outcome) → act o ≡ stays → Quiet u → Lawful r o u
  unfolding Lawful
  quietly o (tells a) n h = told o a n
  quietly o (writes place l vs) n h = n
  quietly o (stores q vs) n h = absurd h
  quietly o (adds q vs) n h = absurd h
  quietly o (removes id vs) n h = absurd h

  pub lawful : (o : Op) → Lawful r o (step r o)
  lawful (Ask q) = told _ _ refl
  lawful (Write w l) = quietly _ _ refl (writing_quiet r w l)
  lawful (Register d) = register_lawful d
  lawful (Begin id) = begin_lawful id
  lawful (Ready id) = ready_lawful id
  lawful (Fail id) = fail_lawful id
  lawful (Unload id) = unload_lawful id
  lawful (Finish id) = finish_lawful id
  lawful (Replace id payload) = replace_lawful id payload
  lawful (Admit t argument) = admit_lawful t argument
  lawful (Call t) = call_lawful t
  lawful (Retire id) = retire_lawful id
  lawful (RetireChild c) = retire_child_lawful c
  lawful (Remove id) = remove_lawful id
  lawful (Offer id q value) = offer_lawful id q value

-- A question leaves the registry as it is.
pub asked_same : (r : Registry) (o : Op) → reach o ≡ nothing → after r (step r o) ≡ r
unfolding Lawful after
asked_same r o e = go (step r o) (lawful r o)
  where
    go : (u : Outcome) → Lawful r o u → after r u ≡ r
    go (tells a) w = refl
    go (writes place l vs) w = refl
    go (stores q vs) w = absurd (subst (λ x. Within x w.0 q) e w.4)
    go (adds q vs) w = let n : nothing ≡ members = sym e ∙ w.5 in cc
    go (removes id vs) w = let n : nothing ≡ members = sym e ∙ w.4 in cc
