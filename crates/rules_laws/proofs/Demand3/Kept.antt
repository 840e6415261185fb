-- Every operation keeps the link between a registry and its history.
use Rattle.std.specs.Prelude.{ℕ, ◌<◌, List, [], ◌∷◌, leb, ltb, Option, Some, None}
use Rattle.std.proofs.Common.{arith, sym, ap, ◌∙◌, subst, eqb-true, leb-false}
use Rattle.std.proofs.Math.Path.{◌≡◌, refl}
use Rattle.std.proofs.lemmas.Bool.{not-false}
use Rattle.rules_types.specs.declared.Port.{Port}
use Rattle.rules.specs.Holds.{Plugin, Registry, lookup, is_loading}
use Rattle.rules.specs.Refusals.{Unknown}
use Rattle.rules.specs.Outcomes.{refusing, accepting, Outcome, tells, writes, stores, adds, removes, Check, checked, known, handing_back}
use Rattle.rules.specs.Registration.{Definition, new_plugin, register}
use Rattle.rules.specs.Phases.{begin, ready, fail, unload, finish}
use Rattle.rules.specs.Replacement.{replace}
use Rattle.rules.specs.Admission.{Ticket, Invocation, five, is_live, admit, call}
use Rattle.rules.specs.Retirement.{Identity, retire, retire_found, retire_child, remove}
use Rattle.rules.specs.Values.{offer}
use Rattle.rules.specs.Steps.{Op, Event, step, Register, Begin, Ready, Fail, Unload, Finish, Replace, Admit, Call, Ask, Retire, RetireChild, Remove, Offer}
use Rattle.rules.specs.Steps.{Write}
use Rattle.rules_laws.specs.History.{registered, removed, replaced, settled, retired, admitted, called, told}
use Rattle.rules_laws.specs.Laws.Tests.{both, neither, Passed, checked_elim, found_elim}
use Rattle.rules_laws.specs.Laws.Quiet.{Quiet, writing_quiet}
use Rattle.rules_laws.specs.Laws.Lookups.{lookup_id}
use Rattle.rules_laws.specs.Laws.Table.{begins, readies, fails, unloads, finishes, is_idle_lem, is_loading_lem}
use Rattle.rules_laws.specs.Demand3.Link.{callable, Linked, Good, tells_one, tells_none, refused, quiet, wrote, answered_absent, stored_one, added_one}
use Rattle.rules_laws.specs.Demand3.Link.{removed_one}
use Rattle.rules_laws.specs.Demand3.Lives.{is_unissued_lem, would_accept, not_loading, not_callable, silent, resting, settling, retiring, replacing}
use Rattle.rules_laws.specs.Demand3.Lives.{admitting, calling}

module _ (s : Registry) (es : List Event) (r : Registry) (w : Linked s es r) where
  knows : (o : Op) (id : ℕ) (f : Plugin → Outcome) → ((p : Plugin) → lookup r id ≡ Some p → Good s es r o (f p)) → Good s es r o (known r id f)
  knows o id f g = found_elim (Good s es r o) (lookup r id) f (refused s es r w o Unknown []) g

  passes : (o : Op) (cs : List Check) (u : Outcome) → (Passed cs → Good s es r o u) → Good s es r o (checked cs u)
  passes o cs u g = checked_elim (Good s es r o) cs u (λ x. refused s es r w o x []) g

  begin_kept : (id : ℕ) → Good s es r (Begin id) (begin r id)
  unfolding begin
  begin_kept id = knows _ _ _ λ p e. passes _ _ _ λ c.
      stored_one s es r w _ _ id p _ _ (tells_none s _ _ id refl) e (lookup_id r id p e) λ t h i a.
      resting s.domain t h p a _ refl refl refl (λ v b y. cc) (not_loading s.domain p t (ap is_loading (begins p.phase c.1.0)))
      (not_callable s.domain _ t (λ f. let z : ◌≡◌ {A = ℕ} 0 1 = cc f.queued in omega arith))

  ready_kept : (id : ℕ) → Good s es r (Ready id) (ready r id)
  unfolding ready
  ready_kept id = knows _ _ _ λ p e. passes _ _ _ λ c.
      stored_one s es r w _ _ id p _ _ (tells_one s _ _ id settled refl) e (lookup_id r id p e) λ t h i a.
      settling s.domain t h p a _ refl refl refl refl (not_loading s.domain _ t (rw (readies p.phase c.1.0)))

  fail_kept : (id : ℕ) → Good s es r (Fail id) (fail r id)
  unfolding fail
  fail_kept id = knows _ _ _ λ p e. passes _ _ _ λ c.
      stored_one s es r w _ _ id p _ _ (tells_one s _ _ id settled refl) e (lookup_id r id p e) λ t h i a.
      settling s.domain t h p a _ refl refl refl refl (not_loading s.domain _ t (rw (fails p.phase c.0)))

  unload_kept : (id : ℕ) → Good s es r (Unload id) (unload r id)
  unfolding unload
  unload_kept id = knows _ _ _ λ p e. passes _ _ _ λ c.
      let f = unloads p.phase c.0 in
      stored_one s es r w _ _ id p _ _ (tells_none s _ _ id refl) e (lookup_id r id p e) λ t h i a.
      resting s.domain t h p a _ refl refl refl (λ v b y. y) (not_loading s.domain p t (ap is_loading f)) (not_loading s.domain _ t (rw f))

  finish_kept : (id : ℕ) → Good s es r (Finish id) (finish r id)
  unfolding finish
  finish_kept id = knows _ _ _ λ p e. passes _ _ _ λ c.
      let f = finishes p.phase c.0 in
      stored_one s es r w _ _ id p _ _ (tells_none s _ _ id refl) e (lookup_id r id p e) λ t h i a.
      resting s.domain t h p a _ refl refl refl (λ v b y. cc) (not_loading s.domain p t (ap is_loading f)) (not_loading s.domain _ t (rw f))

  retire_kept : (id : ℕ) → Good s es r (Retire id) (retire r id)
  unfolding retire
  retire_kept id = knows _ _ _ λ p e. passes _ _ _ λ c.
      stored_one s es r w _ _ id p _ _ (tells_one s _ _ id retired refl) e (lookup_id r id p e) λ t h i a. retiring s.domain t h p a

  handing : (o : Op) (v : ℕ) (u : Outcome) → Good s es r o u → Good s es r o (handing_back v u)
  unfolding handing_back
  handing o v (tells (refusing x vs)) g = refused s es r w o x (v ∷ [])
  handing o v (tells (accepting vs)) g = g
  handing o v (writes place l vs) g = g
  handing o v (stores p vs) g = g
  handing o v (adds p vs) g = g
  handing o v (removes id vs) g = g

  replace_kept : (id v : ℕ) → Good s es r (Replace id v) (replace r id v)
  unfolding replace
  replace_kept id v = handing _ v _ (knows _ _ _ λ p e. passes _ _ _ λ c.
      stored_one s es r w _ _ id p _ _ (tells_one s _ _ id (replaced v) refl) e (lookup_id r id p e) λ t h i a. replacing s.domain t h p a v)

  offer_kept : (id : ℕ) (q : Port) (v : ℕ) → Good s es r (Offer id q v) (offer r id q v)
  unfolding offer callable is_live
  offer_kept id q v = knows _ _ _ λ p e. passes _ _ _ λ c.
      stored_one s es r w _ _ id p _ _ (tells_none s _ _ id refl) e (lookup_id r id p e) λ t h i a.
      record { once = a.once; there = a.there; mark = a.mark; kept = a.kept; bound = a.bound; alive = a.alive }

  admit_kept : (k : Ticket) (b : ℕ) → Good s es r (Admit k b) (admit r k b)
  unfolding admit
  admit_kept k b = passes _ _ _ λ c. knows _ _ _ λ p e. passes _ _ _ λ f.
      stored_one s es r w _ _ p.id p _ _ (tells_one s _ _ p.id (admitted _) refl)
      (subst (λ x. lookup r x ≡ Some p) (sym (lookup_id r k.id p e)) e) refl λ t h i a.
      admitting s.domain t h p a r.domain b w.domain (is_loading_lem p.phase (not-false _ (neither _ _ f.1.0).0))
      f.0 (is_unissued_lem p.root (not-false _ f.1.1.0)) i

  call_kept : (u : Invocation) → Good s es r (Call u) (call r u)
  unfolding call
  call_kept u = passes _ _ _ λ c. knows _ _ _ λ p e. passes _ _ _ λ f.
      stored_one s es r w _ _ u.id p _ _ (tells_one s _ _ u.id (called (five u)) refl) e (lookup_id r u.id p e) λ t h i a.
      calling s.domain t h p a u i (would_accept s.domain p u (not-false _ f.1.0) f.0 (eqb-true _ _ (not-false _ c.0) ∙ w.domain))

  remove_kept : (id : ℕ) → Good s es r (Remove id) (remove r id)
  unfolding remove
  remove_kept id = knows _ _ _ λ p e. passes _ _ _ λ c.
      removed_one s es r w _ _ id p removed refl e λ t h a. record {
        once = a.once;
        gone = refl;
        dead = silent s.domain t h p a (not_loading s.domain p t (ap is_loading (is_idle_lem p.phase (both _ _ (not-false _ c.0)).0)));
      }

  retire_child_kept : (c : Identity) → Good s es r (RetireChild c) (retire_child r c)
  unfolding retire_child
  retire_child_kept c = passes _ _ _ λ f. go (leb-false _ _ (neither (ltb c.id r.first) (leb r.next c.id) f.1.0).1) (lookup r c.id) refl
    where
      go : c.id < r.next → (u : Option Plugin) → lookup r c.id ≡ u → Good s es r (RetireChild c) (retire_found c.parent u)
      go l None e = answered_absent s es r w _ _ c.id retired refl e l λ t h a. record { once = a.once; gone = a.gone; dead = refl }
      go l (Some p) e = passes _ _ _ λ f.
          stored_one s es r w _ _ c.id p _ _ (tells_one s _ _ c.id retired refl) e (lookup_id r c.id p e) λ t h i a. retiring s.domain t h p a

  register_kept : (f : Definition) → Good s es r (Register f) (register r f)
  unfolding register new_plugin
  register_kept f = passes _ _ _ λ c.
      added_one s es r w _ _ (new_plugin r f) (registered f.payload) refl refl (leb-false _ _ c.1.1.1.1.1.1.1.1.1.1.0) λ t. record {
        once = refl;
        there = refl;
        mark = refl;
        kept = refl;
        bound = λ v b e. let z : ◌≡◌ {A = ℕ} 0 1 = cc in omega arith;
        alive = rw (not_loading s.domain (new_plugin r f) t refl);
      }

  -- what is written to a lent buffer
  quietly : (o : Op) (u : Outcome) → ((vs : List ℕ) → told o vs ≡ None) → Quiet u → Good s es r o u
  quietly o (tells a) n h = quiet s es r w o a n
  quietly o (writes place l vs) n h = wrote s es r w o place l vs (n vs)
  quietly o (stores q vs) n h = absurd h
  quietly o (adds q vs) n h = absurd h
  quietly o (removes id vs) n h = absurd h

  pub kept : (o : Op) → Good s es r o (step r o)
  kept (Ask q) = quiet s es r w _ _ (λ vs. refl)
  kept (Write k l) = quietly _ _ (λ vs. refl) (writing_quiet r k l)
  kept (Register f) = register_kept f
  kept (Begin id) = begin_kept id
  kept (Ready id) = ready_kept id
  kept (Fail id) = fail_kept id
  kept (Unload id) = unload_kept id
  kept (Finish id) = finish_kept id
  kept (Replace id payload) = replace_kept id payload
  kept (Admit t argument) = admit_kept t argument
  kept (Call t) = call_kept t
  kept (Retire id) = retire_kept id
  kept (RetireChild c) = retire_child_kept c
  kept (Remove id) = remove_kept id
  kept (Offer id q value) = offer_kept id q value
