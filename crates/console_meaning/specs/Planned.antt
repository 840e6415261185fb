-- What the line `plan SIZE ID..` says: the order's ids, that there is none, or the refusal; and that a room of 32 ids is as good as a
-- larger one.
use Rattle.std.specs.Prelude.{ℕ, ◌+◌, min, ◌≤◌, ◌≡◌, refl, List, [], ◌∷◌, ◌++◌, ltb, drop, replicate, Result, Ok, Err}
use Rattle.std.proofs.Common.{arith, ap, ◌∙◌, sym, length-take}
use Rattle.std.proofs.Math.ListN.{length}
use Rattle.std.proofs.lemmas.List.{length-replicate}
use Rattle.std.proofs.Math.Seq.{take-append_seam}
use borrow.Author.Tests.{ltb-true, ltb-false, lt-ltb, le-ltb, ne_eqb}
use Rattle.rules.specs.Basics.{last}
use Rattle.rules.specs.Refusals.{Refusal, number, number_within, ShortBuffer}
use Rattle.rules.specs.Outcomes.{Outcome, answers, refuses, writes, Check, ◌⇒◌, checked, lent_after}
use Rattle.rules.specs.Answers.{verdict}
use Rattle.rules.specs.Limits.{max_plugins}
use Rattle.rules.specs.Orders.{set_checks, planned, plan, plan_order}
use Rattle.rules_laws.specs.Laws.Tests.{by_test}
use Rattle.memory.specs.View.{view}
use Rattle.registry_plan.specs.Fits.{set_fits}
use Rattle.host_answers.specs.Told.{status_of, words_of}
use Rattle.console_answer.specs.Pages.{put_on, numbers_on}
use Rattle.console_answer.specs.declared.Page.{Page}
use Rattle.console_answer.specs.Answers.{ok_word, none_word, word_on, refusal_on}
use Rattle.console_show.specs.Spoken.{spoken_on}
use Rattle.console_order.specs.Plans.{planned_on, lent_ids}

module _ (p : Page) (m set lent : List ℕ) where
  -- ok ID..
  pub plan_ids : (order : List ℕ) → plan_order (view m) set lent ≡ writes 0 order (length order ∷ []) → planned_on p m set lent ≡ numbers_on (put_on p ok_word) order
  unfolding planned_on status_of words_of lent_after
  plan_ids order e = rw e (ap (numbers_on (put_on p ok_word)) (take-append_seam order (drop (0 + length order) lent)))

  -- ok none
  pub plan_nothing : plan_order (view m) set lent ≡ answers [] → planned_on p m set lent ≡ word_on (put_on p ok_word) none_word
  unfolding planned_on status_of words_of spoken_on
  plan_nothing e = rw e

  -- no N
  pub plan_refused : (x : Refusal) → plan_order (view m) set lent ≡ refuses x [] → planned_on p m set lent ≡ refusal_on p (number x)
  unfolding planned_on status_of words_of spoken_on numbers_on
  plan_refused x e =
      let h = number_within x in
      rw e (rw (ne_eqb (number x) last (λ i. omega arith), ne_eqb (number x) 0 (λ i. omega arith)))

-- Where a check refuses, those behind it do not matter.
refused_first : (cs ds es : List Check) (u : Outcome) (x : Refusal) → verdict cs ≡ Err x → checked (cs ++ ds) u ≡ checked (cs ++ es) u
unfolding verdict checked
refused_first [] ds es u x e = cc
refused_first (c ∷ cs) ds es u x e =
    let r = refused_first cs ds es u x in
    by_test c.test (λ t. rw t) (λ f. rw f (r (rw f at e)))

-- A room for more than 32 ids is lent as one for 32: it comes to the same, for no set of more ids passes the checks.
pub plan_room : (m set : List ℕ) (size : ℕ) → plan_order (view m) set (lent_ids size) ≡ plan_order (view m) set (replicate size 0)
unfolding plan_order
plan_room m set size = go (verdict cs) refl
  where
    cs : List Check
    cs = set_checks (view m) set

    u : Outcome
    u = planned (plan (view m) set)

    short : List ℕ → List Check
    short buffer = (ltb (length buffer) (length set) ⇒ ShortBuffer) ∷ []

    lent : length (lent_ids size) ≡ min size max_plugins
    lent = length-take size (replicate max_plugins 0) ∙ ap (min size) (length-replicate {A = ℕ} max_plugins 0)

    same : length set ≤ max_plugins → ltb (length (lent_ids size)) (length set) ≡ ltb (length (replicate {A = ℕ} size 0)) (length set)
    same h = rw (lent, length-replicate {A = ℕ} size 0) (by_test (ltb size (length set))
        (λ t. let k = ltb-true size (length set) t in lt-ltb (min size max_plugins) (length set) (omega arith) ∙ sym t)
        (λ f. let k = ltb-false size (length set) f in le-ltb (min size max_plugins) (length set) (omega arith) ∙ sym f))

    go : (v : Result (Unit {0}) Refusal) → verdict cs ≡ v → checked (cs ++ short (lent_ids size)) u ≡ checked (cs ++ short (replicate size 0)) u
    go (Ok t) e = rw (same (set_fits m set e))
    go (Err x) e = refused_first cs (short (lent_ids size)) (short (replicate size 0)) u x e
