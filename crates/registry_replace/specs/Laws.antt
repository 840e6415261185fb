-- What replacement and the question of a count come to where the id is found in the words, and where it is not; and what is answered and left then.
use Rattle.std.specs.Prelude.{ℕ, ◌+◌, ◌%◌, ◌≤◌, ◌≡◌, Bool, true, false, List, [], ◌∷◌, eqb, leb, Option, Some, None, Result, Ok, Err, IsErrAnd, ok_or}
use Rattle.std.proofs.lemmas.Result.{err_from_is_err_and}
use Rattle.std.proofs.Common.{sym, ◌∙◌}
use Rattle.std.proofs.Math.Path.{ap}
use Rattle.rules.specs.Basics.{last, yes_no}
use Rattle.rules.specs.Holds.{Plugin, with_revision, with_payload}
use Rattle.rules.specs.Answers.{answered}
use Rattle.rules.specs.Refusals.{Refusal, Unknown, Exhausted}
use Rattle.rules.specs.Outcomes.{Outcome, Accepted, refuses, answers, stores, ◌⇒◌, checked, handing_back, answer_of, Meets}
use Rattle.rules.specs.Replacement.{replace, fits}
use Rattle.memory.specs.Ways.{meets_refused}
use Rattle.memory.specs.View.{life_at, plugin_at, view}
use Rattle.memory.specs.Writes.{find_at, renewed_at}
use Rattle.memory.specs.Lives.{renewed_life}
use Rattle.memory.specs.Frames.{with_life}
use Rattle.memory.specs.Known.{at_place, at_known, none_known, unknown_answer}
use Rattle.memory.specs.declared.Life.{Life}
use Rattle.memory.specs.Layout.{places}
use Rattle.memory_life.specs.Told.{life_found}
use Rattle.registry_replace.specs.Answers.{unreplaced, replaced_answer}
use Rattle.registry_replace.specs.Words.{replacing, replaced_in, replaced_at}
use Rattle.registry_replace.specs.Records.{change_of, was_last, not_last, record_of, fits_behind, fits_sum}
use Rattle.registry_replace.specs.declared.PayloadRecord.{PayloadRecord}
use Rattle.registry_replace.specs.declared.Unreplaced.{Unreplaced}

-- what a replacement comes to once the plugin is found
abbrev tested : ℕ → Plugin → Outcome
tested v p =
    checked ((eqb p.revision last ⇒ Exhausted) ∷ []) (stores (with_revision (p.revision + 1) (with_payload v p)) (p.payload ∷ []))

-- the life with the new payload
abbrev pub replaced_life : Life → ℕ → Life
replaced_life l v = renewed_life l (l.revision + 1) v

module _ (m : List ℕ) (id v : ℕ) where
  pub replace_none : find_at m id ≡ None → replace (view m) id v ≡ refuses Unknown (v ∷ [])
  unfolding replace handing_back
  replace_none e = rw (none_known m id e (tested v))

  module _ (i : ℕ) (e : find_at m id ≡ Some i) where
    replace_found : replace (view m) id v ≡ handing_back v (tested v (plugin_at m i))
    unfolding replace
    replace_found = ap (handing_back v) (at_known m id i e (tested v))

    pub replace_last : eqb (life_at m i).revision last ≡ true → replace (view m) id v ≡ refuses Exhausted (v ∷ [])
    unfolding handing_back checked plugin_at
    replace_last t = replace_found ∙ rw t

    pub replace_stores : eqb (life_at m i).revision last ≡ false
        → replace (view m) id v ≡ stores (with_life (plugin_at m i) (replaced_life (life_at m i) v)) ((life_at m i).payload ∷ [])
    unfolding handing_back checked plugin_at
    replace_stores f = replace_found ∙ rw f

    -- its life loaded, and its record lent
    module _ (life : Life) (l : life ≡ life_at m (i % places)) where
      loaded : life ≡ life_at m i
      loaded = life_found m id i e life l

      pub told_back : (r : Result ℕ Unreplaced) (u : Unreplaced) → IsErrAnd r (λ y. y ≡ u) → Err u ≡ (change_of (record_of life) v).answer
          → Meets replaced_in (replace (view m) id v) m (replaced_answer r) m
      told_back r u b a =
          let p = err_from_is_err_and r b in
          let t = was_last (record_of life) v u a in
          rw (p.1, p.2, t.1) (meets_refused replacing (replace (view m) id v) m Exhausted (v ∷ []) (replace_last (rw loaded at t.0)))

      pub told_replaced : (f : ℕ) (w : PayloadRecord) (m' : List ℕ) → Ok f ≡ (change_of (record_of life) v).answer → w ≡ (change_of (record_of life) v).next
          → m' ≡ renewed_at m (i % places) w.revision w.payload → Meets replaced_in (replace (view m) id v) m (Accepted (f ∷ [])) m'
      told_replaced f w m' a n p =
          let t = not_last (record_of life) v f a in
          let s : eqb (life_at m i).revision last ≡ false = rw loaded at t.0 in
          let k : w ≡ record { revision = (life_at m i).revision + 1; payload = v } = n ∙ rw (loaded, s) in
          rw (replace_stores s) (
            ap (λ x. Accepted (x ∷ [])) (t.1 ∙ ap (λ (x : Life). x.payload) loaded),
            p ∙ (λ x. renewed_at m (at_place m id i e x) (k x).revision (k x).payload)
                ∙ sym (replaced_at m id i e (replaced_life (life_at m i) v) ((life_at m i).payload ∷ [])),
          )

  -- an id that no plugin has
  pub told_unknown : (r : Result ℕ Unreplaced) (u : Unreplaced) → IsErrAnd r (λ y. y ≡ u) → (o : Option ℕ) → o ≡ find_at m id
      → ◌≡◌ {A = Result ℕ Unreplaced} (Err u) (ok_or o (unreplaced Unknown v)) → Meets replaced_in (replace (view m) id v) m (replaced_answer r) m
  told_unknown r u b (Some i) f a = cc
  told_unknown r u b None f a =
      let p = err_from_is_err_and r b in
      let k : u ≡ unreplaced Unknown v = cc in
      rw (p.1, p.2, k) (meets_refused replacing (replace (view m) id v) m Unknown (v ∷ []) (replace_none (sym f)))

-- a count, where the id is not found, and where its life was loaded
module _ (m : List ℕ) (id n : ℕ) where
  pub fits_none : {T : Type 0} (f : T → List ℕ) (r : Result T Refusal) (x : Refusal) → IsErrAnd r (λ y. y ≡ x)
      → ◌≡◌ {A = Result ℕ Refusal} (Err x) (ok_or (find_at m id) Unknown) → answered f r ≡ answer_of (fits (view m) id n)
  unfolding fits
  fits_none f r x u e = unknown_answer f r m id x u e (λ p. answers (yes_no (leb (p.revision + n) last) ∷ []))

  -- the code's test sums nothing
  pub fits_told : (i : ℕ) → find_at m id ≡ Some i → (life : Life) → life ≡ life_at m (i % places) → (b : Bool) → life.revision ≤ last
      → b ≡ fits_behind life.revision n → Accepted (yes_no b ∷ []) ≡ answer_of (fits (view m) id n)
  unfolding fits plugin_at
  fits_told i e life l b h t =
      ap (λ (x : Bool). Accepted (yes_no x ∷ [])) (t ∙ fits_sum life.revision n h ∙ ap (λ (x : Life). leb (x.revision + n) last) (life_found m id i e life l))
      ∙ sym (ap answer_of (at_known m id i e (λ p. answers (yes_no (leb (p.revision + n) last) ∷ []))))
