-- What the questions on values answer, by what the code found.
use Rattle.std.specs.Prelude.{ℕ, ◌%◌, ◌≡◌, refl, Bool, true, false, ◌&&◌, ◌||◌, get_or, Option, Some, None, Result, Ok, Err, IsErrAnd, ok_or}
use Rattle.std.specs.Option.{option_map}
use Rattle.std.proofs.lemmas.Result.{err_from_is_err_and}
use Rattle.std.proofs.Common.{mod-eq_of_lt, ◌∙◌}
use Rattle.std.proofs.Math.Path.{sym, ap}
use Rattle.std.proofs.Math.Bool.{not}
use mathlib.Core.List.{List, [], ◌∷◌}
use Rattle.rules.specs.Answers.{answered}
use Rattle.rules.specs.Basics.{yes_no, one}
use Rattle.rules.specs.Holds.{port, Provision, Plugin, provider, provided, is_in, is_loading, is_active, running}
use Rattle.rules_types.specs.declared.Port.{Port}
use Rattle.rules.specs.Refusals.{Refusal, number, Unknown, Closed, Undeclared, Missing}
use Rattle.rules.specs.Outcomes.{Answer, Refused, Accepted, Outcome, refuses, answers, checked, known, answer_of}
use Rattle.rules.specs.Ports.{pairs, flat, odd_length, same_ports}
use Rattle.rules.specs.Values.{value_in, served, seen, first_missing, read, visible, own, missing, matching, declares}
use Rattle.memory.specs.Layout.{id_at, dep_part, prov_part, places}
use Rattle.memory.specs.View.{life_at, valued, plugin_at, view}
use Rattle.memory.specs.Writes.{find_at}
use Rattle.memory.specs.Lookups.{placed}
use Rattle.memory.specs.Known.{at_place, at_known, looked_up, unknown_answer}
use Rattle.memory.specs.declared.Life.{Life}
use Rattle.memory_lists.specs.Listed.{provided_at}
use Rattle.memory_providers.specs.Providers.{provider_at, provider_view, provider_below, provider_place, provider_active}
use Rattle.memory_values.specs.Values.{lack_from}
use Rattle.memory_values.specs.Firsts.{provisions_at, lack_nothing, lack_answer}
use Rattle.registry_queries.specs.Answers.{port_numbers}
use Rattle.registry_values.specs.Rules.{served_answer, given_by, asks, reads, owns, lacks, fits, declared, tells}

-- a value that has to be there, and is not
absent : (o : Option ℕ) (w x : Refusal) → ◌≡◌ {A = Result ℕ Refusal} (Err x) (ok_or o w) → (o ≡ None) × (x ≡ w)
absent None w x e = (refl, cc)
absent (Some k) w x e = cc

-- a call that ends with a refusal
refusing : {T : Type 0} (f : T → List ℕ) (r : Result T Refusal) (x : Refusal) → IsErrAnd r (λ y. y ≡ x) → answered f r ≡ Refused (number x) []
refusing f r x u = let p = err_from_is_err_and r u in rw (p.1, p.2)

-- What the plugin of a place gives.
module _ (m : List ℕ) (i : ℕ) (q : Port) (x : Option ℕ) (h : x ≡ value_in q (plugin_at m i).provisions) where
  pub gives_value : (n : ℕ) → x ≡ Some n → (k : ℕ) → k ≡ id_at m i → Accepted (n ∷ k ∷ []) ≡ given_by (plugin_at m i) q
  unfolding given_by served_answer plugin_at
  gives_value n e k g = rw (g, sym h ∙ e)

  pub gives_nothing : {T : Type 0} (f : T → List ℕ) (r : Result T Refusal) (y : Refusal) → IsErrAnd r (λ z. z ≡ y)
      → ◌≡◌ {A = Result ℕ Refusal} (Err y) (ok_or x Missing) → answered f r ≡ given_by (plugin_at m i) q
  unfolding given_by served_answer
  gives_nothing f r y u e =
      let n = absent x Missing y e in
      refusing f r y u ∙ rw (n.1, sym h ∙ n.0)

-- Whether it runs.
module _ (m : List ℕ) (i : ℕ) (life : Life) (l : life ≡ life_at m i) (b : Bool) (k : b ≡ (is_loading life.phase || is_active life.phase)) where
  running_is : running (plugin_at m i) ≡ b
  unfolding plugin_at
  running_is = sym (k ∙ ap (λ (x : Life). is_loading x.phase || is_active x.phase) l)

-- Whether a port is among its provisions, or its dependencies.
module _ (m : List ℕ) (i : ℕ) (q : Port) (ws : List ℕ) (b : Bool) (k : b ≡ is_in q (pairs ws)) where
  provision_is : ws ≡ prov_part m i → is_in q (provided (plugin_at m i)) ≡ b
  provision_is w = ap (is_in q) (provided_at m i) ∙ sym (k ∙ ap (λ (x : List ℕ). is_in q (pairs x)) w)

  dependency_is : ws ≡ dep_part m i → is_in q (plugin_at m i).dependencies ≡ b
  unfolding plugin_at
  dependency_is w = sym (k ∙ ap (λ (x : List ℕ). is_in q (pairs x)) w)

-- Whether it declares the port.
module _ (m : List ℕ) (i : ℕ) (q : Port) (ws : List ℕ) (b : Bool) (k : b ≡ is_in q (pairs ws)) (w : ws ≡ prov_part m i) where
  pub declared_provision : b ≡ true → b ≡ declared (plugin_at m i) q
  unfolding declared
  declared_provision t = t ∙ rw (provision_is m i q ws b k w ∙ t)

  module _ (n : b ≡ false) (life : Life) (l : life ≡ life_at m i) (c : Bool) (r : c ≡ (is_loading life.phase || is_active life.phase)) where
    pub declared_idle : c ≡ false → c ≡ declared (plugin_at m i) q
    unfolding declared
    declared_idle f = f ∙ rw (provision_is m i q ws b k w ∙ n, running_is m i life l c r ∙ f)

    pub declared_dependency : c ≡ true → (vs : List ℕ) (d : Bool) → d ≡ is_in q (pairs vs) → vs ≡ dep_part m i → d ≡ declared (plugin_at m i) q
    unfolding declared
    declared_dependency t vs d g v = rw (provision_is m i q ws b k w ∙ n, running_is m i life l c r ∙ t, dependency_is m i q vs d g v)

-- The provider's part of a read.
served_answer_lem : (l : List ℕ) → answer_of (checked (asks l) (answers l)) ≡ served_answer l
unfolding checked served_answer
served_answer_lem [] = refl
served_answer_lem (v ∷ vs) = refl

-- Visible.
module _ (m : List ℕ) (q : Port) (x : Option ℕ) (h : x ≡ provider_at m q) where
  seen_is : (y : Option ℕ) → x ≡ y → answer_of (visible (view m) q) ≡ Accepted (seen q (placed m y))
  unfolding visible
  seen_is y n = ap (λ (p : Option Plugin). Accepted (seen q p)) (provider_view m q ∙ ap (placed m) (sym h ∙ n))

  pub visible_nobody : x ≡ None → Accepted [] ≡ answer_of (visible (view m) q)
  visible_nobody n = sym (seen_is None n)

  module _ (i : ℕ) (n : x ≡ Some i) (life : Life) (l : life ≡ life_at m (i % places)) (b : Bool) (k : b ≡ is_active life.phase) where
    pub visible_waiting : b ≡ false → Accepted [] ≡ answer_of (visible (view m) q)
    visible_waiting f = sym (seen_is (Some i) n ∙ rw (provider_active m q x h i n life l b k ∙ f))

    pub visible_value : b ≡ true → (v : Option ℕ) → v ≡ value_in q (plugin_at m (i % places)).provisions
        → Accepted (one v) ≡ answer_of (visible (view m) q)
    visible_value t v g =
        ap (λ (y : Option ℕ). Accepted (one y)) (g ∙ ap (λ j. value_in q (plugin_at m j).provisions) (provider_place m q x h i n))
        ∙ sym (seen_is (Some i) n ∙ rw (provider_active m q x h i n life l b k ∙ t))

-- Where the id is not found.
module _ {T : Type 0} (f : T → List ℕ) (r : Result T Refusal) (m : List ℕ) (id : ℕ) (x : Refusal) (u : IsErrAnd r (λ y. y ≡ x))
    (e : ◌≡◌ {A = Result ℕ Refusal} (Err x) (ok_or (find_at m id) Unknown)) where
  pub read_none : (q : Port) → answered f r ≡ answer_of (read (view m) id q)
  unfolding read
  read_none q = unknown_answer f r m id x u e (reads (view m) q)

  pub own_none : (q : Port) → answered f r ≡ answer_of (own (view m) id q)
  unfolding own
  own_none q = unknown_answer f r m id x u e (owns q)

  pub missing_none : answered f r ≡ answer_of (missing (view m) id)
  unfolding missing
  missing_none = unknown_answer f r m id x u e lacks

  pub matching_none : (l : List ℕ) → answered f r ≡ answer_of (matching (view m) id l)
  unfolding matching
  matching_none l = unknown_answer f r m id x u e (fits l)

  pub declares_none : (q : Port) → answered f r ≡ answer_of (declares (view m) id q)
  unfolding declares declared
  declares_none q = unknown_answer f r m id x u e (tells q)

-- Where it is found.
module _ (m : List ℕ) (id i : ℕ) (a : ◌≡◌ {A = Result ℕ Refusal} (Ok i) (ok_or (find_at m id) Unknown)) where
  e : find_at m id ≡ Some i
  e = looked_up m id i a

  found_at : (f : Plugin → Outcome) → known (view m) id f ≡ f (plugin_at m (i % places))
  found_at f = at_known m id i e f ∙ ap (λ j. f (plugin_at m j)) (sym (at_place m id i e))

  pub own_answer : (q : Port) (x : Option ℕ) → x ≡ value_in q (plugin_at m (i % places)).provisions → Accepted (one x) ≡ answer_of (own (view m) id q)
  unfolding own
  own_answer q x h = ap (λ (z : Option ℕ). Accepted (one z)) h ∙ sym (ap answer_of (found_at (owns q)))

  pub matching_answer : (l ws : List ℕ) → ws ≡ prov_part m (i % places) → (b : Bool) → b ≡ (not (odd_length l) && same_ports (pairs l) (pairs ws))
      → Accepted (yes_no b ∷ []) ≡ answer_of (matching (view m) id l)
  unfolding matching
  matching_answer l ws w b k =
      let s : pairs ws ≡ provided (plugin_at m (i % places)) = ap pairs w ∙ sym (provided_at m (i % places)) in
      ap (λ (x : Bool). Accepted (yes_no x ∷ [])) (k ∙ ap (λ (ps : List Port). not (odd_length l) && same_ports (pairs l) ps) s)
      ∙ sym (ap answer_of (found_at (fits l)))

  pub declares_answer : (q : Port) (b : Bool) → b ≡ declared (plugin_at m (i % places)) q → Accepted (yes_no b ∷ []) ≡ answer_of (declares (view m) id q)
  unfolding declares declared
  declares_answer q b k = ap (λ (x : Bool). Accepted (yes_no x ∷ [])) k ∙ sym (ap answer_of (found_at (tells q)))

  -- Missing.
  missing_is : answer_of (missing (view m) id) ≡ Accepted (first_missing (plugin_at m (i % places)).provisions)
  unfolding missing
  missing_is = ap answer_of (found_at lacks)

  missing_at : (ws : List ℕ) (f : Option ℕ) → f ≡ lack_from 0 (plugin_at m (i % places)).provisions → ws ≡ prov_part m (i % places)
      → Accepted (port_numbers (option_map (λ j. get_or (pairs ws) j (port 0 0)) f)) ≡ answer_of (missing (view m) id)
  missing_at ws None h w = sym (missing_is ∙ ap Accepted (lack_nothing (plugin_at m (i % places)).provisions (sym h)).1)
  missing_at ws (Some j) h w =
      let k = i % places in
      let lacking : lack_from 0 (valued m k 0 (pairs (prov_part m k))) ≡ Some j = sym (ap (lack_from 0) (provisions_at m k)) ∙ sym h in
      ap (λ (l : List ℕ). Accepted (flat (get_or (pairs l) j (port 0 0) ∷ []))) w
      ∙ sym (missing_is ∙ ap (λ (vs : List Provision). Accepted (first_missing vs)) (provisions_at m k)
      ∙ ap Accepted (lack_answer m k (pairs (prov_part m k)) j lacking))

  pub missing_answer : (ws : List ℕ) (f : Option ℕ) → f ≡ lack_from 0 (plugin_at m (i % places)).provisions → ws ≡ prov_part m (i % places)
      → (o : Option Port) → o ≡ option_map (λ j. get_or (pairs ws) j (port 0 0)) f → Accepted (port_numbers o) ≡ answer_of (missing (view m) id)
  missing_answer ws f h w o g = ap (λ (x : Option Port). Accepted (port_numbers x)) g ∙ missing_at ws f h w

  -- Read.
  module _ (q : Port) (life : Life) (l : life ≡ life_at m (i % places)) (b : Bool) (k : b ≡ (is_loading life.phase || is_active life.phase)) where
    read_found : read (view m) id q ≡ reads (view m) q (plugin_at m (i % places))
    unfolding read
    read_found = found_at (reads (view m) q)

    refused : (x : Refusal) → read (view m) id q ≡ refuses x [] → Refused (number x) [] ≡ answer_of (read (view m) id q)
    refused x s = sym (ap answer_of s)

    pub read_closed : b ≡ false → Refused (number Closed) [] ≡ answer_of (read (view m) id q)
    unfolding checked
    read_closed f = refused Closed (read_found ∙ rw (running_is m (i % places) life l b k ∙ f))

    module _ (o : b ≡ true) (ws : List ℕ) (w : ws ≡ dep_part m (i % places)) (c : Bool) (g : c ≡ is_in q (pairs ws)) where
      pub read_undeclared : c ≡ false → Refused (number Undeclared) [] ≡ answer_of (read (view m) id q)
      unfolding checked
      read_undeclared f = refused Undeclared (read_found ∙ rw (running_is m (i % places) life l b k ∙ o, dependency_is m (i % places) q ws c g w ∙ f))

      module _ (t : c ≡ true) (x : Option ℕ) (h : x ≡ provider_at m q) where
        read_served : read (view m) id q ≡ checked (asks (served q (provider (view m) q))) (answers (served q (provider (view m) q)))
        unfolding checked
        read_served = read_found ∙ rw (running_is m (i % places) life l b k ∙ o, dependency_is m (i % places) q ws c g w ∙ t)

        served_is : (y : Option ℕ) → x ≡ y → answer_of (read (view m) id q) ≡ served_answer (served q (placed m y))
        served_is y n =
            ap answer_of read_served ∙ served_answer_lem (served q (provider (view m) q))
            ∙ ap (λ (p : Option Plugin). served_answer (served q p)) (provider_view m q ∙ ap (placed m) (sym h ∙ n))

        pub read_nobody : {T : Type 0} (f : T → List ℕ) (r : Result T Refusal) (y : Refusal) → IsErrAnd r (λ z. z ≡ y)
            → ◌≡◌ {A = Result ℕ Refusal} (Err y) (ok_or x Missing) → answered f r ≡ answer_of (read (view m) id q)
        unfolding served_answer
        read_nobody f r y u v = let n = absent x Missing y v in refusing f r y u ∙ rw n.1 (sym (served_is None n.0))

        -- what the live provider gives
        pub read_given : (j : ℕ) → x ≡ Some j → (a : Answer) → a ≡ given_by (plugin_at m (j % places)) q → a ≡ answer_of (read (view m) id q)
        unfolding given_by
        read_given j n a p =
            p ∙ ap (λ y. given_by (plugin_at m y) q) (mod-eq_of_lt (provider_below m q j (sym h ∙ n))) ∙ sym (served_is (Some j) n)
