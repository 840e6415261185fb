-- What an offer answers and leaves, by what the code found.
use Rattle.std.specs.Prelude.{ℕ, ◌%◌, ◌≡◌, refl, Bool, true, false, ◌&&◌, List, [], Option, Some, None, Result, Ok, Err, IsErrAnd, ok_or}
use Rattle.std.proofs.Math.Path.{sym, ap}
use Rattle.std.proofs.Common.{◌∙◌}
use Rattle.std.proofs.lemmas.Result.{err_from_is_err_and}
use Rattle.std.proofs.Math.Bool.{not}
use Rattle.std.specs.Option as option
use Rattle.rules.specs.Answers.{answered}
use Rattle.rules.specs.Basics.{is_some}
use Rattle.rules.specs.Holds.{Provision, provided, is_in, is_loading}
use Rattle.rules_types.specs.declared.Port.{Port}
use Rattle.rules.specs.Refusals.{Refusal, number, Unknown, Closed, Undeclared, Duplicate}
use Rattle.rules.specs.Outcomes.{Answer, Refused, Accepted, refuses, stores, checked, answer_of}
use Rattle.rules.specs.Ports.{pairs}
use Rattle.rules.specs.Values.{value_in, offer}
use Rattle.memory.specs.Ways.{left_by}
use Rattle.memory.specs.Layout.{prov_part, places}
use Rattle.memory.specs.View.{life_at, value_at, plugin_at, view}
use Rattle.memory.specs.Writes.{find_at}
use Rattle.memory.specs.Known.{at_place, at_known, none_known, looked_up, not_found}
use Rattle.memory.specs.declared.Life.{Life}
use Rattle.memory_lists.specs.Listed.{provided_at}
use Rattle.memory_life.specs.Told.{life_found}
use Rattle.memory_values.specs.Values.{port_from, with_value, value_below, with_value_below, value_below_lem, with_value_below_lem}
use Rattle.memory_values.specs.Firsts.{port_there, port_nothing, port_below, provisions_at, value_there}
use Rattle.registry_offer.specs.Rules.{closed, with_offered, offers}
use Rattle.registry_offer.specs.Words.{value_put, port_put, offered_to}

some_same : (o : Option ℕ) → option.is_some o ≡ is_some o
some_same (Some n) = refl
some_same None = refl

-- where a port is among the provisions of a place, and its value
module _ (m : List ℕ) (i : ℕ) (q : Port) where
  pub undeclared : port_from 0 q (pairs (prov_part m i)) ≡ None → is_in q (provided (plugin_at m i)) ≡ false
  undeclared n = ap (is_in q) (provided_at m i) ∙ port_nothing q (pairs (prov_part m i)) n

  module _ (j : ℕ) (t : port_from 0 q (pairs (prov_part m i)) ≡ Some j) where
    pub declared : is_in q (provided (plugin_at m i)) ≡ true
    declared = ap (is_in q) (provided_at m i) ∙ (port_there q (pairs (prov_part m i)) j t).listed

    pub value_is : value_in q (plugin_at m i).provisions ≡ value_at m i j
    value_is = ap (λ (vs : List Provision). value_in q vs) (provisions_at m i) ∙ value_there m i q (pairs (prov_part m i)) j t

    -- an offer that is stored is stored there
    pub put_there : (id : ℕ) → find_at m id ≡ Some i → (v : ℕ) → offered_to m id q v (stores (with_offered q v (plugin_at m i)) []) ≡ with_value m i j v
    unfolding left_by
    put_there id e v = ap (port_put m q v) e ∙ ap (value_put m i v) t

module _ (m : List ℕ) (id : ℕ) (q : Port) (v : ℕ) where
  -- an answer, and the words afterwards
  abbrev pub Offered : Answer → List ℕ → Type 0
  Offered a m' = (a ≡ answer_of (offer (view m) id q v)) × (m' ≡ offered_to m id q v (offer (view m) id q v))

  refused : (x : Refusal) → offer (view m) id q v ≡ refuses x [] → Offered (Refused (number x) []) m
  unfolding left_by
  refused x e = (rw e, rw e)

  -- a call that ends with a refusal
  module _ {T : Type 0} (f : T → List ℕ) (r : Result T Refusal) (x : Refusal) (u : IsErrAnd r (λ y. y ≡ x)) where
    ends : (y : Refusal) → x ≡ y → offer (view m) id q v ≡ refuses y [] → Offered (answered f r) m
    ends y k e = let p = err_from_is_err_and r u in rw (p.1, p.2, k) (refused y e)

    pub offered_none : ◌≡◌ {A = Result ℕ Refusal} (Err x) (ok_or (find_at m id) Unknown) → Offered (answered f r) m
    unfolding offer
    offered_none e = let n = not_found m id x e in ends Unknown n.1 (none_known m id n.0 (offers q v))

  module _ (i : ℕ) (a : ◌≡◌ {A = Result ℕ Refusal} (Ok i) (ok_or (find_at m id) Unknown)) (life : Life) (l : life ≡ life_at m (i % places)) (b : Bool)
      (k : b ≡ not (is_loading life.phase && not life.retired)) where
    e : find_at m id ≡ Some i
    e = looked_up m id i a

    offer_found : offer (view m) id q v ≡ offers q v (plugin_at m i)
    unfolding offer
    offer_found = at_known m id i e (offers q v)

    closed_is : closed (plugin_at m i) ≡ b
    unfolding plugin_at
    closed_is = ap (λ (x : Life). not (is_loading x.phase && not x.retired)) (sym (life_found m id i e life l)) ∙ sym k

    pub offered_closed : b ≡ true → Offered (Refused (number Closed) []) m
    unfolding checked
    offered_closed t = refused Closed (offer_found ∙ rw (closed_is ∙ t))

    module _ (o : b ≡ false) (ws : List ℕ) (w : ws ≡ prov_part m (i % places)) (n : Option ℕ) (g : n ≡ port_from 0 q (pairs ws)) where
      found_is : port_from 0 q (pairs (prov_part m i)) ≡ n
      found_is = sym (g ∙ ap (λ (x : List ℕ). port_from 0 q (pairs x)) (w ∙ ap (prov_part m) (at_place m id i e)))

      pub offered_undeclared : {T : Type 0} (f : T → List ℕ) (r : Result T Refusal) (x : Refusal) → IsErrAnd r (λ y. y ≡ x)
          → ◌≡◌ {A = Result ℕ Refusal} (Err x) (ok_or n Undeclared) → n ≡ None → Offered (answered f r) m
      unfolding checked
      offered_undeclared f r x u k s =
          let h : ◌≡◌ {A = Result ℕ Refusal} (Err x) (Err Undeclared) = rw s at k in
          ends f r x u Undeclared (cc) (offer_found ∙ rw (closed_is ∙ o, undeclared m i q (found_is ∙ s)))

      module _ (j : ℕ) (t : n ≡ Some j) (x : Option ℕ) (y : x ≡ value_below m (i % places) j) (c : Bool)
          (z : c ≡ option.is_some x) where
        given_is : is_some (value_in q (plugin_at m i).provisions) ≡ c
        given_is =
            let u = found_is ∙ t in
            let h : value_below m (i % places) j ≡ value_at m i j = rw (at_place m id i e) (value_below_lem m i j (port_below m i q j u)) in
            ap is_some (value_is m i q j u ∙ sym (y ∙ h)) ∙ sym (z ∙ some_same x)

        pub offered_twice : c ≡ true → Offered (Refused (number Duplicate) []) m
        unfolding checked
        offered_twice s = refused Duplicate (offer_found ∙ rw (closed_is ∙ o, declared m i q j (found_is ∙ t), given_is ∙ s))

        stored_is : c ≡ false → offer (view m) id q v ≡ stores (with_offered q v (plugin_at m i)) []
        unfolding checked
        stored_is s = offer_found ∙ rw (closed_is ∙ o, declared m i q j (found_is ∙ t), given_is ∙ s)

        pub offered_now : c ≡ false → (m' : List ℕ) → m' ≡ with_value_below m (i % places) j v → Offered (Accepted []) m'
        offered_now s m' p =
            let u = found_is ∙ t in
            let h : with_value_below m (i % places) j v ≡ with_value m i j v = rw (at_place m id i e) (with_value_below_lem m i j v (port_below m i q j u)) in
            (sym (ap answer_of (stored_is s)), p ∙ h ∙ sym (ap (offered_to m id q v) (stored_is s) ∙ put_there m i q j u id e v))
