-- An operation that looks an id up in the words goes on as its rule does; and what it leaves when it stores a life.
use Rattle.std.specs.Prelude.{ℕ, ◌%◌, ◌<◌, ◌≡◌, refl, true, List, [], length, Result, Ok, Err, IsErrAnd, ok_or, Option, Some, None}
use Rattle.std.proofs.Common.{mod-eq_of_lt, ap, sym, ◌∙◌, eqb-true}
use Rattle.rules.specs.Holds.{Plugin, lookup}
use Rattle.rules_types.specs.Generations.{generation_of}
use Rattle.std.proofs.lemmas.Result.{err_from_is_err_and}
use Rattle.rules.specs.Refusals.{Refusal, Unknown}
use Rattle.rules.specs.Outcomes.{Outcome, answer_of, refuses, stores, found, known, after}
use Rattle.rules.specs.Answers.{answered}
use Rattle.memory.specs.Layout.{taken, memory_words, places}
use Rattle.memory.specs.View.{life_at, plugin_at, view}
use Rattle.memory.specs.Writes.{find_at, put_life}
use Rattle.memory.specs.Ways.{Way, left_by, by_storing, Sized, storing_sized}
use Rattle.memory.specs.Frames.{with_life, life_length}
use Rattle.memory.specs.Lookups.{placed, lookup_view, find_found}
use Rattle.memory.specs.Stores.{Alone, store_view}
use Rattle.memory.specs.declared.Life.{Life}

-- Where the id is found.
module _ (m : List ℕ) (id i : ℕ) (e : find_at m id ≡ Some i) where
  pub at_below : i < places
  at_below = (find_found m id i e).below

  pub at_place : i % places ≡ i
  at_place = mod-eq_of_lt at_below

  pub at_taken : taken m i ≡ true
  at_taken = (find_found m id i e).there

  pub at_id : (plugin_at m i).id ≡ id
  at_id = eqb-true _ _ (find_found m id i e).passes

  pub at_lookup : lookup (view m) id ≡ Some (plugin_at m i)
  at_lookup = lookup_view m id ∙ ap (placed m) e

  pub at_known : (f : Plugin → Outcome) → known (view m) id f ≡ f (plugin_at m i)
  unfolding found
  at_known f = rw at_lookup

-- Where it is not.
pub none_lookup : (m : List ℕ) (id : ℕ) → find_at m id ≡ None → lookup (view m) id ≡ None
none_lookup m id e = lookup_view m id ∙ ap (placed m) e

pub none_known : (m : List ℕ) (id : ℕ) → find_at m id ≡ None → (f : Plugin → Outcome) → known (view m) id f ≡ refuses Unknown []
unfolding found
none_known m id e f = rw (none_lookup m id e)

-- Looking an id up: its place, or refusal 1.
pub looked_up : (m : List ℕ) (id i : ℕ) → ◌≡◌ {A = Result ℕ Refusal} (Ok i) (ok_or (find_at m id) Unknown) → find_at m id ≡ Some i
looked_up m id i e = at (find_at m id) e
  where
    at : (o : Option ℕ) → ◌≡◌ {A = Result ℕ Refusal} (Ok i) (ok_or o Unknown) → o ≡ Some i
    at None e = cc
    at (Some j) e = cc

pub not_found : (m : List ℕ) (id : ℕ) (x : Refusal) → ◌≡◌ {A = Result ℕ Refusal} (Err x) (ok_or (find_at m id) Unknown) → (find_at m id ≡ None) × (x ≡ Unknown)
not_found m id x e = at (find_at m id) e
  where
    at : (o : Option ℕ) → ◌≡◌ {A = Result ℕ Refusal} (Err x) (ok_or o Unknown) → (o ≡ None) × (x ≡ Unknown)
    at None e = (refl, cc)
    at (Some j) e = cc

-- What an operation answers that ends there.
pub unknown_answer : {T : Type 0} (f : T → List ℕ) (r : Result T Refusal) (m : List ℕ) (id : ℕ) (x : Refusal) → IsErrAnd r (λ y. y ≡ x)
    → ◌≡◌ {A = Result ℕ Refusal} (Err x) (ok_or (find_at m id) Unknown) → (g : Plugin → Outcome) → answered f r ≡ answer_of (known (view m) id g)
unknown_answer f r m id x e u g =
    let p = err_from_is_err_and r e in
    let n = not_found m id x u in
    rw (p.1, p.2, n.1) (sym (ap answer_of (none_known m id n.0 g)))

-- what operations on one plugin change of it, but for its values
abbrev pub life_of : Plugin → Life
life_of p = record {
  revision = p.revision;
  payload = p.payload;
  phase = p.phase;
  retired = p.retired;
  generation = generation_of p.generation;
  root = p.root;
}

pub life_of_lem : (m : List ℕ) (i : ℕ) → life_of (plugin_at m i) ≡ life_at m i
unfolding plugin_at
life_of_lem m i = refl

-- The words after an operation that stores a life; any other outcome leaves them.
abbrev pub put_life_at : List ℕ → Option ℕ → Life → List ℕ
put_life_at m (Some i) l = put_life m i l
put_life_at m None l = m

abbrev pub storing : Way
storing = by_storing (λ m q. put_life_at m (find_at m q.id) (life_of q))

abbrev pub stored_life : List ℕ → Outcome → List ℕ
stored_life = left_by storing

pub stored_at_lem : (m : List ℕ) (id i : ℕ) → find_at m id ≡ Some i → (l : Life) (vs : List ℕ)
    → stored_life m (stores (with_life (plugin_at m i) l) vs) ≡ put_life m i l
unfolding left_by
stored_at_lem m id i e l vs = rw (at_id m id i e, e)

-- Of a memory in which ids stand once, the registry afterwards is the rule's.
pub stored_view : (m : List ℕ) → length m ≡ memory_words → Alone m → (id i : ℕ) → find_at m id ≡ Some i → (l : Life) (vs : List ℕ)
    → view (stored_life m (stores (with_life (plugin_at m i) l) vs)) ≡ after (view m) (stores (with_life (plugin_at m i) l) vs)
stored_view m size alone id i e l vs =
    ap view (stored_at_lem m id i e l vs) ∙ store_view m i l (at_below m id i e) size alone (at_taken m id i e) vs

-- On any words, there are as many after a life is stored.
pub stored_sized : Sized storing
stored_sized = storing_sized _ λ m q. at m q (find_at m q.id)
  where
    at : (m : List ℕ) (q : Plugin) (p : Option ℕ) → length (put_life_at m p (life_of q)) ≡ length m
    at m q None = refl
    at m q (Some i) = life_length m i (life_of q)
