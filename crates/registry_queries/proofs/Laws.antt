-- The laws of `specs/Asked.antt` in the form of the returns.
use Rattle.std.specs.Prelude.{ℕ, ◌%◌, ◌≡◌, refl, List, get_or, Option, Some, None, Result, Ok, Err, IsErrAnd, ok_or}
use Rattle.std.proofs.Common.{sym, ap, ◌∙◌}
use Rattle.std.proofs.lemmas.Result.{err_from_is_err_and}
use Rattle.std.specs.Option.{option_map}
use Rattle.rules.specs.Answers.{answered}
use Rattle.rules.specs.Basics.{one}
use Rattle.rules.specs.Refusals.{Refusal, Unknown}
use Rattle.rules_types.specs.declared.Port.{Port}
use Rattle.rules_types.specs.declared.Edition.{Edition}
use Rattle.rules.specs.Holds.{port, Plugin}
use Rattle.rules.specs.Outcomes.{Answer, Accepted, answers, answer_of, lent_after}
use Rattle.rules.specs.Ports.{pairs, realm_list}
use Rattle.rules.specs.Queries.{Field, Parent, Anchor, EditionOf, field_of, ask_plugin}
use Rattle.rules.specs.Dependencies.{first_port, dependency_port}
use Rattle.rules.specs.Lists.{Which, listing, list}
use Rattle.ports.specs.Answers.{first_from}
use Rattle.ports.specs.Found.{first_port_law, first_port_none}
use Rattle.memory.specs.Layout.{dep_part, realm_part, places}
use Rattle.memory.specs.View.{parent_at, anchor_at, life_at, plugin_at, view}
use Rattle.memory.specs.Writes.{find_at}
use Rattle.memory.specs.Known.{at_place, life_of, life_of_lem, looked_up, not_found, unknown_answer}
use Rattle.memory.specs.declared.Life.{Life}
use Rattle.registry_queries.specs.Answers.{port_numbers, edition_numbers}
use Rattle.registry_queries.specs.Asked.{life_known, part_of, asked, port_asked, listed, listed_none}

life_none : (m : List ℕ) (o : Option ℕ) (x : Refusal) → ◌≡◌ {A = Result Life Refusal} (Err x) (life_known m o) → ◌≡◌ {A = Result ℕ Refusal} (Err x) (ok_or o Unknown)
life_none m None x e = let j : x ≡ Unknown = cc in ap Err j
life_none m (Some i) x e = cc

life_some : (m : List ℕ) (o : Option ℕ) (l : Life) → ◌≡◌ {A = Result Life Refusal} (Ok l) (life_known m o) → (i : ℕ) × (o ≡ Some i) × (l ≡ life_at m (i % places))
life_some m None l e = cc
life_some m (Some i) l e = (i, refl, cc)

-- an id that no plugin has
module _ {T : Type 0} (f : T → List ℕ) (r : Result T Refusal) (m : List ℕ) (id : ℕ) (x : Refusal) (u : IsErrAnd r (λ y. y ≡ x)) where
  module _ (e : ◌≡◌ {A = Result ℕ Refusal} (Err x) (ok_or (find_at m id) Unknown)) where
    pub no_answer : (q : Field) → answered f r ≡ answer_of (ask_plugin (view m) q id)
    unfolding ask_plugin
    no_answer q = unknown_answer f r m id x u e (λ p. answers (field_of q p))

    pub no_port : (k : ℕ) → answered f r ≡ answer_of (dependency_port (view m) id k)
    unfolding dependency_port
    no_port k = unknown_answer f r m id x u e (λ p. answers (first_port k p.dependencies))

    pub no_list : (w : Which) (place : ℕ) (b : List ℕ) → (answered f r ≡ answer_of (list (view m) w id place b)) × (b ≡ lent_after b (list (view m) w id place b))
    unfolding lent_after
    no_list w place b =
        let p = err_from_is_err_and r u in
        let n = not_found m id x e in
        rw (p.1, p.2, n.1, listed_none m id n.0 w place b) (refl, refl)

  pub no_life : ◌≡◌ {A = Result Life Refusal} (Err x) (life_known m (find_at m id)) → (q : Field) → answered f r ≡ answer_of (ask_plugin (view m) q id)
  no_life e q = no_answer (life_none m (find_at m id) x e) q

answer : (m : List ℕ) (id i : ℕ) → find_at m id ≡ Some i → (f : Field) → Accepted (field_of f (plugin_at m (i % places))) ≡ answer_of (ask_plugin (view m) f id)
answer m id i e f = rw (at_place m id i e) (sym (ap answer_of (asked m id i e f)))

-- a question whose answer the life holds
pub life_answer : (m : List ℕ) (id : ℕ) (l : Life) → ◌≡◌ {A = Result Life Refusal} (Ok l) (life_known m (find_at m id))
    → (f : Field) (g : Life → List ℕ) → ((p : Plugin) → field_of f p ≡ g (life_of p)) → Accepted (g l) ≡ answer_of (ask_plugin (view m) f id)
life_answer m id l e f g h =
    let s = life_some m (find_at m id) l e in
    ap (λ (x : Life). Accepted (g x)) (s.2 ∙ sym (life_of_lem m (s.0 % places)))
    ∙ sym (ap Accepted (h (plugin_at m (s.0 % places)))) ∙ answer m id s.0 s.1 f

module _ (m : List ℕ) (id i : ℕ) (e : ◌≡◌ {A = Result ℕ Refusal} (Ok i) (ok_or (find_at m id) Unknown)) where
  found : find_at m id ≡ Some i
  found = looked_up m id i e

  pub parent_answer : (p : Option ℕ) → p ≡ parent_at m (i % places) → Accepted (one p) ≡ answer_of (ask_plugin (view m) Parent id)
  unfolding plugin_at
  parent_answer p h = rw h (answer m id i found Parent)

  pub anchor_answer : (q : Port) → q ≡ anchor_at m (i % places) → Accepted (port_numbers (Some q)) ≡ answer_of (ask_plugin (view m) Anchor id)
  unfolding plugin_at
  anchor_answer q h = rw h (answer m id i found Anchor)

  pub edition_told : (l : List ℕ) → l ≡ realm_part m (i % places) → (o : Edition) → o ≡ (realm_list l).edition
      → Accepted (edition_numbers o) ≡ answer_of (ask_plugin (view m) EditionOf id)
  unfolding plugin_at
  edition_told l h o g =
      ap (λ (x : Edition). Accepted (edition_numbers x)) (g ∙ ap (λ x. (realm_list x).edition) h) ∙ answer m id i found EditionOf

  pub list_answer : (w : Which) (place : ℕ) (b b' l : List ℕ) (a : Answer) → l ≡ part_of w m (i % places)
      → (a ≡ answer_of (listing (pairs l) place b)) × (b' ≡ lent_after b (listing (pairs l) place b))
      → (a ≡ answer_of (list (view m) w id place b)) × (b' ≡ lent_after b (list (view m) w id place b))
  list_answer w place b b' l a h r = rw (listed m id i found w place b, ← at_place m id i found, ← h) r

  -- the port of a dependency key
  module _ (k : ℕ) (l : List ℕ) (h : l ≡ dep_part m (i % places)) where
    port_told : Accepted (first_port k (pairs l)) ≡ answer_of (dependency_port (view m) id k)
    port_told = rw (h, at_place m id i found) (sym (ap answer_of (port_asked m id i found k)))

    pub port_found : (o : Option ℕ) (q : Option Port) → o ≡ first_from 0 k (pairs l) → q ≡ option_map (λ n. get_or (pairs l) n (port 0 0)) o
        → Accepted (port_numbers q) ≡ answer_of (dependency_port (view m) id k)
    port_found None q f g = ap (λ (x : Option Port). Accepted (port_numbers x)) g ∙ sym (ap Accepted (first_port_none k (pairs l) (sym f))) ∙ port_told
    port_found (Some n) q f g =
        ap (λ (x : Option Port). Accepted (port_numbers x)) g ∙ sym (ap Accepted (first_port_law k (pairs l) n (sym f)).answer) ∙ port_told
