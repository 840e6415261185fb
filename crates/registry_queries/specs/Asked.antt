-- What a question comes to where its id is found in the words, and where it is not.
use Rattle.std.specs.Prelude.{ℕ, ◌%◌, ◌≡◌, refl, List, [], Option, Some, None, Result, Ok, Err}
use Rattle.std.proofs.Common.{◌∙◌}
use Rattle.rules.specs.Refusals.{Refusal, Unknown}
use Rattle.rules.specs.Outcomes.{refuses, answers}
use Rattle.rules.specs.Ports.{pairs, rows_in, realm_list}
use Rattle.rules.specs.Queries.{Field, field_of, ask_plugin}
use Rattle.rules.specs.Dependencies.{first_port, dependency_port}
use Rattle.rules.specs.Lists.{Which, Dependencies, Provisions, RealmRows, list_of, listing, list}
use Rattle.memory.specs.Layout.{dep_part, prov_part, realm_part, places}
use Rattle.memory.specs.View.{life_at, plugin_at, view}
use Rattle.memory.specs.Writes.{find_at}
use Rattle.memory.specs.Known.{at_known, none_known}
use Rattle.memory.specs.declared.Life.{Life}
use Rattle.memory_lists.specs.Listed.{provided_at}

-- The life at the place where an id was found, or refusal 1.
abbrev pub life_known : List ℕ → Option ℕ → Result Life Refusal
life_known m (Some i) = Ok (life_at m (i % places))
life_known m None = Err Unknown

-- The words of a list.
abbrev pub part_of : Which → List ℕ → ℕ → List ℕ
part_of Dependencies m i = dep_part m i
part_of Provisions m i = prov_part m i
part_of RealmRows m i = rows_in (realm_part m i)

pub list_at : (w : Which) (m : List ℕ) (i : ℕ) → list_of w (plugin_at m i) ≡ pairs (part_of w m i)
unfolding plugin_at realm_list
list_at Dependencies m i = refl
list_at Provisions m i = provided_at m i
list_at RealmRows m i = refl

module _ (m : List ℕ) (id i : ℕ) (e : find_at m id ≡ Some i) where
  pub asked : (f : Field) → ask_plugin (view m) f id ≡ answers (field_of f (plugin_at m i))
  unfolding ask_plugin
  asked f = at_known m id i e (λ p. answers (field_of f p))

  pub port_asked : (k : ℕ) → dependency_port (view m) id k ≡ answers (first_port k (pairs (dep_part m i)))
  unfolding dependency_port
  port_asked k = at_known m id i e (λ p. answers (first_port k p.dependencies)) ∙ rw (list_at Dependencies m i)

  pub listed : (w : Which) (place : ℕ) (b : List ℕ) → list (view m) w id place b ≡ listing (pairs (part_of w m i)) place b
  unfolding list
  listed w place b = at_known m id i e (λ p. listing (list_of w p) place b) ∙ rw (list_at w m i)

module _ (m : List ℕ) (id : ℕ) (e : find_at m id ≡ None) where
  pub asked_none : (f : Field) → ask_plugin (view m) f id ≡ refuses Unknown []
  unfolding ask_plugin
  asked_none f = none_known m id e (λ p. answers (field_of f p))

  pub port_none : (k : ℕ) → dependency_port (view m) id k ≡ refuses Unknown []
  unfolding dependency_port
  port_none k = none_known m id e (λ p. answers (first_port k p.dependencies))

  pub listed_none : (w : Which) (place : ℕ) (b : List ℕ) → list (view m) w id place b ≡ refuses Unknown []
  unfolding list
  listed_none w place b = none_known m id e (λ p. listing (list_of w p) place b)
