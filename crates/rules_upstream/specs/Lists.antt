-- Upstream's clauses on the lists of a plugin that R hands out.
use Rattle.std.specs.Prelude.{ℕ, ◌≡◌, refl, List, [], ◌∷◌, length, Some}
use Rattle.rules.specs.Holds.{Plugin, Registry, lookup}
use Rattle.rules.specs.Outcomes.{writes, found}
use Rattle.rules.specs.Ports.{flat}
use Rattle.rules.specs.Lists.{Which, list_of, listing, list}
use Rattle.rules_upstream.specs.Accepted.{When, when_passed}

-- R dependency_ports, dependencies, provisions, realm_context: the list itself in its order, and its count.
pub list_tells : (r : Registry) (w : Which) (id place : ℕ) (buffer : List ℕ) (p : Plugin) → lookup r id ≡ Some p
    → When (λ u. u ≡ writes place (flat (list_of w p)) (length (list_of w p) ∷ [])) (list r w id place buffer)
unfolding list listing found
list_tells r w id place buffer p e = rw e (when_passed (λ u. u ≡ writes place (flat (list_of w p)) (length (list_of w p) ∷ [])) _ _ (λ _ _. refl))
