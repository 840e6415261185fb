-- Upstream's clauses on a new store: what an opened registry holds.
use Rattle.std.specs.Prelude.{ℕ, ◌≡◌, refl, [], None}
use Rattle.rules_types.specs.declared.Port.{Port}
use Rattle.rules.specs.Holds.{Registry, opened, lookup, provider}
use Rattle.rules.specs.Outcomes.{Accepted, answer_of}
use Rattle.rules.specs.Values.{visible}

-- S NativeServices::new: the domain handed in, no plugin, so no value.
pub record Empty (d : ℕ) (r : Registry) : Type 0 where
  pub domain : r.domain ≡ d
  pub nobody : (id : ℕ) → lookup r id ≡ None
  pub nothing : (q : Port) → answer_of (visible r q) ≡ Accepted []

pub opened_empty : (d f : ℕ) → Empty d (opened d f)
unfolding lookup provider visible
opened_empty d f = record { domain = refl; nobody = λ id. refl; nothing = λ q. refl }
