-- What the sequences of demand 3 start from; a fresh registry is one.
pub mod Link
pub mod Lives
use Rattle.std.specs.Prelude.{ℕ, ◌≤◌, ◌≡◌, refl, ◌≢◌, length, Some, None}
use Rattle.std.proofs.Common.{arith}
use Rattle.rules_types.specs.declared.Root.TheVariants.{Queued}
use Rattle.rules.specs.Holds.{Plugin, Registry, lookup, opened}
use Rattle.rules.specs.Limits.{max_plugins}

-- What is asked of a start: 32 places, every id below the next one, and no root Queued.
pub record Start (s : Registry) : Type 0 where
  pub room : length s.places ≡ max_plugins
  pub fresh : (x : ℕ) → s.next ≤ x → lookup s x ≡ None
  pub unqueued : (x : ℕ) (p : Plugin) → lookup s x ≡ Some p → (v a : ℕ) → p.root ≢ Queued v a

pub fresh_start : (d f : ℕ) → Start (opened d f)
unfolding lookup
fresh_start d f = record {
  room = refl;
  fresh = λ x l. refl;
  unqueued = λ x p e. let z : ◌≡◌ {A = ℕ} 0 1 = cc in absurd (omega arith);
}
