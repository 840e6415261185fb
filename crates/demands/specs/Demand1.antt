-- Demand 1: on any words, a refusal answers one of document 01's numbers and leaves the words and the lent buffer as they were.
use Rattle.std.specs.Prelude.{ℕ, ◌≡◌, refl, List, Option, Some, None}
use Rattle.std.proofs.Common.{arith, ap, ◌∙◌}
use Rattle.rules.specs.Refusals.{Refusal, number}
use Rattle.rules.specs.Outcomes.{Refused, Outcome, tells, refusing, accepting, refuses, writes, stores, adds, removes, answer_of}
use Rattle.rules.specs.Steps.{Op, step, answer_to, lent, lent_after_step}
use Rattle.rules_laws.specs.Demand1.{refusal_changes_nothing}
use Rattle.memory.specs.Ways.{Way, left_by}
use Rattle.memory.specs.View.{view}
use Rattle.demands.specs.Leaves.{way_of, left, leaves}

-- An outcome whose answer is a refusal.
pub record IsRefusal (o : Outcome) (n : ℕ) : Type 0 where
  pub refusal : Refusal
  pub values : List ℕ
  pub outcome : o ≡ refuses refusal values
  pub numbered : n ≡ number refusal

refused : (o : Outcome) (n : ℕ) (vs : List ℕ) → answer_of o ≡ Refused n vs → IsRefusal o n
refused (tells (refusing x ws)) n vs e = record { refusal = x; values = ws; outcome = refl; numbered = cc }
refused (tells (accepting ws)) n vs e = let z : ◌≡◌ {A = ℕ} 0 1 = cc in absurd (omega arith)
refused (writes place l ws) n vs e = let z : ◌≡◌ {A = ℕ} 0 1 = cc in absurd (omega arith)
refused (stores p ws) n vs e = let z : ◌≡◌ {A = ℕ} 0 1 = cc in absurd (omega arith)
refused (adds p ws) n vs e = let z : ◌≡◌ {A = ℕ} 0 1 = cc in absurd (omega arith)
refused (removes id ws) n vs e = let z : ◌≡◌ {A = ℕ} 0 1 = cc in absurd (omega arith)

left_same : (w : Option Way) (m : List ℕ) (x : Refusal) (vs : List ℕ) → left w m (refuses x vs) ≡ m
unfolding left_by
left_same None m x vs = refl
left_same (Some w) m x vs = refl

leaves_same : (m : List ℕ) (o : Op) (n : ℕ) → IsRefusal (step (view m) o) n → leaves m o ≡ m
leaves_same m o n w = ap (left (way_of o) m) w.outcome ∙ left_same (way_of o) m w.refusal w.values

pub record Nothing-changed (m : List ℕ) (o : Op) (n : ℕ) : Type 0 where
  pub refusal : Refusal
  pub numbered : n ≡ number refusal
  pub words : leaves m o ≡ m
  pub lent : lent_after_step (view m) o ≡ lent o

pub demand_1 : (m : List ℕ) (o : Op) (n : ℕ) (vs : List ℕ) → answer_to (view m) o ≡ Refused n vs → Nothing-changed m o n
demand_1 m o n vs e =
    let w = refused (step (view m) o) n vs e in
    record {
      refusal = w.refusal;
      numbered = w.numbered;
      words = leaves_same m o n w;
      lent = (refusal_changes_nothing (view m) o n vs e).lent;
    }
