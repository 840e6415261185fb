-- What is asked of a block's numbers alone: its life, and its id and counts.
use Rattle.std.specs.Prelude.{ℕ, zero, suc, ◌+◌, ◌≤◌, ◌<◌, ◌≡◌, refl, Bool, true, false, not, ◌&&◌, [], ◌∷◌, eqb, leb, ltb, length}
use Rattle.std.proofs.Common.{sym, ◌∙◌, arith, eqb-true, ltb-true, leb-true, le-leb}
use Rattle.std.proofs.Math.Bool.{and-true}
use Rattle.std.proofs.lemmas.Bool.{eqb-false, lt-leb}
use Rattle.rules_laws.specs.Laws.Tests.{by_test}
use Rattle.rules.specs.Basics.{pick, any, all, every, is_none, ◌⊃◌}
use Rattle.rules.specs.Limits.{max_rows, max_realm_rows, max_dependencies, max_provision_keys}
use Rattle.rules_types.specs.declared.Phase.{Phase}
use Rattle.rules_types.specs.declared.Phase.TheVariants.{Idle, Loading, Active, Unloading}
use Rattle.rules_types.specs.declared.Root.{Root}
use Rattle.rules_types.specs.declared.Root.TheVariants.{Unissued, Queued, Spent}
use Rattle.rules.specs.Holds.{Provision, Plugin, is_idle, is_active, rows_of}
use Rattle.rules.specs.Phases.{is_spent}
use Rattle.rules.specs.Admission.{is_unissued}
use Rattle.rules.specs.Queries.{phase_number}
use Rattle.rules.specs.Conditions.{queued_by}
use Rattle.rules_load.specs.Joining.{life_fits}
use Rattle.rules_load.specs.Laws.Lists.{every_true}
use Rattle.memory.specs.View.{phase_of}
use Rattle.memory.specs.Writes.{root_tag, root_revision}
use Rattle.text_read_block.specs.declared.Block.{Block}
use Rattle.text_read_block.specs.Blocks.{block_of}
use Rattle.text_read_block.specs.Valued.{valued_of, valued_none, valued_all}
use Rattle.registry_block.specs.declared.Numbers.{Numbers}
use Rattle.registry_block.specs.Numbers.{numbers_of, root_said, above_two}

-- by its phase and root, and how many of its provisions have a value
abbrev pub life_in : Phase → Root → (generation revision valued provisions : ℕ) → Bool
life_in Idle o g v n m = is_unissued o && eqb n 0
life_in Loading o g v n m = not (eqb g 0) && queued_by o v
life_in Active o g v n m = not (eqb g 0) && is_spent o && eqb n m
life_in Unloading o g v n m = not (eqb g 0) && queued_by o v

abbrev pub life_by : Numbers → Bool
life_by b = life_in (phase_of b.phase) (root_said b.root b.queued) b.generation b.revision b.valued b.provisions

-- number by number
pub life_by_numbers : (b : Numbers) → life_by b
    ≡ pick (eqb b.phase 0) (pick (eqb b.root 0) (eqb b.valued 0) false)
    (pick (eqb b.generation 0) false
    (pick (eqb b.phase 2) (pick (eqb b.root 2) (eqb b.valued b.provisions) false)
    (pick (eqb b.root 1) (leb b.queued b.revision) true)))
life_by_numbers b = go b.phase b.root
  where
    guard : (x y : Bool) → (not x && y) ≡ pick x false y
    guard true y = refl
    guard false y = refl

    guard_both : (x s y : Bool) → (not x && s && y) ≡ pick x false (pick s y false)
    guard_both true true y = refl
    guard_both true false y = refl
    guard_both false true y = refl
    guard_both false false y = refl

    least : leb 0 b.revision ≡ true
    least = le-leb 0 b.revision (omega arith)

    go : (h o : ℕ) → life_in (phase_of h) (root_said o b.queued) b.generation b.revision b.valued b.provisions
        ≡ pick (eqb h 0) (pick (eqb o 0) (eqb b.valued 0) false)
        (pick (eqb b.generation 0) false
        (pick (eqb h 2) (pick (eqb o 2) (eqb b.valued b.provisions) false)
        (pick (eqb o 1) (leb b.queued b.revision) true)))
    go zero zero = refl
    go zero (suc zero) = refl
    go zero (suc (suc zero)) = refl
    go zero (suc (suc (suc o))) = rw (above_two o 0 (omega arith))
    go (suc zero) zero = guard (eqb b.generation 0) _
    go (suc zero) (suc zero) = guard (eqb b.generation 0) _
    go (suc zero) (suc (suc zero)) = guard (eqb b.generation 0) _
    go (suc zero) (suc (suc (suc o))) = rw (least, above_two o 1 (omega arith)) (guard (eqb b.generation 0) true)
    go (suc (suc zero)) zero = guard_both (eqb b.generation 0) false _
    go (suc (suc zero)) (suc zero) = guard_both (eqb b.generation 0) false _
    go (suc (suc zero)) (suc (suc zero)) = guard_both (eqb b.generation 0) true _
    go (suc (suc zero)) (suc (suc (suc o))) = rw (above_two o 2 (omega arith)) (guard_both (eqb b.generation 0) false _)
    go (suc (suc (suc h))) zero = rw (above_two h 0 (omega arith), above_two h 2 (omega arith)) (guard (eqb b.generation 0) _)
    go (suc (suc (suc h))) (suc zero) = rw (above_two h 0 (omega arith), above_two h 2 (omega arith)) (guard (eqb b.generation 0) _)
    go (suc (suc (suc h))) (suc (suc zero)) = rw (above_two h 0 (omega arith), above_two h 2 (omega arith)) (guard (eqb b.generation 0) _)
    go (suc (suc (suc h))) (suc (suc (suc o))) =
        rw (least, above_two h 0 (omega arith), above_two h 2 (omega arith), above_two o 1 (omega arith)) (guard (eqb b.generation 0) true)

-- The numbers of a block say its life.
pub life_of_numbers : (b : Block) → life_by (numbers_of b) ≡ life_in b.phase b.root b.generation b.revision b.valued b.provisions
life_of_numbers b = go b.phase b.root
  where
    go : (h : Phase) (o : Root)
        → life_in (phase_of (phase_number h)) (root_said (root_tag o) (root_revision o)) b.generation b.revision b.valued b.provisions
        ≡ life_in h o b.generation b.revision b.valued b.provisions
    go Idle Unissued = refl
    go Idle (Queued v a) = refl
    go Idle Spent = refl
    go Loading Unissued = refl
    go Loading (Queued v a) = refl
    go Loading Spent = refl
    go Active Unissued = refl
    go Active (Queued v a) = refl
    go Active Spent = refl
    go Unloading Unissued = refl
    go Unloading (Queued v a) = refl
    go Unloading Spent = refl

pub life_by_lem : (p : Plugin) (n : ℕ) → life_by (numbers_of (block_of p n)) ≡ life_fits p
life_by_lem p n = life_of_numbers (block_of p n) ∙ go p.phase p.root
  where
    begun : not (eqb p.generation 0) ≡ leb 1 p.generation
    begun = by_test (eqb p.generation 0)
        (λ y. let e = eqb-true p.generation 0 y in rw (y, lt-leb 1 p.generation (omega arith)))
        (λ n. let e = eqb-false p.generation 0 n in rw (n, le-leb 1 p.generation (omega arith)))

    alone : (q : Bool) → (leb 1 p.generation && q) ≡ (leb 1 p.generation && true && true && q)
    alone q = by_test (leb 1 p.generation) (λ y. rw y) (λ n. rw n)

    go : (h : Phase) (o : Root) → life_in h o p.generation p.revision (valued_of p.provisions) (length p.provisions)
        ≡ ((not (is_idle h) ⊃ leb 1 p.generation)
        && (is_idle h ⊃ (is_unissued o && all (λ (v : Provision). is_none v.value) p.provisions))
        && (is_active h ⊃ (is_spent o && not (any (λ (v : Provision). is_none v.value) p.provisions)))
        && queued_by o p.revision)
    go Idle Unissued =
        let none = all (λ (v : Provision). is_none v.value) p.provisions in
        valued_none p.provisions ∙ sym (and-true none) ∙ sym (and-true (none && true))
    go Idle (Queued v a) = refl
    go Idle Spent = refl
    go Loading Unissued = rw begun (alone _)
    go Loading (Queued v a) = rw begun (alone _)
    go Loading Spent = rw begun (alone _)
    go Active Unissued = rw begun (by_test (leb 1 p.generation) (λ y. rw y) (λ n. rw n))
    go Active (Queued v a) = rw begun (by_test (leb 1 p.generation) (λ y. rw y) (λ n. rw n))
    go Active Spent =
        let full = not (any (λ (v : Provision). is_none v.value) p.provisions) in
        rw (begun, valued_all p.provisions) (by_test (leb 1 p.generation) (λ y. rw y (sym (and-true full))) (λ n. rw n))
    go Unloading Unissued = rw begun (alone _)
    go Unloading (Queued v a) = rw begun (alone _)
    go Unloading Spent = rw begun (alone _)

-- An issued id that is not below the lowest, and lists and rows within their limits; so many rows are in use.
abbrev pub counts_by : Numbers → (from next rows : ℕ) → Bool
counts_by b from next rows =
    every
    (leb from b.id
    ∷ ltb b.id next
    ∷ leb b.realms max_realm_rows
    ∷ leb b.dependencies max_dependencies
    ∷ leb b.provisions max_provision_keys
    ∷ leb (rows + (b.dependencies + b.provisions + 1)) max_rows
    ∷ [])

-- what is asked of a plugin so
abbrev pub counts_fit : (from next rows : ℕ) → Plugin → Bool
counts_fit from next rows p =
    every
    (leb from p.id
    ∷ ltb p.id next
    ∷ leb (length p.realms.rows) max_realm_rows
    ∷ leb (length p.dependencies) max_dependencies
    ∷ leb (length p.provisions) max_provision_keys
    ∷ leb (rows + rows_of p) max_rows
    ∷ [])

pub counts_by_lem : (from next rows : ℕ) (p : Plugin) (n : ℕ) → counts_by (numbers_of (block_of p n)) from next rows ≡ counts_fit from next rows p
counts_by_lem from next rows p n = refl

-- What it says of the numbers.
pub record Within (b : Numbers) (next rows : ℕ) : Type 0 where
  pub issued : b.id < next
  pub few_realms : b.realms ≤ max_realm_rows
  pub few_dependencies : b.dependencies ≤ max_dependencies
  pub few_provisions : b.provisions ≤ max_provision_keys
  pub room : rows + b.dependencies + b.provisions < max_rows

pub counts_within : (b : Numbers) (from next rows : ℕ) → counts_by b from next rows ≡ true → Within b next rows
counts_within b from next rows e =
    let w = every_true
    (leb from b.id
    ∷ ltb b.id next
    ∷ leb b.realms max_realm_rows
    ∷ leb b.dependencies max_dependencies
    ∷ leb b.provisions max_provision_keys
    ∷ leb (rows + (b.dependencies + b.provisions + 1)) max_rows
    ∷ []) e in
    let room = leb-true (rows + (b.dependencies + b.provisions + 1)) max_rows w.1.1.1.1.1.0 in
    record {
      issued = ltb-true b.id next w.1.0;
      few_realms = leb-true b.realms max_realm_rows w.1.1.0;
      few_dependencies = leb-true b.dependencies max_dependencies w.1.1.1.0;
      few_provisions = leb-true b.provisions max_provision_keys w.1.1.1.1.0;
      room = omega arith;
    }
