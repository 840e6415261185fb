-- The parts of a registration: the late checks, and the plugin written.
use Rattle.std.specs.Prelude.{Option, Some, None, Result, Ok, Err}
use Prim.Native.Nat.{ℕ, ◌+◌, ◌-◌, ◌*◌, ◌/◌, ◌%◌, ◌<◌}
use native.Mathlib.Omega.{arith}
use native.Mathlib.Nat.{mod-eq_of_lt}
use mathlib.Core.Path.{◌≡◌, sym, ap, ◌∙◌}
use mathlib.Core.Logic.{◌≢◌}
use mathlib.Core.List.{List, [], ◌∷◌}
use lib.ListN.{length, take, drop}
use lib.Seq.{take_all}
use borrow.Author.Tests.{eqb-false}
use Rattle.rules.specs.Basics.{last}
use Rattle.rules_types.specs.declared.Edition.{Edition}
use Rattle.rules.specs.Holds.{rows_in_use}
use Rattle.rules.specs.Ports.{realm_list}
use Rattle.rules.specs.Outcomes.{Refused, Accepted}
use Rattle.rules_laws.specs.Laws.Tests.{Passed}
use Rattle.memory.specs.Layout.{word, places, next_word}
use Rattle.memory.specs.View.{view}
use Rattle.memory_places.specs.Changes.{free_at}
use Rattle.memory_places.specs.Free.{free_at_lem, count_full}
use Rattle.memory_entry.specs.Entries.{filled_place}
use Rattle.memory_entry.specs.declared.Entry.{Entry}
use Rattle.rules.specs.Registration.{room_checks}
use Rattle.rules.specs.Refusals.{Refusal, number}
use Rattle.rules.specs.Answers.{verdict}
use Rattle.rules_laws.specs.Laws.Verdicts.{passes}
use Rattle.registry_register.specs.Written.{new_entry, late_verdict, settled_answer, settled_words}

-- as many rows as there are
pub all_rows : (l : List ℕ) (n : ℕ) → length l / 2 < n → l ≡ take (n * 2) l
all_rows l n h = sym (take_all (n * 2) l (omega arith))

-- The late checks refuse, or the plugin is written.
module _ (m : List ℕ) (parent : Option ℕ) (payload count : ℕ) (ds cs zs : List ℕ) (u : ℕ) (i : u ≡ rows_in_use (view m)) where
  abbrev room : Result Unit Refusal
  room = verdict (room_checks (view m) count (u + (count + length cs / 2)))

  room_is : room ≡ late_verdict m count cs
  room_is = ap (λ x. verdict (room_checks (view m) count (x + (count + length cs / 2)))) i

  pub settle_refuses : (x : Refusal) → Err x ≡ room
      → (Refused (number x) [] ≡ settled_answer m count cs) × (m ≡ settled_words m parent payload count ds cs zs)
  unfolding settled_answer settled_words
  settle_refuses x z =
      let f : late_verdict m count cs ≡ Err x = sym (z ∙ room_is) in
      (rw f, rw f)

  module _ (z : Ok tt ≡ room) where
    e : late_verdict m count cs ≡ Ok tt
    e = sym (z ∙ room_is)

    passed : Passed (room_checks (view m) count (rows_in_use (view m) + (count + length cs / 2)))
    passed = passes (room_checks (view m) count (rows_in_use (view m) + (count + length cs / 2))) e

    pub id_left : word m next_word ≢ last
    unfolding view
    id_left = eqb-false _ _ passed.0

    pub some_free : free_at m ≡ None → ⊥
    some_free f =
        let a = count_full m f in
        let b = passed.1.0 in
        let c : ◌≡◌ {A = ℕ} 0 1 = cc in
        omega arith

    module _ (at : ℕ) (f : free_at m ≡ Some at) (rows : List ℕ) (behind : rows ≡ drop 2 zs) (o : Edition) (read : o ≡ (realm_list zs).edition)
        (b : ℕ) (g : b ≡ length cs / 2 - 1) (n : Entry) (h : n ≡ new_entry m parent payload o count b (length rows / 2))
        (m' : List ℕ) (s : m' ≡ filled_place m (at % places) n ds cs rows) where
      entry_is : n ≡ new_entry m parent payload (realm_list zs).edition count (length cs / 2 - 1) (length (drop 2 zs) / 2)
      entry_is = h ∙ (λ i. new_entry m parent payload (read i) count (g i) (length (behind i) / 2))

      pub settle_writes : (Accepted (n.id ∷ []) ≡ settled_answer m count cs) × (m' ≡ settled_words m parent payload count ds cs zs)
      unfolding settled_answer settled_words
      settle_writes =
          let p : at % places ≡ at = mod-eq_of_lt (free_at_lem m at f).below in
          (rw e (ap (λ (x : Entry). Accepted (x.id ∷ [])) entry_is), rw (e, f) (s ∙ (λ i. filled_place m (p i) (entry_is i) ds cs (behind i))))
