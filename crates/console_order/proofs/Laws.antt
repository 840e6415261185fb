-- The two lists of a check, found and not found, and what the line of a plan says by what was told.
use Rattle.std.specs.Prelude.{Option, Some, None, Ok, Err}
use Prim.Native.Nat.{ℕ}
use mathlib.Core.Path.{◌≡◌, sym, ap, ◌∙◌}
use mathlib.Core.List.{List}
use lib.ListN.{length, get_or}
use borrow.Author.Tests.{eq-eqb, ne_eqb}
use Rattle.rules.specs.Steps.{Ask, Write}
use Rattle.rules.specs.Questions.{CheckOrder, Order}
use Rattle.text_form.specs.Bytes.{bytes}
use Rattle.memory.specs.Layout.{part}
use Rattle.host.specs.Tells.{ListsAndTells}
use Rattle.console_words.specs.declared.Run.{Run}
use Rattle.console_answer.specs.Pages.{put_on, numbers_on}
use Rattle.console_answer.specs.declared.Page.{Page}
use Rattle.console_answer.specs.Answers.{ok_word, told_in}
use Rattle.console_names.specs.Table.{Asked, Told}
use Rattle.console_operations.specs.Carried.{Answers}
use Rattle.console_names.specs.declared.Values.TheVariants.{NumbersOrNone}
use Rattle.console_show.specs.Spoken.{spoken_on, untold}
use Rattle.console_definition.specs.Definitions.{list_behind}
use Rattle.console_definition.specs.Found.{Behind, Listed, behind_missing, behind_listed}
use Rattle.console_order.specs.Checks.{TwoLists, set_in, sets_in, checking, Fronts}
use Rattle.console_order.specs.Plans.{planned_on}

module _ (line : List ℕ) (from : ℕ) (a a' b b' : List ℕ) where
  pub no_set : (n : Run) → Behind (length line) (set_in line from) a a' (Err n) → sets_in line from ≡ None
  unfolding sets_in
  no_set n h = rw (behind_missing _ (set_in line from) a a' n h)

  module _ (r : Run) (h : Behind (length line) (set_in line from) a a' (Ok r)) where
    first : Listed (set_in line from) a a' r
    first = behind_listed _ (set_in line from) a a' r h

    pub no_order : (n : Run) → Behind (length line) (list_behind line r.stop (bytes "order")) b b' (Err n) → sets_in line from ≡ None
    unfolding sets_in
    no_order n k =
        let e : list_behind line first.numbers.stop (bytes "order") ≡ None = rw first.stop at (behind_missing _ _ b b' n k) in
        rw (first.is, e)

    module _ (q : Run) (k : Behind (length line) (list_behind line r.stop (bytes "order")) b b' (Ok q)) where
      second : Listed (list_behind line r.stop (bytes "order")) b b' q
      second = behind_listed _ _ b b' q k

      order_is : list_behind line first.numbers.stop (bytes "order") ≡ Some second.numbers
      order_is = ap (λ (n : ℕ). list_behind line n (bytes "order")) (sym first.stop) ∙ second.is

      pub more_behind : (q.stop ≡ length line → ⊥) → sets_in line from ≡ None
      unfolding sets_in
      more_behind n = rw (first.is, order_is, ne_eqb second.numbers.stop (length line) (λ i. n (second.stop ∙ i)))

      pub both_there : q.stop ≡ length line → Fronts line from a a' b b' (record { set = r.count; order = q.count })
      unfolding sets_in
      both_there s =
          let t : second.numbers.stop ≡ length line = sym second.stop ∙ s in
          record {
            lists = record { set = first.numbers.found; order = second.numbers.found };
            is = rw (first.is, order_is, eq-eqb second.numbers.stop (length line) t);
            set = first.front;
            order = second.front;
          }

pub checks : (o : Option TwoLists) (l : TwoLists) → o ≡ Some l → (set order : List ℕ) → set ≡ l.set → order ≡ l.order
    → checking o ≡ Told (Ask (CheckOrder set order))
checks o l e set order s t = rw (e, s, t)

-- What is answered of one thing asked for is answered of the same.
pub same : (m out : List ℕ) (status : ℕ) (out' : List ℕ) (a b : Asked) → a ≡ b → Answers m b out status out' → Answers m a out status out'
same m out status out' a b e t = rw e t

module _ (p : Page) (m set lent : List ℕ) (status : ℕ) (out lent' : List ℕ) (t : ListsAndTells m (Write (Order set) lent) untold status out lent') where
  pub planned_other : get_or out 0 0 ≡ 0 → (q : Page) → q ≡ spoken_on p NumbersOrNone status (told_in out) → q ≡ planned_on p m set lent
  unfolding planned_on
  planned_other z q e = e ∙ sym (rw (← t.0.0, ← t.0.1, eq-eqb (get_or out 0 0) 0 z))

  pub planned_ids : (get_or out 0 0 ≡ 0 → ⊥) → (q : Page) → q ≡ put_on p ok_word → (ids : List ℕ) → ids ≡ part lent' 0 (get_or out 1 0)
      → (r : Page) → r ≡ numbers_on q ids → r ≡ planned_on p m set lent
  unfolding planned_on
  planned_ids z q e ids g r f = f ∙ rw (e, g, t.1) (sym (rw (← t.0.1, ne_eqb (get_or out 0 0) 0 z)))
