-- What is awaited and said of `load DOMAIN LENGTH`: `load` with two numbers awaits a text, and when it has come the rule's answer
-- is said. That nothing is said before is `says_nothing` (console_load).
use Rattle.std.specs.Prelude.{ℕ, suc, ◌≤◌, ◌<◌, Bool, true, false, eqb, Option, Some, None}
use Rattle.std.proofs.Common.{arith, ◌∙◌}
use Rattle.std.proofs.Math.Path.{◌≡◌, refl, sym, ap}
use mathlib.Core.List.{List, [], ◌∷◌, ◌++◌}
use Rattle.std.proofs.Math.ListN.{length, get_or, length-append}
use borrow.Author.Tests.{eqb-true, eqb-false, ne_eqb, lt-ltb, le-ltb}
use Rattle.rules.specs.Basics.{pick, last, same_numbers}
use Rattle.rules.specs.Holds.{Registry}
use Rattle.rules.specs.Refusals.{Refusal, number, number_within}
use Rattle.rules.specs.Load.{Opening, refused, opens, load, load_answer}
use Rattle.rules_laws.specs.Laws.Tests.{by_test, both}
use Rattle.text_form.specs.Bytes.{bytes}
use Rattle.text_form.specs.Digits.{decimal_of}
use Rattle.text_form.specs.Numbers.{digits_most_20}
use Rattle.host_answers.specs.Told.{status_of}
use Rattle.registry_load.specs.Words.{leaves_load}
use Rattle.console_words.specs.Words.{next_word, bytes_of}
use Rattle.console_answer.specs.Pages.{up_to, text_room, room, put_on, number_on, numbers_on}
use Rattle.console_answer.specs.declared.Page.{Page}
use Rattle.console_answer.specs.Answers.{ok_word, no_word, bad_word, answer_on, refusal_on}
use Rattle.console_names.specs.declared.Count.TheVariants.{Exactly}
use Rattle.console_names.specs.declared.Values.TheVariants as values
use Rattle.console_names.specs.Names.{place_among}
use Rattle.console_names.specs.Behind.{numbers_behind}
use Rattle.console_names.specs.Table.{names, operation_at, row_at, place_of}
use Rattle.console_names.specs.Others.{the_others}
use Rattle.console_show.specs.Spoken.{spoken_on}
use Rattle.console_line.specs.Lines.{line_end, bad}
use Rattle.console_load.specs.declared.Awaited.{Awaited}
use Rattle.console_load.specs.Awaited.{text, as_many, awaited_by, awaited_in}
use Rattle.console_load.specs.Loaded.{load_ended}
use Rattle.console_meaning.specs.Bytes.{Stands, stands_put, blank_page}

same_word : (w n : List ℕ) → same_numbers w n ≡ true → n ≡ w
same_word [] [] h = refl
same_word [] (b ∷ n) h = cc
same_word (a ∷ w) [] h = cc
same_word (a ∷ w) (b ∷ n) h =
    let t = both (eqb a b) (same_numbers w n) h in
    rw (eqb-true a b t.0, same_word w n t.1)

-- A word is the name at its place.
at_place : (w : List ℕ) (ns : List (List ℕ)) → place_among w ns < length ns → get_or ns (place_among w ns) [] ≡ w
unfolding place_among
at_place w [] h = absurd (omega arith)
at_place w (n ∷ ns) h = go (same_numbers w n) refl h (at_place w ns)
  where
    go : (b : Bool) → same_numbers w n ≡ b → pick b 0 (suc (place_among w ns)) < suc (length ns)
        → (place_among w ns < length ns → get_or ns (place_among w ns) [] ≡ w) → get_or (n ∷ ns) (pick b 0 (suc (place_among w ns))) [] ≡ w
    go true e k f = same_word w n e
    go false e k f = f (omega arith)

module _ (domain size : ℕ) where
  two_numbers : (u : Option (List ℕ)) → as_many (Exactly 2) u ≡ Some (text domain size) → u ≡ Some (domain ∷ size ∷ [])
  two_numbers None h = cc
  two_numbers (Some []) h = cc
  two_numbers (Some (a ∷ [])) h = cc
  two_numbers (Some (a ∷ b ∷ [])) h =
      let e : text a b ≡ text domain size = cc in
      ap (λ (t : Awaited). Some (t.domain ∷ t.length ∷ [])) e
  two_numbers (Some (a ∷ b ∷ c ∷ l)) h =
      let e = ne_eqb (suc (suc (suc (length l)))) 2 (λ e. omega arith) in
      let k : None ≡ Some (text domain size) = rw e at h in
      cc

  module _ (line : List ℕ) where
    at_load : awaited_by (row_at (place_of "load")) line (next_word line 0).stop ≡ as_many (Exactly 2) (numbers_behind line (next_word line 0).stop)
    unfolding operation_at place_among
    at_load = refl

    -- `load` and two numbers await a text,
    pub load_awaits : bytes_of line (next_word line 0) ≡ bytes "load" → numbers_behind line (next_word line 0).stop ≡ Some (domain ∷ size ∷ [])
        → awaited_in line ≡ Some (text domain size)
    unfolding awaited_in
    load_awaits w n =
        let from = (next_word line 0).stop in
        ap (λ (b : List ℕ). awaited_by (row_at (place_among b names)) line from) w ∙ at_load ∙ ap (as_many (Exactly 2)) n

    not_else : (place : ℕ) → (place ≡ place_of "load" → ⊥) → awaited_by (row_at place) line (next_word line 0).stop ≡ None
    unfolding place_among
    not_else place h = the_others None ("load" ∷ []) (λ o. awaited_by o.row line (next_word line 0).stop) (λ o. None) refl place (tt, h)

    -- .. and no other line does.
    pub only_load : awaited_in line ≡ Some (text domain size)
        → (bytes_of line (next_word line 0) ≡ bytes "load") × (numbers_behind line (next_word line 0).stop ≡ Some (domain ∷ size ∷ []))
    unfolding awaited_in place_among
    only_load h =
        let place = place_among (bytes_of line (next_word line 0)) names in
        let from = (next_word line 0).stop in
        by_test (eqb place (place_of "load"))
        (λ y. let e = eqb-true place (place_of "load") y in (
          sym (at_place (bytes_of line (next_word line 0)) names (omega arith)) ∙ ap (λ (i : ℕ). get_or names i []) e,
          two_numbers (numbers_behind line from) (sym at_load ∙ ap (λ (i : ℕ). awaited_by (row_at i) line from) (sym e) ∙ h),
        ))
        (λ n. let k = not_else place (eqb-false place (place_of "load") n) in let z : ◌≡◌ {A = ℕ} 0 1 = cc in absurd (omega arith))

-- the line of a status is that of the answer
spoken : (p : Page) (o : Opening) → spoken_on p values.None (status_of (load_answer o)) [] ≡ answer_on p (load_answer o)
unfolding spoken_on status_of
spoken p (refused x) =
    let h = number_within x in
    let b = ne_eqb (number x) last (λ e. omega arith) in
    let z = ne_eqb (number x) 0 (λ e. omega arith) in
    rw (b, z)
spoken p (opens r) = refl

module _ (p : Page) (m : List ℕ) (domain size : ℕ) (text : List ℕ) where
  -- The text has come: the rule's answer is said, and the memory is what the load leaves.
  pub load_said : size ≤ text_room → (load_ended p m domain size text).page ≡ line_end (answer_on p (load_answer (load domain text)))
  unfolding load_ended
  load_said h = rw (le-ltb text_room size h) (ap line_end (spoken p (load domain text)))

  pub load_left_lem : size ≤ text_room → (load_ended p m domain size text).memory ≡ leaves_load m (load domain text)
  unfolding load_ended
  load_left_lem h = rw (le-ltb text_room size h)

  -- A text that is too long is bad, and nothing changes.
  pub long_said : text_room < size → (load_ended p m domain size text).page ≡ bad p
  unfolding load_ended spoken_on
  long_said h = rw (lt-ltb text_room size h)

  pub long_left : text_room < size → (load_ended p m domain size text).memory ≡ m
  unfolding load_ended
  long_left h = rw (lt-ltb text_room size h)

-- The same on an empty page: these bytes and no others are said.
module _ (page m : List ℕ) (domain size : ℕ) (text : List ℕ) (e : length page ≡ room) where
  pub load_bytes : size ≤ text_room → (r : Registry) → load domain text ≡ opens r
      → Stands (load_ended (up_to page 0) m domain size text).page (bytes "ok" ++ (10 ∷ []))
  unfolding numbers_on
  load_bytes h r o =
      let word = stands_put (up_to page 0) [] ok_word (blank_page page e) (omega arith) in
      rw (load_said (up_to page 0) m domain size text h, o) (stands_put (put_on (up_to page 0) ok_word) ok_word (10 ∷ []) word (omega arith))

  pub load_no_bytes : size ≤ text_room → (x : Refusal) → load domain text ≡ refused x
      → Stands (load_ended (up_to page 0) m domain size text).page (bytes "no " ++ decimal_of (number x) ++ (10 ∷ []))
  unfolding numbers_on refusal_on number_on
  load_no_bytes h x o =
      let n = decimal_of (number x) in
      let few : length n ≤ 20 = digits_most_20 (number x) (omega (arith, number_within x)) in
      let word = stands_put (up_to page 0) [] no_word (blank_page page e) (omega arith) in
      let space = stands_put (put_on (up_to page 0) no_word) no_word (32 ∷ []) word (omega arith) in
      let digits = stands_put (put_on (put_on (up_to page 0) no_word) (32 ∷ [])) (bytes "no ") n space (omega arith) in
      rw (load_said (up_to page 0) m domain size text h, o)
      (stands_put (refusal_on (up_to page 0) (number x)) (bytes "no " ++ n) (10 ∷ []) digits (omega (arith, length-append (bytes "no ") n)))

  pub long_bytes : text_room < size → Stands (load_ended (up_to page 0) m domain size text).page (bytes "bad" ++ (10 ∷ []))
  long_bytes h =
      let word = stands_put (up_to page 0) [] bad_word (blank_page page e) (omega arith) in
      rw (long_said (up_to page 0) m domain size text h) (stands_put (put_on (up_to page 0) bad_word) bad_word (10 ∷ []) word (omega arith))
