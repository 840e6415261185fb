-- The bytes on a page: what is put there stands behind what stood there, as long as it fits.
use Rattle.std.specs.Prelude.{ℕ, ◌+◌, min, ◌≤◌, ◌<◌, ◌≡◌, refl, take, drop}
use Rattle.std.proofs.Common.{arith, sym, ◌∙◌, length-drop}
use mathlib.Core.List.{List, [], ◌∷◌, ◌++◌}
use Rattle.std.proofs.Math.ListN.{length, length-append}
use Rattle.std.proofs.Math.Seq.{take-append_seam}
use borrow.Author.Tests.{le-ltb}
use Rattle.rules.specs.Text.{text_of}
use Rattle.text_form.specs.Bytes.{bytes}
use Rattle.text_form.specs.Digits.{digits_in, decimal_of}
use Rattle.text_form.specs.Numbers.{digits_most_20}
use Rattle.memory.specs.View.{view}
use Rattle.console_answer.specs.Pages.{up_to, text_room, room, put_on, number_on}
use Rattle.console_answer.specs.declared.Page.{Page}
use Rattle.console_answer.specs.Answers.{ok_word, no_word, refusal_on}
use Rattle.console_line.specs.Lines.{line_end, text_on, lent_bytes}
use Rattle.console_meaning.specs.Written.{write_said, write_short}

-- These bytes stand on a page, from its first up to its place.
pub record Stands (p : Page) (l : List ℕ) : Type 0 where
  pub place : p.place ≡ length l
  pub whole : length p.text ≡ room
  pub front : take (length l) p.text ≡ l

module _ (p : Page) (a l : List ℕ) (s : Stands p a) (h : length a + length l ≤ room) where
  put_is : put_on p l ≡ up_to ((a ++ l) ++ drop (length a + length l) p.text) (length a + length l)
  unfolding put_on
  put_is = rw (s.place, le-ltb room (length a + length l) h, s.front)

  pub stands_put : Stands (put_on p l) (a ++ l)
  stands_put =
      let n = length a + length l in
      let rest = drop n p.text in
      rw put_is (record {
        place = sym (length-append a l);
        whole = length-append (a ++ l) rest ∙ omega (arith, length-append a l, length-drop n p.text, s.whole);
        front = take-append_seam (a ++ l) rest;
      })

pub blank_page : (text : List ℕ) → length text ≡ room → Stands (up_to text 0) []
blank_page text e = record { place = refl; whole = e; front = refl }

-- write SIZE on an empty page: these bytes and no others are said.
module _ (text m : List ℕ) (size : ℕ) (e : length text ≡ room) where
  pub write_bytes : length (text_of (view m)) ≤ min size text_room
      → Stands (text_on (up_to text 0) m (lent_bytes size)) (bytes "ok " ++ decimal_of (length (text_of (view m))) ++ (10 ∷ []) ++ text_of (view m))
  unfolding number_on
  write_bytes h =
      let t = text_of (view m) in
      let n = decimal_of (length t) in
      let few : length n ≤ 20 = digits_most_20 (length t) (omega arith) in
      let word = stands_put (up_to text 0) [] ok_word (blank_page text e) (omega arith) in
      let space = stands_put (put_on (up_to text 0) ok_word) ok_word (32 ∷ []) word (omega arith) in
      let number = stands_put (put_on (put_on (up_to text 0) ok_word) (32 ∷ [])) (bytes "ok ") n space (omega arith) in
      let line = stands_put (number_on (put_on (up_to text 0) ok_word) (length t)) (bytes "ok " ++ n) (10 ∷ []) number
      (omega (arith, length-append (bytes "ok ") n)) in
      rw (write_said (up_to text 0) m size h)
      (stands_put (line_end (number_on (put_on (up_to text 0) ok_word) (length t))) (bytes "ok " ++ n ++ (10 ∷ [])) t line
      (omega (arith, length-append (bytes "ok ") n, length-append (bytes "ok " ++ n) (10 ∷ []))))

  pub write_no_bytes : min size text_room < length (text_of (view m)) → Stands (text_on (up_to text 0) m (lent_bytes size)) (bytes "no 23" ++ (10 ∷ []))
  unfolding number_on refusal_on decimal_of digits_in
  write_no_bytes h =
      let word = stands_put (up_to text 0) [] no_word (blank_page text e) (omega arith) in
      let space = stands_put (put_on (up_to text 0) no_word) no_word (32 ∷ []) word (omega arith) in
      let number = stands_put (put_on (put_on (up_to text 0) no_word) (32 ∷ [])) (bytes "no ") (decimal_of 23) space (omega arith) in
      rw (write_short (up_to text 0) m size h) (stands_put (refusal_on (up_to text 0) 23) (bytes "no 23") (10 ∷ []) number (omega arith))
