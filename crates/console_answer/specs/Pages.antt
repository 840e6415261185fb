-- A page: the text's bytes, and the place up to which they are written. All that is said is put there, byte by byte.
use Rattle.std.specs.Prelude.{ℕ, ◌+◌, List, [], ◌∷◌, ltb, length, replicate}
use Rattle.rules.specs.Basics.{pick}
use Rattle.rules.specs.Outcomes.{written}
use Rattle.text_form.specs.Digits.{decimal_of}
use Rattle.console_answer.specs.declared.Page.{Page}

abbrev pub up_to : List ℕ → ℕ → Page
up_to text place = record { text = text; place = place }

-- How many bytes the longest line of an answer has, and the longest text behind one.
abbrev pub line_room : ℕ
line_room = 2103

abbrev pub text_room : ℕ
text_room = 131072

-- How many bytes a page has.
abbrev pub room : ℕ
room = line_room + text_room

-- Nothing is written yet.
abbrev pub empty_page : Page
empty_page = up_to (replicate room 0) 0

-- Bytes at the page's place, if they fit the room; if they do not, all stays.
unfoldable pub put_on : Page → List ℕ → Page
put_on p l = pick (ltb room (p.place + length l)) p (up_to (written p.text p.place l) (p.place + length l))

-- A number behind a space.
unfoldable pub number_on : Page → ℕ → Page
number_on p n = put_on (put_on p (32 ∷ [])) (decimal_of n)

unfoldable pub numbers_on : Page → List ℕ → Page
numbers_on p [] = p
numbers_on p (n ∷ l) = numbers_on (number_on p n) l
