-- A line that awaits a text says nothing and changes nothing: its load is answered when the text has come.
use Rattle.std.specs.Prelude.{ℕ, ◌≡◌, refl, Bool, true, false, ◌||◌, List, ltb, length, get_or, take, Option, Some, None}
use Rattle.std.proofs.Common.{ap}
use Rattle.std.proofs.Math.Dec.{eqb}
use Rattle.rules.specs.Basics.{pick}
use Rattle.rules.specs.Slot.{Slot}
use Rattle.console_words.specs.Bytes.{longest}
use Rattle.console_words.specs.Words.{next_word, bytes_of}
use Rattle.console_answer.specs.declared.Page.{Page}
use Rattle.console_names.specs.declared.Count.{Count}
use Rattle.console_names.specs.declared.Kind.{Kind}
use Rattle.console_names.specs.declared.Kind.TheVariants as kind
use Rattle.console_names.specs.declared.Row.{Row}
use Rattle.console_names.specs.declared.Row.TheVariants as row
use Rattle.console_names.specs.Names.{place_among}
use Rattle.console_names.specs.Behind.{numbers_behind}
use Rattle.console_names.specs.Table.{takes, first, second, names, row_at}
use Rattle.console_line.specs.Lines.{bad_line, or_bad}
use Rattle.console_line.specs.Console.{After, keeps_slot, operate_by, answered, hash, line_ended}
use Rattle.console_load.specs.declared.Awaited.{Awaited}
use Rattle.console_load.specs.Awaited.{text, as_many, awaited_from, awaited_by, awaited_in, awaited}

-- a test on the way to what is awaited, and the same test on the way to what a line leaves
picked : {A : Type 0} (b : Bool) (t : Option Awaited) (x y : A) (domain size : ℕ) → pick b t None ≡ Some (text domain size) → pick b x y ≡ x
picked true t x y domain size h = refl
picked false t x y domain size h = cc

passed : {A : Type 0} (b c : Bool) (t : Option Awaited) (x y z : A) (domain size : ℕ) → pick b None (pick c None t) ≡ Some (text domain size)
    → (t ≡ Some (text domain size) → z ≡ x) → pick b x (pick c y z) ≡ x
passed true c t x y z domain size h f = refl
passed false true t x y z domain size h f = cc
passed false false t x y z domain size h f = f h

-- All as it was.
abbrev pub unchanged : Page → List ℕ → List ℕ → Slot → After
unchanged p m buffer s = record { page = p; memory = m; buffer = buffer; slot = s }

module _ (p : Page) (m buffer : List ℕ) (s : Slot) (domain size : ℕ) where
  by_numbers : (place : ℕ) (count : Count) (u : Option (List ℕ)) → as_many count u ≡ Some (text domain size)
      → keeps_slot s (or_bad p m buffer place count kind.Load u) ≡ unchanged p m buffer s
  by_numbers place count None h = cc
  by_numbers place count (Some l) h =
      ap (keeps_slot s)
      (picked (takes count (length l)) (Some (text (first l) (second l))) (record { page = p; memory = m; buffer = buffer }) (bad_line p m buffer) domain size h)

  by_kind : (line : List ℕ) (place from : ℕ) (count : Count) (k : Kind) → awaited_from k count line from ≡ Some (text domain size)
      → keeps_slot s (or_bad p m buffer place count k (numbers_behind line from)) ≡ unchanged p m buffer s
  by_kind line place from count kind.Show h = cc
  by_kind line place from count kind.Buffer h = cc
  by_kind line place from count (kind.Lists held) h = cc
  by_kind line place from count (kind.Registry r v) h = cc
  by_kind line place from count kind.Text h = cc
  by_kind line place from count kind.Load h = by_numbers place count (numbers_behind line from) h
  by_kind line place from count kind.Plan h = cc

  by_row : (line : List ℕ) (place from : ℕ) (r : Row) → awaited_by r line from ≡ Some (text domain size)
      → operate_by r p m buffer s line place from ≡ unchanged p m buffer s
  by_row line place from row.Slot h = cc
  by_row line place from row.Register h = cc
  by_row line place from row.Check h = cc
  by_row line place from (row.Takes count k) h = by_kind line place from count k h
  by_row line place from row.Unknown h = cc

  by_words : (line : List ℕ) → awaited_in line ≡ Some (text domain size) → answered p m buffer s line ≡ unchanged p m buffer s
  unfolding awaited_in answered
  by_words line h =
      let w = next_word line 0 in
      let place = place_among (bytes_of line w) names in
      by_row line place w.stop (row_at place) h

  pub says_nothing : (line : List ℕ) (filled : ℕ) → awaited line filled ≡ Some (text domain size) → line_ended p m buffer s line filled ≡ unchanged p m buffer s
  unfolding awaited line_ended
  says_nothing line filled h =
      passed (eqb filled 0 || eqb (get_or line 0 0) hash) (ltb longest filled) (awaited_in (take filled line)) (unchanged p m buffer s)
      (keeps_slot s (bad_line p m buffer)) (answered p m buffer s (take filled line)) domain size h (by_words (take filled line))
