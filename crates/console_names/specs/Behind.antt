-- The numbers behind an operation's name.
use Rattle.std.specs.Prelude.{ℕ, ◌≡◌, refl, Bool, true, false, List, ltb, length, take, Option, Some, None, Result, Ok, Err, MatchResult}
use Rattle.std.proofs.Common.{ap, sym, ◌∙◌}
use Rattle.rules.specs.Basics.{pick}
use Rattle.text_form.specs.Digits.{over}
use Rattle.console_words.specs.Runs.{run_from}
use Rattle.console_words.specs.Fronts.{Front, front_is}

-- The numbers from a place on, if no other word stands behind them.
abbrev pub numbers_behind : List ℕ → ℕ → Option (List ℕ)
numbers_behind line from = pick (ltb (run_from 2048 line from).stop (length line)) None (Some (run_from 2048 line from).found)

-- How many they are, also where another word stands behind them.
abbrev pub counted_behind : List ℕ → ℕ → Result ℕ ℕ
counted_behind line from =
    let count = length (run_from 2048 line from).found in
    pick (ltb (run_from 2048 line from).stop (length line)) (Err count) (Ok count)

-- So many that come first go to the front of an array, in either case.
pub record Numbered (line : List ℕ) (from : ℕ) (before after : List ℕ) (r : Result ℕ ℕ) : Type 0 where
  pub count : r ≡ counted_behind line from
  pub numbers : after ≡ over (run_from 2048 line from).found before
  pub front : MatchResult r (λ n. Front (run_from 2048 line from).found n before after) (λ n. Front (run_from 2048 line from).found n before after)

module _ (line : List ℕ) (from : ℕ) (before after : List ℕ) where
  pub no_numbers : (n : ℕ) → Numbered line from before after (Err n) → numbers_behind line from ≡ None
  no_numbers n h = go (ltb (run_from 2048 line from).stop (length line)) _ h.count
    where
      go : (b : Bool) (k : ℕ) → ◌≡◌ {A = Result ℕ ℕ} (Err n) (pick b (Err k) (Ok k)) → pick b None (Some (run_from 2048 line from).found) ≡ None
      go true k e = refl
      go false k e = cc

  pub all_numbers : (n : ℕ) → Numbered line from before after (Ok n) → numbers_behind line from ≡ Some (take n after)
  all_numbers n h = go (ltb (run_from 2048 line from).stop (length line)) _ h.count ∙ ap Some (sym (front_is _ n before after h.front))
    where
      go : (b : Bool) (k : ℕ) → ◌≡◌ {A = Result ℕ ℕ} (Ok n) (pick b (Err k) (Ok k)) → pick b None (Some (run_from 2048 line from).found) ≡ Some (run_from 2048 line from).found
      go true k e = cc
      go false k e = refl
