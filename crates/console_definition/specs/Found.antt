-- What is found of a registration's lists, and the arrays afterwards.
use Rattle.std.specs.Prelude.{ℕ, ◌≤◌, ◌≡◌, refl, Bool, true, false, List, [], eqb, length, Option, Some, None, Result, Ok, Err}
use Rattle.std.specs.Result.{IfOk}
use Rattle.std.proofs.Common.{ap}
use Rattle.rules.specs.Basics.{pick}
use Rattle.text_form.specs.Digits.{over}
use Rattle.console_words.specs.Runs.{Numbers}
use Rattle.console_words.specs.Fronts.{Front, fronted}
use Rattle.console_words.specs.declared.Run.{Run}
use Rattle.console_definition.specs.Definitions.{ThreeLists, three, realms_in, deps_in, provs_in, lists_in}
use Rattle.console_definition.specs.declared.Lists.{Lists}

abbrev pub count_of : Numbers → Run
count_of l = record { count = length l.found; stop = l.stop }

abbrev pub numbers_of : Option Numbers → List ℕ
numbers_of None = []
numbers_of (Some l) = l.found

-- A list that is missing has no numbers, and stops where the line of that size does.
abbrev pub counted : ℕ → Option Numbers → Result Run Run
counted size None = Err (record { count = 0; stop = size })
counted size (Some l) = Ok (count_of l)

-- The numbers of a list go to the front of an array, whose rest stays.
pub record Behind (size : ℕ) (l : Option Numbers) (before after : List ℕ) (r : Result Run Run) : Type 0 where
  pub list : r ≡ counted size l
  pub numbers : after ≡ over (numbers_of l) before

pub behind_missing : (size : ℕ) (l : Option Numbers) (before after : List ℕ) (r : Run) → Behind size l before after (Err r) → l ≡ None
behind_missing size l before after r h = go l h.list
  where
    go : (l : Option Numbers) → Err r ≡ counted size l → l ≡ None
    go None e = refl
    go (Some x) e = cc

-- A list that was found.
pub record Listed (l : Option Numbers) (before after : List ℕ) (r : Run) : Type 0 where
  pub numbers : Numbers
  pub is : l ≡ Some numbers
  pub stop : r.stop ≡ numbers.stop
  pub front : Front numbers.found r.count before after

pub behind_listed : (size : ℕ) (l : Option Numbers) (before after : List ℕ) (r : Run) → Behind size l before after (Ok r) → Listed l before after r
behind_listed size l before after r h = go l h.list h.numbers
  where
    go : (l : Option Numbers) → Ok r ≡ counted size l → after ≡ over (numbers_of l) before → Listed l before after r
    go None e d = cc
    go (Some x) e d =
        let k : r ≡ count_of x = cc in
        record {
          numbers = x;
          is = refl;
          stop = ap (λ (y : Run). y.stop) k;
          front = fronted x.found r.count before after (ap (λ (y : Run). y.count) k) d;
        }

abbrev pub counts : (realms deps provs : Option Numbers) → Lists
counts realms deps provs = record {
  realms = length (numbers_of realms);
  deps = length (numbers_of deps);
  provs = length (numbers_of provs);
}

-- The counts of three lists, and whether the lists are the line's.
abbrev pub told : Option ThreeLists → Lists → Result Lists Lists
told None n = Err n
told (Some l) n = Ok n

abbrev pub counted_in : List ℕ → ℕ → Result Lists Lists
counted_in line from = told (lists_in line from) (counts (realms_in line from) (deps_in line from) (provs_in line from))

-- How many numbers each of three lists has, in either case, which fit its array. Those that are there, up to one that is missing, go to the
-- front; of one that is missing there are none.
pub record Three (line : List ℕ) (from : ℕ) (a a' b b' c c' : List ℕ) (r : Result Lists Lists) : Type 0 where
  pub found : r ≡ counted_in line from
  pub realms : a' ≡ over (numbers_of (realms_in line from)) a
  pub deps : b' ≡ over (numbers_of (deps_in line from)) b
  pub provs : c' ≡ over (numbers_of (provs_in line from)) c
  pub fits : IfOk r (λ n. (n.realms ≤ length a') × (n.deps ≤ length b') × (n.provs ≤ length c'))

-- Each of three lists that were found at the front of its array.
pub record Fronts (line : List ℕ) (from : ℕ) (a a' b b' c c' : List ℕ) (r : Lists) : Type 0 where
  pub lists : ThreeLists
  pub is : lists_in line from ≡ Some lists
  pub realms : Front lists.realms r.realms a a'
  pub deps : Front lists.deps r.deps b b'
  pub provs : Front lists.provs r.provs c c'

module _ (line : List ℕ) (from : ℕ) (a a' b b' c c' : List ℕ) where
  pub none_found : (n : Lists) → Three line from a a' b b' c c' (Err n) → lists_in line from ≡ None
  none_found n h = go (lists_in line from) h.found
    where
      go : (l : Option ThreeLists) → Err n ≡ told l (counts (realms_in line from) (deps_in line from) (provs_in line from)) → l ≡ None
      go None e = refl
      go (Some l) e = cc

  pub all_found : (n : Lists) → Three line from a a' b b' c c' (Ok n) → Fronts line from a a' b b' c c' n
  unfolding lists_in
  all_found n h = go (realms_in line from) (deps_in line from) (provs_in line from) refl refl refl h.found h.realms h.deps h.provs
    where
      go : (x y z : Option Numbers) → realms_in line from ≡ x → deps_in line from ≡ y → provs_in line from ≡ z
          → Ok n ≡ told (three (length line) x y z) (counts x y z)
          → a' ≡ over (numbers_of x) a → b' ≡ over (numbers_of y) b → c' ≡ over (numbers_of z) c → Fronts line from a a' b b' c c' n
      go None y z ex ey ez e d f g = cc
      go (Some x) None z ex ey ez e d f g = cc
      go (Some x) (Some y) None ex ey ez e d f g = cc
      go (Some x) (Some y) (Some z) ex ey ez e d f g = ended (eqb z.stop (length line)) refl e
        where
          l : ThreeLists
          l = record { realms = x.found; deps = y.found; provs = z.found }

          all : Lists
          all = counts (Some x) (Some y) (Some z)

          ended : (t : Bool) → eqb z.stop (length line) ≡ t → Ok n ≡ told (pick t (Some l) None) all → Fronts line from a a' b b' c c' n
          ended false i k = cc
          ended true i k =
              let m : n ≡ all = cc in
              record {
                lists = l;
                is = rw (ez, ey, ex, i);
                realms = fronted x.found n.realms a a' (ap (λ (w : Lists). w.realms) m) d;
                deps = fronted y.found n.deps b b' (ap (λ (w : Lists). w.deps) m) f;
                provs = fronted z.found n.provs c c' (ap (λ (w : Lists). w.provs) m) g;
              }
