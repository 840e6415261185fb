-- A run of numbers, one at a time. Assumes nothing.
use Rattle.std.specs.Prelude.{Some, None}
use Prim.Native.Nat.{ℕ, suc, ◌+◌, ◌-◌, ◌≤◌, ◌<◌}
use mathlib.Core.Path.{◌≡◌, sym, ap, ◌∙◌}
use mathlib.Core.List.{List, [], ◌∷◌, ◌++◌, append-nil, append_assoc}
use native.Mathlib.Numerals.{add-one}
use native.Mathlib.Omega.{arith}
use lib.ListN.{length, take, drop, set, length-set, take-append-drop}
use lib.Seq.{length-take-le, drop-drop, drop-set-lt, take-suc-set}
use Rattle.text_form.specs.Words.{number_of}
use Rattle.console_words.specs.Words.{next_word, bytes_of}
use Rattle.console_words.specs.declared.Span.{Span}
use Rattle.console_words.specs.Runs.{Numbers, or_stop, run_from, Gathered}

-- Numbers that were read before the rest of a run.
abbrev pub ahead : List ℕ → Numbers → Numbers
ahead l r = record { found = l ++ r.found; stop = r.stop }

module _ (line l : List ℕ) (at count : ℕ) where
  module _ (w : Span) (e : w ≡ next_word line at) (h : count < 2048) where
    step : run_from (2048 - count) line at ≡ or_stop (number_of (bytes_of line w)) w.start (run_from (2048 - (count + 1)) line w.stop)
    unfolding run_from
    step =
        let k : 2048 - count ≡ suc (2048 - (count + 1)) = omega arith in
        rw (k, e)

    pub run_stop : number_of (bytes_of line w) ≡ None → ahead l (run_from (2048 - count) line at) ≡ record { found = l; stop = w.start }
    run_stop d = rw (step, d, append-nil)

    pub run_next : (n : ℕ) → number_of (bytes_of line w) ≡ Some n
        → ahead l (run_from (2048 - count) line at) ≡ ahead (l ++ n ∷ []) (run_from (2048 - (count + 1)) line w.stop)
    run_next n d = rw (step, d, append_assoc)

  pub run_full : 2048 ≤ count → ahead l (run_from (2048 - count) line at) ≡ record { found = l; stop = at }
  unfolding run_from
  run_full h =
      let e : 2048 - count ≡ 0 = omega arith in
      rw (e, append-nil)

module _ (line before out : List ℕ) (from count : ℕ) (few : count ≤ 2048) (room : length out ≡ 2048) (rest : drop count out ≡ drop count before) where
  -- The first numbers of the array are the run.
  pub gathered : (stop : ℕ) → run_from 2048 line from ≡ record { found = take count out; stop = stop }
      → Gathered line from before out (record { count = count; stop = stop })
  gathered stop e =
      let n : length (take count out) ≡ count = length-take-le count out (omega arith) in
      record {
        count = rw (e, n);
        stop = rw e;
        numbers = rw (e, n) (sym (take-append-drop count out) ∙ ap (λ (l : List ℕ). take count out ++ l) rest);
        fits = few;
      }

  -- One more number in the array.
  pub stored : (n : ℕ) → count < 2048 → (length (set out count n) ≡ 2048) × (drop (count + 1) (set out count n) ≡ drop (count + 1) before)
      × (take (count + 1) (set out count n) ≡ take count out ++ n ∷ [])
  stored n h =
      let behind : drop 1 (drop count out) ≡ drop 1 (drop count before) = ap (λ (l : List ℕ). drop 1 l) rest in (
        simp length-set room,
        drop-set-lt (count + 1) out count n (omega arith)
            ∙ (simp drop-drop at behind),
        rw add-one (take-suc-set out count n (omega arith)),
      )
