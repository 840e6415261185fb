-- What the console keeps of a part of its input, byte by byte. Assumes nothing.
use Prim.Native.Nat.{ℕ, ◌+◌, ◌≤◌, ◌<◌}
use mathlib.Core.Path.{◌≡◌}
use mathlib.Core.List.{List}
use native.Mathlib.Numerals.{add-one}
use lib.ListN.{length, get_or, drop, drop_of_length-le}
use lib.Seq.{drop-cons}
use Rattle.replay.specs.Fed.{Kept, byte_fed, fed}

module _ (k : Kept) (part : List ℕ) (i : ℕ) where
  pub fed_next : i < length part → fed k (drop i part) ≡ fed (byte_fed k (get_or part i 0)) (drop (i + 1) part)
  unfolding fed
  fed_next h = rw (add-one i, drop-cons part i 0 h)

  pub fed_end : length part ≤ i → fed k (drop i part) ≡ k
  unfolding fed
  fed_end h = rw (drop_of_length-le part h)
