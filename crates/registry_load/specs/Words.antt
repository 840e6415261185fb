-- What a load leaves of the memory's words: all as it was where it is refused, and else the words of the loaded registry.
use Rattle.std.specs.Prelude.{ℕ, ◌≡◌, List}
use Rattle.rules.specs.Outcomes.{Answer}
use Rattle.rules.specs.Load.{Opening, refused, opens, load_answer}
use Rattle.memory_load.specs.Loading.{words_of}

unfoldable pub leaves_load : List ℕ → Opening → List ℕ
leaves_load m (refused x) = m
leaves_load m (opens r) = words_of r

abbrev pub Opens : List ℕ → Opening → Answer → List ℕ → Type 0
Opens m o a m' = (a ≡ load_answer o) × (m' ≡ leaves_load m o)
