-- The ports that are claimed from a place on, and what is known of them once that place is done.
use Rattle.std.specs.Prelude.{ℕ, ◌-◌, ◌≡◌, Bool, true, false, List, length}
use Rattle.rules.specs.Holds.{held, is_in}
use Rattle.rules_types.specs.declared.Port.{Port}
use Rattle.rules.specs.Registration.{repeats}
use Rattle.rules.specs.Conditions.{claims_of}
use Rattle.memory.specs.Layout.{places}
use Rattle.memory.specs.View.{places_from}
use Rattle.registry_claims.specs.Seen.{key_words, seen}

unfoldable pub claims_from : List ℕ → ℕ → List Port
claims_from m i = claims_of (held (places_from (places - i) m i))

-- no two of the ports are alike, and the key of each was seen
pub record Noted (keys : List ℕ) (ports : List Port) : Type 0 where
  pub size : length keys ≡ key_words
  pub apart : repeats ports ≡ false
  pub noted : (q : Port) → is_in q ports ≡ true → seen keys q.key ≡ true

-- what a place's answer says of it and those behind
pub record Differs (m : List ℕ) (i : ℕ) (keys : List ℕ) (answer : Bool) : Type 0 where
  pub differs : answer ≡ true → Noted keys (claims_from m i)
  pub repeated : answer ≡ false → repeats (claims_from m i) ≡ true
