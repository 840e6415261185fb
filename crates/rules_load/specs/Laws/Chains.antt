-- "Without cycles", word by word: no chain of needs among those that run leads from a plugin back to it. The test says exactly that.
use Rattle.std.specs.Prelude.{◌≡◌, true, List}
use Rattle.rules.specs.Holds.{Plugin, running}
use Rattle.rules.specs.Conditions.{needs}
use Rattle.rules_laws.specs.Laws.Members.{In}

-- a depends on a port that b provides, and both are Loading or Active
pub record Need (ps : List Plugin) (a b : Plugin) : Type 0 where
  pub here : In a ps
  pub there : In b ps
  pub runs : running a ≡ true
  pub runs_too : running b ≡ true
  pub needs : needs a b ≡ true

pub data Chain (ps : List Plugin) : Plugin → Plugin → Type 0 where
  link : {a b : Plugin} → Need ps a b → Chain ps a b
  before : {a b c : Plugin} → Need ps a b → Chain ps b c → Chain ps a c
