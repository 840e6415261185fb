-- Parent, head and lists as they were read, put together: the line's registration, or none.
use Rattle.std.specs.Prelude.{ℕ, ◌≡◌, List, None, option_map, Ok, Err}
use Rattle.console_definition.specs.declared.Under.{Under}
use Rattle.console_definition.specs.declared.Head.{Head}
use Rattle.console_definition.specs.Definitions.{under_in, head_in, lists_in, given, definition_in}

-- The line from a place on, read part by part: the parent, behind it the head, and behind that the lists.
module _ (line : List ℕ) (from : ℕ) where
  pub no_parent : (stop : ℕ) → Err stop ≡ under_in line from → definition_in line from ≡ None
  unfolding definition_in
  no_parent stop e = rw (← e)

  module _ (u : Under) (eu : Ok u ≡ under_in line from) where
    pub no_head : (h : Head) → Err h ≡ head_in line u.stop → definition_in line from ≡ None
    unfolding definition_in
    no_head h e = rw (← eu, ← e)

    pub parts : (h : Head) → Ok h ≡ head_in line u.stop → definition_in line from ≡ option_map (given u.parent h) (lists_in line h.stop)
    unfolding definition_in
    parts h e = rw (← eu, ← e)
