-- `has_children` meets its contract: what is left to look at has a child where all places have one.
use Rattle.std.proofs.Common.{◌≡◌, ◌-◌}
use Rattle.rules.specs.Basics.{any}
use Rattle.rules.specs.Holds.{plugins}
use Rattle.rules.specs.Retirement.{is_child_of}
use Rattle.memory.specs.View.{view}
use Rattle.memory.specs.Layout.{places}
use Rattle.memory_places.specs.Any.{any_from}
use Rattle.registry_remove.proofs.has_children.Given as goal

abbrev pub invariant-loop-i : goal.invariant-loop-i
invariant-loop-i l = any (is_child_of l.id) (plugins (view l.m)) ≡ any_from (is_child_of l.id) (places - l.i) l.m l.i
