-- Which slots take a decision. Assumes nothing.
use mathlib.Core.Path.{◌≡◌}
use mathlib.Core.Bool.{true, false}
use Rattle.rules.specs.Retirement.{Identity}
use Rattle.rules.specs.Slot.{Slot, Decision, Assigned, is_pending, decided, assign}
use Rattle.slot_child.specs.Slots.{is_of, refused_of}

pub stands : (s : Slot) (v : Decision) → is_pending s.decision ≡ false → refused_of s ≡ decided s true v
stands s v e = rw e

pub akin : (s : Slot) (c : Identity) → is_of c s.domain s.parent ≡ true → decided s true (Assigned c) ≡ assign s c
unfolding assign
akin s c e = rw e
