-- Document 02 [4]: "Read the text back."
use Rattle.std.specs.Prelude.{ℕ, zero, suc, not, List, [], ◌∷◌, map, eqb, Option, Some, None}
use Rattle.rules.specs.Basics.{pick}
use Rattle.rules.specs.Limits.{max_plugins}
use Rattle.rules.specs.Holds.{Plugin, Places, Registry, with_root, Root, Unissued, Queued, Spent}
use Rattle.rules.specs.Refusals.{Refusal, number, BadText, SameDomain}
use Rattle.rules.specs.Outcomes.{Answer, Refused, Accepted}
use Rattle.rules.specs.Text.{Said, read_text}
use Rattle.rules.specs.Conditions.{loadable}

-- "A Queued root loads as Unissued, queued none; everything else loads unchanged,"
abbrev pub unqueued_root : Root → Root
unqueued_root Unissued = Unissued
unqueued_root (Queued v a) = Unissued
unqueued_root Spent = Spent

abbrev pub unqueued : Plugin → Plugin
unqueued p = with_root (unqueued_root p.root) p

-- under the domain that the caller gives
abbrev pub moved_to : ℕ → Said → Said
moved_to d s = record { domain = d; first = s.first; next = s.next; plugins = map unqueued s.plugins }

-- "plugins taking places from the lowest by rising id."
abbrev pub placed : ℕ → List Plugin → Places
placed zero ps = []
placed (suc n) [] = None ∷ placed n []
placed (suc n) (p ∷ ps) = Some p ∷ placed n ps

abbrev pub in_places : Said → Registry
in_places s = record { domain = s.domain; first = s.first; next = s.next; places = placed max_plugins s.plugins }

abbrev pub loaded : ℕ → Said → Registry
loaded d s = in_places (moved_to d s)

-- What a load comes to: a refusal, which changes nothing; or a registry that takes the old one's place, as at an opening.
pub data Opening : Type 0 where
  refused : Refusal → Opening
  opens : Registry → Opening

-- 24, before 25
abbrev pub opening : ℕ → Option Said → Opening
opening d None = refused BadText
opening d (Some s) = pick (not (loadable s)) (refused BadText) (pick (eqb s.domain d) (refused SameDomain) (opens (loaded d s)))

unfoldable pub load : ℕ → (text : List ℕ) → Opening
load d text = opening d (read_text text)

abbrev pub load_answer : Opening → Answer
load_answer (refused x) = Refused (number x) []
load_answer (opens r) = Accepted []

abbrev pub after_load : Registry → Opening → Registry
after_load r (refused x) = r
after_load r (opens q) = q
