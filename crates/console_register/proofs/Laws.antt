-- A registration from its parts. Assumes nothing.
use Rattle.std.specs.Prelude.{Option, Some, option_map}
use Prim.Native.Nat.{ℕ}
use mathlib.Core.Path.{◌≡◌, ◌∙◌}
use mathlib.Core.List.{List, ◌∷◌}
use lib.ListN.{take}
use Rattle.rules.specs.Holds.{port}
use Rattle.rules.specs.Steps.{Register}
use Rattle.registry_register.specs.Written.{definition}
use Rattle.console_words.specs.Fronts.{Front, front_is}
use Rattle.console_definition.specs.declared.Head.{Head}
use Rattle.console_definition.specs.Definitions.{ThreeLists, given}
use Rattle.console_names.specs.Table.{Told}
use Rattle.console_register.specs.Registrations.{registration}

-- Edition, default and the rows as they were read are the list's front.
pub one_list : (h : Head) (l before rows start list : List ℕ) (n k : ℕ) → Front l n before rows
    → Front (h.edition ∷ h.default ∷ take n rows) k start list → take k list ≡ h.edition ∷ h.default ∷ l
one_list h l before rows start list n k f g =
    front_is (h.edition ∷ h.default ∷ take n rows) k start list g ∙ rw (front_is l n before rows f)

pub all_there : (parent : Option ℕ) (h : Head) (o : Option ThreeLists) (l : ThreeLists) → o ≡ Some l → (realms deps provs : List ℕ)
    → realms ≡ h.edition ∷ h.default ∷ l.realms → deps ≡ l.deps → provs ≡ l.provs
    → registration (option_map (given parent h) o) ≡ Told (Register (definition parent (port h.key h.realm) realms deps provs h.payload))
all_there parent h o l e realms deps provs a b c = rw (e, a, b, c)
