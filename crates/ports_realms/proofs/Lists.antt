-- A realm list by its first two numbers: its edition, its rows, and the checks of both.
use Prim.Native.Nat.{ℕ}
use mathlib.Core.Path.{◌≡◌, sym, ◌∙◌}
use mathlib.Core.Bool.{Bool, true, false}
use mathlib.Core.List.{List}
use mathlib.Core.Logic.{◌≢◌}
use lib.ListN.{get_or, drop}
use borrow.Author.Tests.{eq-eqb, ne_eqb}
use Rattle.rules_types.specs.declared.Edition.TheVariants.{First, Second}
use Rattle.std.specs.Prelude.{Ok, Err}
use Rattle.rules.specs.Refusals.{BadEdition, BadRealms}
use Rattle.rules.specs.Answers.{verdict}
use Rattle.rules.specs.Ports.{realm_list, bad_edition, bad_realms, realm_checks}

module _ (l : List ℕ) where
  -- the edition
  module _ (e : ℕ) (at : e ≡ get_or l 0 0) where
    pub second_edition_lem : e ≡ 2 → (d : ℕ) → d ≡ get_or l 1 0 → Second d ≡ (realm_list l).edition
    unfolding realm_list
    second_edition_lem f d g = rw (eq-eqb (get_or l 0 0) 2 (sym at ∙ f), g)

    pub first_edition_lem : e ≢ 2 → First ≡ (realm_list l).edition
    unfolding realm_list
    first_edition_lem f = rw (ne_eqb (get_or l 0 0) 2 (λ i. f (at ∙ i)))

  -- 26, 4
  module _ (b : Bool) (e : b ≡ bad_edition l) where
    pub list_26 : b ≡ true → Err BadEdition ≡ verdict (realm_checks l)
    unfolding verdict
    list_26 t = rw (sym e ∙ t)

    module _ (t : b ≡ false) (rows : List ℕ) (behind : rows ≡ drop 2 l) (c : Bool) (f : c ≡ bad_realms rows) where
      pub list_4 : c ≡ true → Err BadRealms ≡ verdict (realm_checks l)
      unfolding verdict
      list_4 u = rw (sym e ∙ t, ← behind, sym f ∙ u)

      pub list_passes : c ≡ false → Ok tt ≡ verdict (realm_checks l)
      unfolding verdict
      list_passes u = rw (sym e ∙ t, ← behind, sym f ∙ u)
