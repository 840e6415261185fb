-- What is asked, test by test: of the lists, and of the realm list and the parent.
use Rattle.std.specs.Prelude.{Option, Some, None}
use Prim.Native.Nat.{ℕ, ◌%◌}
use mathlib.Core.Path.{◌≡◌, refl, sym, ap, ◌∙◌}
use mathlib.Core.Bool.{Bool, true, false, and-false}
use mathlib.Core.List.{List, []}
use lib.Dec.{leb}
use lib.ListN.{length, drop}
use Rattle.rules.specs.Basics.{all, is_some, or_none}
use Rattle.rules_types.specs.declared.Port.{Port}
use Rattle.rules.specs.Holds.{Realms, lookup}
use Rattle.rules.specs.Ports.{pairs, bad_realms, realm_list, realms_of}
use Rattle.rules.specs.Registration.{parent_of, inherited_from}
use Rattle.rules.specs.Conditions.{resolved_in}
use Rattle.rules.specs.Limits.{max_dependencies}
use Rattle.rules_laws.specs.Laws.Tests.{by_test}
use Rattle.rules_load.specs.Joining.{ports_fit}
use Rattle.memory.specs.Layout.{dep_part, places}
use Rattle.memory.specs.View.{plugin_at, view}
use Rattle.memory.specs.Writes.{find_at}
use Rattle.memory.specs.Known.{at_place, at_lookup, none_lookup}
use Rattle.ports_realms.specs.Halving.{reached_with, reached_in}
use Rattle.ports_realms.proofs.Reached.{good_table}
use Rattle.ports_realms.specs.Rows.{good_realms}
use Rattle.ports_given.specs.Given.{given_list}
use Rattle.registry_joins.specs.Fits.{lent_fit, lists_fit}

module _ (anchor : Port) (realms parents provisions dependencies : List ℕ) where
  abbrev z : Realms
  z = reached_in realms

  abbrev lists : Bool
  lists = lists_fit z anchor (pairs parents) (pairs provisions) (pairs dependencies)

  -- by the default and the rows that are read of the list
  module _ (absent : ℕ) (d : absent ≡ z.other) (rows : List ℕ) (r : rows ≡ drop 2 realms) where
    table : reached_with absent rows ≡ z
    table = λ i. reached_with (d i) (r i)

    pub lists_unresolved : all (resolved_in (reached_with absent rows)) (pairs provisions) ≡ false → false ≡ lists
    unfolding lists_fit
    lists_unresolved e = let f = ap (λ (x : Realms). all (resolved_in x) (pairs provisions)) (sym table) ∙ e in rw f

    pub lists_given : all (resolved_in (reached_with absent rows)) (pairs provisions) ≡ true → {b : Bool}
        → b ≡ given_list (reached_with absent rows) (pairs provisions) anchor (pairs parents) (pairs dependencies) → b ≡ lists
    unfolding lists_fit
    lists_given e g =
        let f = ap (λ (x : Realms). all (resolved_in x) (pairs provisions)) (sym table) ∙ e in
        g ∙ ap (λ (x : Realms). given_list x (pairs provisions) anchor (pairs parents) (pairs dependencies)) table ∙ rw f

module _ (m : List ℕ) (p : Option ℕ) (anchor : Port) (realms provisions dependencies : List ℕ) where
  abbrev fit : Bool
  fit = lent_fit (view m) p anchor realms provisions dependencies

  pub fit_bad : (rows : List ℕ) → rows ≡ drop 2 realms → bad_realms rows ≡ true → false ≡ fit
  unfolding lent_fit
  fit_bad rows r e = let f : bad_realms (drop 2 realms) ≡ true = ap bad_realms (sym r) ∙ e in rw f

  -- where keys rise, a lookup by halving is the rule's; so with a parent that stands there, or none, the lists say
  module _ (rows : List ℕ) (r : rows ≡ drop 2 realms) (passes : bad_realms rows ≡ false) where
    good : bad_realms (drop 2 realms) ≡ false
    good = ap bad_realms (sym r) ∙ passes

    lists_fit_lem : or_none (λ x. is_some (lookup (view m) x)) p ≡ true → (parents : List ℕ)
        → pairs parents ≡ inherited_from (parent_of (view m) p) → lists anchor realms parents provisions dependencies ≡ fit
    unfolding lent_fit lists_fit ports_fit realm_list
    lists_fit_lem stands parents e =
        ap (λ (x : Realms). lists_fit x anchor (pairs parents) (pairs provisions) (pairs dependencies)) (good_table realms good)
        ∙ ap (λ ps. lists_fit (realms_of realms) anchor ps (pairs provisions) (pairs dependencies)) e
        ∙ rw (good, stands, (good_realms (drop 2 realms) good).2)
        (by_test (leb (length (pairs dependencies)) max_dependencies) (λ y. rw y) (λ n. rw (n, and-false)))

    pub fit_alone : p ≡ None → (parents : List ℕ) → parents ≡ [] → {b : Bool}
        → b ≡ lists anchor realms parents provisions dependencies → b ≡ fit
    fit_alone f parents e g = g ∙ lists_fit_lem (rw f refl) parents (rw (f, e))

    pub fit_orphan : (id : ℕ) → p ≡ Some id → find_at m id ≡ None → false ≡ fit
    unfolding lent_fit ports_fit
    fit_orphan id f e = rw f (rw (none_lookup m id e, and-false))

    pub fit_child : (id : ℕ) → p ≡ Some id → (at : ℕ) → find_at m id ≡ Some at → (parents : List ℕ) → parents ≡ dep_part m (at % places)
        → {b : Bool} → b ≡ lists anchor realms parents provisions dependencies → b ≡ fit
    unfolding plugin_at
    fit_child id f at e parents d g =
        let found = at_lookup m id at e in
        g ∙ lists_fit_lem (rw f (rw found)) parents (rw (f, found, d, at_place m id at e))
