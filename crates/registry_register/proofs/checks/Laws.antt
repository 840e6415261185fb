-- The verdicts, check by check.
use Rattle.std.specs.Prelude.{Option, Some, None, Result, Ok, Err, ok_or}
use Prim.Native.Nat.{ℕ, ◌<◌, ◌≤◌, ◌%◌}
use mathlib.Core.Path.{◌≡◌, refl, sym, ap, ◌∙◌}
use mathlib.Core.Bool.{true, false}
use mathlib.Core.List.{List, [], ◌∷◌, ◌++◌}
use lib.ListN.{length}
use borrow.Author.Tests.{lt-ltb, le-ltb}
use Rattle.rules.specs.Basics.{pick}
use Rattle.rules.specs.Holds.{Registry, is_unloading}
use Rattle.rules.specs.Refusals.{Refusal, Unknown, Retired, InvalidState, TooManyKeys, DuplicateDependency}
use Rattle.rules.specs.Outcomes.{Check, ◌⇒◌}
use Rattle.rules.specs.Ports.{realm_checks, realms_of}
use Rattle.rules.specs.Registration.{Definition, resolved, repeats, parent_checks, key_checks, asked_checks}
use Rattle.rules.specs.Limits.{max_dependency_keys, max_provision_keys}
use Rattle.memory.specs.Layout.{places}
use Rattle.memory.specs.View.{plugin_at, life_at, view}
use Rattle.memory.specs.Writes.{find_at}
use Rattle.memory.specs.Known.{at_place, at_lookup, none_lookup, not_found}
use Rattle.memory.specs.declared.Life.{Life}
use Rattle.ports_resolved.specs.Keys.{keys_repeat}
use Rattle.ports_resolved.specs.Answers.{keys_repeat_in}
use Rattle.rules.specs.Answers.{verdict}
use Rattle.rules_laws.specs.Laws.Verdicts.{verdict_first, verdict_then}
use Rattle.registry_register.specs.Verdicts.{under, place_above}
use Rattle.registry_register.specs.Runs.{under_passed, under_refused}

-- The parent's checks.
module _ (m : List ℕ) (p : Option ℕ) where
  abbrev pub of_parent : Result (Option ℕ) Refusal
  of_parent = under (place_above m p) (verdict (parent_checks (view m) p))

  pub parent_none : p ≡ None → Ok None ≡ of_parent
  unfolding verdict
  parent_none f = rw f refl

  module _ (id : ℕ) (f : p ≡ Some id) where
    pub parent_unknown : (x : Refusal) → ◌≡◌ {A = Result ℕ Refusal} (Err x) (ok_or (find_at m id) Unknown) → Err x ≡ of_parent
    unfolding verdict
    parent_unknown x u = let n = not_found m id x u in rw (n.1, f, none_lookup m id n.0)

    -- by the mark and the phase of a found parent
    module _ (i : ℕ) (e : find_at m id ≡ Some i) (l : Life) (g : l ≡ life_at m (i % places)) where
      known : of_parent ≡ under (Some i) (pick l.retired (Err Retired) (pick (is_unloading l.phase) (Err InvalidState) (Ok tt)))
      unfolding verdict plugin_at
      known =
          let same : l ≡ life_at m i = g ∙ ap (life_at m) (at_place m id i e) in
          rw f (rw (at_lookup m id i e, e) (rw same refl))

      pub parent_retired : l.retired ≡ true → Err Retired ≡ of_parent
      parent_retired t = sym (known ∙ rw t)

      pub parent_stands : l.retired ≡ false → is_unloading l.phase ≡ false → Ok (Some i) ≡ of_parent
      parent_stands t u = sym (known ∙ rw (t, u))

      pub parent_unloading : l.retired ≡ false → is_unloading l.phase ≡ true → Err InvalidState ≡ of_parent
      parent_unloading t u = sym (known ∙ rw (t, u))

-- 26, 4, 5, the parent's, 6
module _ (r : Registry) (d : Definition) (at : Option ℕ) where
  abbrev asks : Result (Option ℕ) Refusal
  asks = under at (verdict (asked_checks r d))

  pub early_list : (x : Refusal) → Err x ≡ verdict (realm_checks d.realms) → Err x ≡ asks
  early_list x z = sym (ap (under at) (verdict_first (realm_checks d.realms) (key_checks r d) x (sym z)))

  module _ (good : Ok tt ≡ verdict (realm_checks d.realms)) where
    behind : verdict (asked_checks r d) ≡ verdict (key_checks r d)
    behind = verdict_then (realm_checks d.realms) (key_checks r d) (sym good)

    many : verdict (key_checks r d) ≡ Err TooManyKeys → Err TooManyKeys ≡ asks
    many u = sym (ap (under at) (behind ∙ u))

    pub early_dependencies : max_dependency_keys < length d.dependencies → Err TooManyKeys ≡ asks
    unfolding verdict
    early_dependencies h = many (rw (lt-ltb max_dependency_keys (length d.dependencies) h))

    module _ (h : length d.dependencies ≤ max_dependency_keys) where
      pub early_provisions : max_provision_keys < length d.provisions → Err TooManyKeys ≡ asks
      unfolding verdict
      early_provisions k =
          many (rw (le-ltb max_dependency_keys (length d.dependencies) h, lt-ltb max_provision_keys (length d.provisions) k))

      module _ (k : length d.provisions ≤ max_provision_keys) where
        abbrev last_of : List Check
        last_of = (repeats (resolved d d.dependencies) ⇒ DuplicateDependency) ∷ []

        few : verdict (key_checks r d) ≡ verdict (parent_checks r d.parent ++ last_of)
        unfolding verdict
        few = rw (le-ltb max_dependency_keys (length d.dependencies) h, le-ltb max_provision_keys (length d.provisions) k)

        rest : verdict (asked_checks r d) ≡ verdict (parent_checks r d.parent ++ last_of)
        rest = behind ∙ few

        pub early_parent : (x : Refusal) → Err x ≡ under at (verdict (parent_checks r d.parent)) → Err x ≡ asks
        early_parent x z =
            let v = verdict_first (parent_checks r d.parent) last_of x (under_refused at _ x (sym z)) in
            sym (ap (under at) (rest ∙ v))

        module _ (q : Option ℕ) (z : Ok q ≡ under at (verdict (parent_checks r d.parent))) where
          passed : verdict (parent_checks r d.parent) ≡ Ok tt
          passed = (under_passed at _ q (sym z)).0

          last_check : verdict (asked_checks r d) ≡ pick (keys_repeat d.dependencies) (Err DuplicateDependency) (Ok tt)
          unfolding verdict
          last_check = rest ∙ verdict_then (parent_checks r d.parent) last_of passed ∙ rw (keys_repeat_in (realms_of d.realms) d.dependencies)

          pub early_repeated : keys_repeat d.dependencies ≡ true → Err DuplicateDependency ≡ asks
          early_repeated t =
              let v : verdict (asked_checks r d) ≡ Err DuplicateDependency = last_check ∙ rw t in
              sym (ap (under at) v)

          pub early_pass : keys_repeat d.dependencies ≡ false → Ok q ≡ asks
          early_pass t =
              let v : verdict (asked_checks r d) ≡ Ok tt = last_check ∙ rw t in
              z ∙ ap (under at) (passed ∙ sym v)
