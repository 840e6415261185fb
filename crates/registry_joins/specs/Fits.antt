-- What a text's plugin is asked of its ports, by lists as they are lent.
use Rattle.std.specs.Prelude.{ℕ, ◌≤◌, ◌≡◌, Bool, false, not, ◌&&◌, List, leb, length, Option}
use Rattle.std.proofs.Math.Bool.{and-false}
use Rattle.std.proofs.Common.{le-leb, le-ltb}
use Rattle.rules.specs.Basics.{all}
use Rattle.rules_types.specs.declared.Port.{Port}
use Rattle.rules.specs.Holds.{Realms, Registry}
use Rattle.rules.specs.Ports.{pairs, odd_length, rising, bad_realms, rows_in, realm_list, realms_of}
use Rattle.rules.specs.Conditions.{resolved_in}
use Rattle.rules.specs.Limits.{max_realm_rows, max_dependencies}
use Rattle.rules_laws.specs.Laws.Tests.{by_test}
use Rattle.rules_load.specs.Joining.{ports_fit}
use Rattle.ports_given.specs.Given.{given_list}

-- The realm rows pass row 4 and there are at most 48 dependencies; and the ports fit.
unfoldable pub lent_fit : Registry → Option ℕ → Port → (realms provisions dependencies : List ℕ) → Bool
lent_fit r parent anchor realms provisions dependencies =
    not (bad_realms (rows_in realms))
    && leb (length (pairs dependencies)) max_dependencies
    && ports_fit r parent (realms_of realms) anchor (pairs provisions) (pairs dependencies)

-- what is asked of the lists alone, with a parent's list
unfoldable pub lists_fit : Realms → Port → (parents provisions dependencies : List Port) → Bool
lists_fit z anchor parents provisions dependencies = all (resolved_in z) provisions && given_list z provisions anchor parents dependencies

-- Of lists within the limits, whether the ports fit is all that is asked.
pub lent_fit_lem : (r : Registry) (parent : Option ℕ) (anchor : Port) (realms provisions dependencies : List ℕ)
    → odd_length (rows_in realms) ≡ false → length (pairs (rows_in realms)) ≤ max_realm_rows → length (pairs dependencies) ≤ max_dependencies
    → lent_fit r parent anchor realms provisions dependencies ≡ ports_fit r parent (realms_of realms) anchor (pairs provisions) (pairs dependencies)
unfolding lent_fit ports_fit bad_realms realm_list
lent_fit_lem r parent anchor realms provisions dependencies even few short =
    rw (even, le-ltb max_realm_rows (length (pairs (rows_in realms))) few, le-leb (length (pairs dependencies)) max_dependencies short)
    (by_test (rising (pairs (rows_in realms)))
    (λ y. rw y)
    (λ n. rw (n, and-false)))
