-- What a port's lookup says of its realm, and a list's answer of the list.
use Prim.Native.Nat.{ℕ, ◌*◌, ◌≤◌, ◌<◌}
use native.Mathlib.Omega.{arith}
use mathlib.Core.Path.{◌≡◌, sym, ap, ◌∙◌}
use mathlib.Core.Bool.{Bool, false, not, ◌&&◌}
use mathlib.Core.List.{List}
use lib.Dec.{eqb, leb}
use lib.ListN.{length, take}
use borrow.Author.Tests.{leb-true, leb-false, eq-eqb}
use Rattle.rules_types.specs.declared.Port.{Port}
use Rattle.rules.specs.Holds.{port}
use Rattle.rules.specs.Ports.{pairs, flat, odd_length, resolve_in, resolve, same_ports}
use Rattle.rules.specs.Conditions.{resolved_in}
use Rattle.rules.specs.Limits.{max_dependencies}
use Rattle.rules_laws.specs.Laws.Tests.{by_test}
use Rattle.rules_laws.specs.Laws.Realms.{resolve_key_law}
use Rattle.ports.specs.Places.{same_not, length_flat, length_even, pairs_flat}
use Rattle.ports_realms.specs.Halving.{reached, reached_with}
use Rattle.ports_resolved.specs.Filled.{listed_words}
use Rattle.ports_inherited.specs.declared.Dependencies.{Dependencies}
use Rattle.ports_inherited.specs.Blocks.{fitted}
use Rattle.ports_inherited.specs.Answers.{fitted_law, fitted_long}

-- a key resolves to a port with that key, so of a port the realm alone says
pub resolved_realm : (other : ℕ) (rows : List ℕ) (key realm : ℕ) {q : Port} → q ≡ resolve_in other (reached (pairs rows)) key
    → eqb q.realm realm ≡ resolved_in (reached_with other rows) (port key realm)
unfolding resolve
resolved_realm other rows key realm e =
    ap (λ (x : Port). eqb x.realm realm) e ∙ sym (rw (eq-eqb _ key (resolve_key_law other (reached (pairs rows)) key)))

-- the answer of the rule's list, and whether it is this one of at most 48 ports
module _ (l list : List Port) {made : Dependencies} (e : made ≡ fitted l) where
  fits : made.count ≤ max_dependencies → length l ≤ max_dependencies
  fits h = by_test (leb (length l) max_dependencies)
      (λ y. leb-true _ _ y)
      (λ n. absurd (omega (arith, ap (λ (d : Dependencies). d.count) e, fitted_long l (leb-false _ _ n))))

  pub too_long : max_dependencies < made.count → length list ≤ max_dependencies → same_ports l list ≡ false
  too_long h k = same_not l list λ s. absurd (omega (
    arith,
    ap length s,
    ap (λ (d : Dependencies). d.count) e,
    (fitted_law l (omega (arith, ap length s))).counted,
  ))

  pub compared : {words : List ℕ} {r : Bool} → made.count ≤ max_dependencies → words ≡ take (made.count * 2) made.ports
      → r ≡ (not (odd_length words) && same_ports (pairs words) list) → r ≡ same_ports l list
  compared h w s =
      let front = w ∙ ap (λ (d : Dependencies). take (d.count * 2) d.ports) e ∙ listed_words (fitted_law l (fits h)) in
      s ∙ rw (front, length_even (flat l) (omega (arith, length_flat l)), pairs_flat l)
