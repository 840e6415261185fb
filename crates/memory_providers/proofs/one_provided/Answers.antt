-- `one_provided` meets its contract: with no bit in the occupancy word no place is taken, and else no place before i offers a claim.
use Rattle.std.specs.Prelude.{None}
use Rattle.std.proofs.Common.{ℕ, zero, suc, ◌+◌, ◌^◌, arith, ◌≡◌, refl, sym, ap, ◌∙◌, Bool, false, List, ltb}
use native.Mathlib.Nat.{zero-div}
use mathlib.Core.Bool.{and-false}
use Rattle.rules.specs.Basics.{is_some}
use Rattle.rules.specs.Holds.{Plugin}
use Rattle.rules.specs.Ports.{pairs}
use Rattle.memory.specs.Lookups.{placed, search_from}
use Rattle.memory.specs.Layout.{occupancy, taken, places}
use Rattle.memory_providers.proofs.Laws.{search_here, search_next, search_end}
use Rattle.memory_providers.proofs.Claims.{offers_claimed, provided_one}
use Rattle.memory_providers.proofs.one_provided.Goals as goal

-- with no place taken, nothing is found
module _ (m : List ℕ) (e : occupancy m ≡ 0) where
  none_taken : (i : ℕ) → taken m i ≡ false
  unfolding taken
  none_taken i = rw (e, zero-div (2 ^ i)) (and-false (ltb i places))

  none_found : (f : Plugin → Bool) (n i : ℕ) → search_from f n m i ≡ None
  unfolding search_from
  none_found f zero i = refl
  none_found f (suc n) i = rw (none_taken i, none_found f n (i + 1))

pub returns-then-occupied-eq0 : goal.returns-then-occupied-eq0
returns-then-occupied-eq0 c =
    let a = c.args in
    let h = none_found a.m.now (sym c.occupied.ensures ∙ c.if-occupied-eq0.true) _ places 0 in
    sym (provided_one a.m.now (pairs a.claims.now) ∙ ap (λ x. is_some (placed a.m.now x)) h)

pub returns-then-offers_one : goal.returns-then-offers_one
returns-then-offers_one c =
    let a = c.args in
    let o = offers_claimed a.m.now c.loop-i.i c.told-m (taken a.m.now c.loop-i.i) (pairs a.claims.now) _ _
    c.key_bits-bits.ensures c.offers_one.ensures in
    let h = c.loop-i.invariant ∙ search_here _ _ _ (omega arith) (sym o ∙ c.if-offers_one.true) in
    sym (provided_one a.m.now (pairs a.claims.now) ∙ ap (λ x. is_some (placed a.m.now x)) h)

pub loop-i-preserved : goal.loop-i-preserved
loop-i-preserved c =
    let a = c.args in
    let o = offers_claimed a.m.now c.loop-i.i c.told-m (taken a.m.now c.loop-i.i) (pairs a.claims.now) _ _
    c.key_bits-bits.ensures c.offers_one.ensures in
    c.loop-i.invariant ∙ search_next _ _ _ (omega arith) (sym o ∙ c.if-offers_one.false)

pub returns : goal.returns
returns c =
    let a = c.args in
    sym (provided_one a.m.now (pairs a.claims.now) ∙ ap (λ x. is_some (placed a.m.now x)) (c.loop-i.invariant ∙ search_end _ _ _ (omega arith)))
