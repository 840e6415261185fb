-- No key before place i stands again behind itself.
use Rattle.std.proofs.Common.{ℕ, ◌+◌, ◌<◌, ◌≤◌, add-one, ◌≡◌, refl, sym, ap, ◌∙◌, true, false, List, [], ◌∷◌, eqb, eqb-true, eq-eqb, ne_eqb, length, get_or, drop, drop_of_length-le, drop-cons}
use Rattle.std.specs.List.{list_any}
use Rattle.rules.specs.Basics.{any}
use Rattle.std.proofs.lemmas.Bool.{eqb-false}
use Rattle.rules_laws.specs.Laws.Pairs.{part_end}
use Rattle.rules_laws.specs.Laws.Tests.{by_test}
use Rattle.ports_resolved.specs.Keys.{keys_repeat}
use Rattle.ports_resolved.proofs.repeated_key.Goals as goal
use Rattle.ports_resolved.proofs.repeated_key.Goals.{After-contains}

module _ (keys : List ℕ) (i : ℕ) where
  repeat_hit : i < length keys → any (eqb (get_or keys i 0)) (drop (i + 1) keys) ≡ true → keys_repeat (drop i keys) ≡ true
  unfolding keys_repeat
  repeat_hit h t = rw (drop-cons keys i 0 h, rw (add-one i) at t)

  repeat_miss : i < length keys → any (eqb (get_or keys i 0)) (drop (i + 1) keys) ≡ false → keys_repeat (drop i keys) ≡ keys_repeat (drop (i + 1) keys)
  unfolding keys_repeat
  repeat_miss h f = rw (add-one i, drop-cons keys i 0 h, rw (add-one i) at f)

  repeat_end : length keys ≤ i → keys_repeat (drop i keys) ≡ false
  unfolding keys_repeat
  repeat_end h = rw (drop_of_length-le keys h)

-- `contains` tests the other way round
any_alike : (k : ℕ) (l : List ℕ) → list_any (λ y. eqb y k) l ≡ any (eqb k) l
any_alike k [] = refl
any_alike k (y ∷ l) = rw (swap, any_alike k l)
  where
    swap : eqb y k ≡ eqb k y
    swap = by_test (eqb y k)
        (λ t. t ∙ sym (eq-eqb k y (sym (eqb-true y k t))))
        (λ f. f ∙ sym (ne_eqb k y (λ e. eqb-false y k f (sym e))))

-- whether the key stands behind itself
told : (c : After-contains) → c.contains.result ≡ any (eqb (get_or c.args.keys.now c.loop-i.i 0)) (drop (c.loop-i.i + 1) c.args.keys.now)
told c =
    let key = get_or c.args.keys.now c.loop-i.i 0 in
    c.contains.ensures.value ∙ any_alike key _ ∙ ap (any (eqb key)) (part_end c.args.keys.now (c.loop-i.i + 1))

pub returns-then-contains : goal.returns-then-contains
returns-then-contains c =
    let t = told (goal.at.returns-then-contains c).After-contains in
    sym (c.loop-i.invariant ∙ repeat_hit c.args.keys.now c.loop-i.i c.loop-i-test.true (sym t ∙ c.if-contains.true))

pub loop-i-preserved : goal.loop-i-preserved
loop-i-preserved c =
    let t = told (goal.at.loop-i-preserved c).After-contains in
    c.loop-i.invariant ∙ repeat_miss c.args.keys.now c.loop-i.i c.loop-i-test.true (sym t ∙ c.if-contains.false)

pub returns : goal.returns
returns c = sym (c.loop-i.invariant ∙ repeat_end c.args.keys.now c.loop-i.i c.loop-i-test.false)
