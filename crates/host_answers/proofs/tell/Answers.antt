-- What is left to put comes to the whole.
use Rattle.std.proofs.Common.{◌≡◌, ℕ, ◌+◌, ◌<◌, ◌≤◌, refl, sym, ap, ◌∙◌, arith, add-one, List, ◌∷◌, length, get_or, drop, drop-cons, set}
use Rattle.std.proofs.lemmas.List.{at_drop_all}
use Rattle.memory.specs.Writes.{puts}
use Rattle.host_answers.proofs.tell.Goals as goal

one_more : (ns out : List ℕ) (i : ℕ) → i < length ns → puts out 0 (i + 1) (drop i ns) ≡ puts (set out (i + 1) (get_or ns i 0)) 0 (i + 1 + 1) (drop (i + 1) ns)
one_more ns out i h =
    let z : 0 + (i + 1) ≡ i + 1 = omega arith in
    let d : drop i ns ≡ get_or ns i 0 ∷ drop (i + 1) ns = rw (add-one, drop-cons ns i 0) in
    rw d (ap (λ k. puts (set out k (get_or ns i 0)) 0 (i + 1 + 1) (drop (i + 1) ns)) z)

no_more : (ns out : List ℕ) (i : ℕ) → length ns ≤ i → puts out 0 (i + 1) (drop i ns) ≡ out
no_more ns out i h = at_drop_all (puts out 0 (i + 1)) ns i h

pub loop-i-preserved : goal.loop-i-preserved
loop-i-preserved c = sym (one_more _ _ _ c.loop-i-test.true) ∙ c.loop-i.invariant

pub returns : goal.returns
returns c = (refl, sym (no_more _ _ _ c.loop-i-test.false) ∙ c.loop-i.invariant)
