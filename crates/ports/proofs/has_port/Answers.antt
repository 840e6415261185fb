-- The port is not among those behind the chunks that are left.
use Rattle.std.proofs.Common.{ℕ, ◌+◌, ◌*◌, ◌/◌, ◌%◌, arith, ◌≡◌, refl, sym, ap, ◌∙◌, List, [], ◌∷◌, ◌++◌, length, get_or, take, length-append, length-take-le}
use Rattle.std.proofs.Math.Bool.{false, ◌||◌, or-true, or-false}
use Rattle.std.specs.Slice.Exact.{rchunks_exact_rest}
use Rattle.rules.specs.Holds.{port, is_in, same_port}
use Rattle.rules.specs.Ports.{pairs}
use Rattle.rules_types.specs.declared.Port.{Port}
use Rattle.rules_laws.specs.Laws.Members.{any_append}
use Rattle.ports.specs.Places.{in_hit, in_miss, pairs_whole}
use Rattle.ports.proofs.has_port.Goals as goal
use Rattle.ports.proofs.has_port.Goals.{else-pair-port-via-then-pair-port+else-pair-port-2, else-pair-port-via-else-pair-port}

pairs_front : (a p : List ℕ) → length a % 2 ≡ 0 → pairs (a ++ p) ≡ pairs a ++ pairs p
pairs_front [] p e = refl
pairs_front (k ∷ []) p e = absurd (omega arith)
pairs_front (k ∷ r ∷ a) p e = ap (λ ps. port k r ∷ ps) (pairs_front a p (omega arith))

chunk : (p : List ℕ) → length p ≡ 2 → pairs p ≡ port (get_or p 0 0) (get_or p 1 0) ∷ []
chunk [] e = absurd (omega arith)
chunk (k ∷ []) e = absurd (omega arith)
chunk (k ∷ r ∷ []) e = refl
chunk (k ∷ r ∷ x ∷ p) e = absurd (omega arith)

-- what an even list has is in front of its last chunk, or is that
last_chunk : (q : Port) (l a p : List ℕ) → length l % 2 ≡ 0 → l ≡ a ++ p → length p ≡ 2
    → (length a % 2 ≡ 0) × (is_in q (pairs l) ≡ (is_in q (pairs a) || is_in q (pairs p)))
last_chunk q l a p even e two =
    let s : length l ≡ length a + length p = ap length e ∙ length-append a p in
    let f : length a % 2 ≡ 0 = omega arith in
    (f, ap (λ x. is_in q (pairs x)) e ∙ ap (is_in q) (pairs_front a p f) ∙ any_append (same_port q) (pairs a) (pairs p))

no_front : (a l : List ℕ) → length a ≡ 0 → a ++ l ≡ l
no_front [] l e = refl
no_front (k ∷ a) l e = absurd (omega arith)

-- the chunks are all of a list's pairs
all_chunks : (q : Port) (l a rest : List ℕ) → take (length l / 2 * 2) l ≡ a ++ rest → length a ≡ length (take (length l / 2 * 2) l) % 2
    → (length rest % 2 ≡ 0) × (is_in q (pairs l) ≡ is_in q (pairs rest))
all_chunks q l a rest e f =
    let n = length l / 2 in
    let size : length (take (n * 2) l) ≡ n * 2 = length-take-le (n * 2) l (omega arith) in
    let same : take (n * 2) l ≡ rest = e ∙ no_front a rest (omega arith) in
    let even : length rest % 2 ≡ 0 = omega (arith, ap length same) in
    (even, ap (is_in q) (sym (pairs_whole n l (omega arith)) ∙ ap pairs same))

pub loop-pair-init : goal.loop-pair-init
loop-pair-init c =
    let w = c.rchunks_exact-pair-items.ensures in
    let all = all_chunks c.args.port c.args.ports.now _ _ w.parts w.remainder_len in
    rw c.into_iter-pair-iterator.ensures.into_iter_gives (w.size, all.0, all.1)

pub returns-then-pair-port-2 : goal.returns-then-pair-port-2
returns-then-pair-port-2 c =
    let i = c.loop-pair.invariant in
    let next = c.in-Some.ensures.steps in
    let here = in_hit (chunk c.in-Some.pair.now (next.2.1 ∙ i.0)) c.args.port c.if-pair-port.true c.if-pair-port-2.true in
    let front = is_in c.args.port (pairs (rchunks_exact_rest c.next.new.self)) in
    sym (i.2 ∙ (last_chunk c.args.port _ _ _ i.1 next.2.0 (next.2.1 ∙ i.0)).1 ∙ ap (λ b. front || b) here ∙ or-true front)

pub loop-pair-preserved : goal.loop-pair-preserved
loop-pair-preserved c =
    let i = c.loop-pair.invariant in
    let next = c.in-Some.ensures.steps in
    let last = last_chunk c.args.port _ _ _ i.1 next.2.0 (next.2.1 ∙ i.0) in
    let here : is_in c.args.port (pairs c.in-Some.pair.now) ≡ false = in_miss (chunk c.in-Some.pair.now (next.2.1 ∙ i.0)) c.args.port
    (elim c.else-pair-port.branch [ else-pair-port-via-then-pair-port+else-pair-port-2 w ↦ λ e f. w.if-pair-port-2.false f | else-pair-port-via-else-pair-port w ↦ λ e f. w.if-pair-port.false e ]) in
    let front = is_in c.args.port (pairs (rchunks_exact_rest c.next.new.self)) in
    (next.0 ∙ i.0, last.0, i.2 ∙ last.1 ∙ ap (λ b. front || b) here ∙ or-false front)
