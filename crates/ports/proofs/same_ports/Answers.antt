-- The ports before a row are the same; a number that differs makes two ports differ.
use Rattle.std.proofs.Common.{suc, ◌+◌, ◌*◌, ◌/◌, add-one, arith, ◌≡◌, sym, ap, ◌∙◌, take-suc, length, get_or, take}
use Rattle.rules.specs.Ports.{pairs}
use Rattle.ports.specs.Places.{same_refl, same_not, length_odd, length_even, pairs_same_length, pairs_same, pairs_whole}
use Rattle.ports.proofs.same_ports.Goals as goal

pub returns-then-list-ne0 : goal.returns-then-list-ne0
returns-then-list-ne0 c = sym (rw (length_odd c.args.list.now c.if-list-ne0.true))

pub returns-then-rows-ports : goal.returns-then-rows-ports
returns-then-rows-ports c =
    let l = c.args.list.now in
    let m = c.args.ports.now in
    sym (rw (length_even l c.if-list-ne0.false) (same_not (pairs l) (pairs m) (λ e. omega (arith, pairs_same_length l m e))))

pub returns-then-list-row : goal.returns-then-list-row
returns-then-list-row c =
    let l = c.args.list.now in
    let m = c.args.ports.now in
    sym (rw (length_even l c.if-list-ne0.false)
    (same_not (pairs l) (pairs m) (λ e. c.if-list-row.true (pairs_same l m (c.loop-row.row * 2) e (omega arith)))))

pub returns-then-list-row-2 : goal.returns-then-list-row-2
returns-then-list-row-2 c =
    let l = c.args.list.now in
    let m = c.args.ports.now in
    sym (rw (length_even l c.if-list-ne0.false)
    (same_not (pairs l) (pairs m) (λ e. c.if-list-row-2.true (pairs_same l m (c.loop-row.row * 2 + 1) e (omega arith)))))

pub loop-row-preserved : goal.loop-row-preserved
loop-row-preserved c =
    let l = c.args.list.now in
    let m = c.args.ports.now in
    let n = c.loop-row.row * 2 in
    let two : (c.loop-row.row + 1) * 2 ≡ suc (suc n) = omega arith in
    let key : get_or l n 0 ≡ get_or m n 0 = c.if-list-row.false in
    let realm : get_or l (suc n) 0 ≡ get_or m (suc n) 0 = ap (λ x. get_or l x 0) (sym (add-one n)) ∙ c.if-list-row-2.false ∙ ap (λ x. get_or m x 0) (add-one n) in
    let first : take (suc n) l ≡ take (suc n) m = rw (take-suc l n 0 (omega arith), take-suc m n 0 (omega arith), c.loop-row.invariant, key) in
    rw (two, take-suc l (suc n) 0 (omega arith), take-suc m (suc n) 0 (omega arith), first, realm)

pub returns : goal.returns
returns c =
    let l = c.args.list.now in
    let m = c.args.ports.now in
    let n = length l / 2 in
    let e : c.loop-row.row ≡ n = omega arith in
    let q : pairs l ≡ pairs m = sym (pairs_whole n l (omega arith)) ∙ ap pairs (rw e at c.loop-row.invariant) ∙ pairs_whole n m (omega arith) in
    sym (rw (length_even l c.if-list-ne0.false, q) (same_refl (pairs m)))
