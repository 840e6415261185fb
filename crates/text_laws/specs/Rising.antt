-- Plugins by rising id: the order is strict, holds just what `lookup` finds, and is the only one that does.
use Rattle.std.specs.Prelude.{ℕ, suc, ◌+◌, ◌≤◌, ◌<◌, ◌≡◌, refl, false, List, [], ◌∷◌, ◌⊎◌, eqb, ltb, length, Option, Some, None}
use Rattle.std.proofs.Common.{arith, sym, ap, ◌∙◌, inl, inr, ⊎_elim, ltb-true, ltb-false, eqb-true, eq-eqb, ne_eqb}
use Rattle.std.proofs.lemmas.Bool.{eqb-false}
use Rattle.rules.specs.Basics.{pick, any, first, sum, twice}
use Rattle.rules.specs.Holds.{Plugin, Registry, plugins, lookup, count}
use Rattle.rules_laws.specs.Built.{Built, ids_of}
use Rattle.rules_laws.specs.Laws.Members.{In, first_in_lem}
use Rattle.rules_laws.specs.Laws.Once.{found_once}
use Rattle.rules_laws.specs.Laws.Tests.{by_test, neither}
use Rattle.rules.specs.Text.{insert, by_id}

-- The first plugin of an id, as `lookup` finds it.
abbrev pub of_id : ℕ → List Plugin → Option Plugin
of_id x l = first (λ (p : Plugin). eqb p.id x) l

-- Every id is above n, and each is below those behind it.
abbrev pub Above : ℕ → List Plugin → Type 0
Above n l = (q : Plugin) → In q l → n < q.id

abbrev pub Rises : List Plugin → Type 0
Rises [] = Unit {0}
Rises (p ∷ l) = Above p.id l × Rises l

-- What is found in a list.
of_first : (x : ℕ) (p : Plugin) (l : List Plugin) → p.id ≡ x → of_id x (p ∷ l) ≡ Some p
of_first x p l e = rw (eq-eqb p.id x e)

of_other : (x : ℕ) (p : Plugin) (l : List Plugin) → (p.id ≡ x → ⊥) → of_id x (p ∷ l) ≡ of_id x l
of_other x p l e = rw (ne_eqb p.id x e)

of_above : (x : ℕ) (l : List Plugin) → Above x l → of_id x l ≡ None
of_above x [] h = refl
of_above x (p ∷ l) h = let a = h p (inl refl) in of_other x p l (λ e. omega arith) ∙ of_above x l (λ q m. h q (inr m))

of_in : (x : ℕ) (l : List Plugin) (p : Plugin) → of_id x l ≡ Some p → In p l × (p.id ≡ x)
of_in x l p e = let r = first_in_lem (λ (q : Plugin). eqb q.id x) l p e in (r.0, eqb-true p.id x r.1)

-- In a rising list each plugin is found by its id.
rising_found : (l : List Plugin) (p : Plugin) → Rises l → In p l → of_id p.id l ≡ Some p
rising_found [] p h x'' = elim x'' [ ]
rising_found (q ∷ l) p h (inl e) = of_first p.id q l (ap (λ (x : Plugin). x.id) e) ∙ ap Some e
rising_found (q ∷ l) p h (inr m) = let a = h.0 p m in of_other p.id q l (λ e. omega arith) ∙ rising_found l p h.1 m

-- Two rising lists that find the same plugins are the same.
pub rising_same : (k l : List Plugin) → Rises k → Rises l → ((x : ℕ) → of_id x k ≡ of_id x l) → k ≡ l
rising_same [] [] hk hl f = refl
rising_same [] (q ∷ l) hk hl f = let e = f q.id ∙ of_first q.id q l refl in let z : ◌≡◌ {A = ℕ} 0 1 = cc in absurd (omega arith)
rising_same (p ∷ k) [] hk hl f = let e = sym (f p.id) ∙ of_first p.id p k refl in let z : ◌≡◌ {A = ℕ} 0 1 = cc in absurd (omega arith)
rising_same (p ∷ k) (q ∷ l) hk hl f = go (rising_same k l hk.1 hl.1)
  where
    pl : In p (q ∷ l)
    pl = (of_in p.id (q ∷ l) p (sym (f p.id) ∙ of_first p.id p k refl)).0

    qk : In q (p ∷ k)
    qk = (of_in q.id (p ∷ k) q (f q.id ∙ of_first q.id q l refl)).0

    least : (a b : Plugin) (m : List Plugin) → Above a.id m → In b (a ∷ m) → a.id ≤ b.id
    least a b m h (inl e) = let i : a.id ≡ b.id = ap (λ (x : Plugin). x.id) e in omega arith
    least a b m h (inr w) = let i = h b w in omega arith

    same_id : p.id ≡ q.id
    same_id = let a = least q p l hl.0 pl in let b = least p q k hk.0 qk in omega arith

    same : p ≡ q
    same = let e = sym (of_first q.id p k same_id) ∙ f q.id ∙ of_first q.id q l refl in cc

    behind : (x : ℕ) → of_id x k ≡ of_id x l
    behind x =
        by_test (eqb p.id x)
        (λ t.
        let i = eqb-true p.id x t in
        of_above x k (λ a m. let b = hk.0 a m in omega arith) ∙ sym (of_above x l (λ a m. let b = hl.0 a m in let j = same_id in omega arith)))
        (λ n.
        let i = eqb-false p.id x n in
        sym (of_other x p k i) ∙ f x ∙ of_other x q l (λ e. i (same_id ∙ e)))

    go : (((x : ℕ) → of_id x k ≡ of_id x l) → k ≡ l) → p ∷ k ≡ q ∷ l
    go more = let e = more behind in let i = same in cc

-- One plugin more.
insert_found : (x : ℕ) (p : Plugin) (l : List Plugin) → of_id x (insert p l) ≡ of_id x (p ∷ l)
unfolding insert
insert_found x p [] = refl
insert_found x p (q ∷ l) =
    let more = insert_found x p l in
    by_test (ltb q.id p.id)
    (λ y.
    let a = ltb-true q.id p.id y in
    rw y (by_test (eqb q.id x)
    (λ t. let i = eqb-true q.id x t in of_first x q (insert p l) i ∙ sym (of_other x p (q ∷ l) (λ e. omega arith) ∙ of_first x q l i))
    (λ n.
    let i = eqb-false q.id x n in
    of_other x q (insert p l) i ∙ more ∙ by_test (eqb p.id x)
    (λ t. let j = eqb-true p.id x t in of_first x p l j ∙ sym (of_first x p (q ∷ l) j))
    (λ m. let j = eqb-false p.id x m in of_other x p l j ∙ sym (of_other x p (q ∷ l) j ∙ of_other x q l i)))))
    (λ n.
    rw n (by_test (eqb q.id p.id)
    (λ t.
    let i = eqb-true q.id p.id t in
    rw t (by_test (eqb p.id x)
    (λ u. let j = eqb-true p.id x u in of_first x p l j ∙ sym (of_first x p (q ∷ l) j))
    (λ m. let j = eqb-false p.id x m in of_other x p l j ∙ sym (of_other x p (q ∷ l) j ∙ of_other x q l (λ e. j (sym i ∙ e))))))
    (λ m. rw m)))

insert_in : (p q : Plugin) (l : List Plugin) → In q (insert p l) → (p ≡ q) ⊎ In q l
unfolding insert
insert_in p q [] m = m
insert_in p q (x ∷ l) m =
    by_test (ltb x.id p.id)
    (λ y. ⊎_elim (λ e. inr (inl e)) (λ w. ⊎_elim inl (λ v. inr (inr v)) (insert_in p q l w)) (the (In q (x ∷ insert p l)) (rw y at m)))
    (λ n.
    by_test (eqb x.id p.id)
    (λ t. ⊎_elim inl (λ w. inr (inr w)) (the (In q (p ∷ l)) (rw t at (the (In q (p ∷ pick (eqb x.id p.id) l (x ∷ l))) (rw n at m)))))
    (λ f. rw f at (the (In q (p ∷ pick (eqb x.id p.id) l (x ∷ l))) (rw n at m))))
  where
    the : (A : Type 0) → A → A
    the A a = a

above_more : (n : ℕ) (p : Plugin) (l : List Plugin) → n < p.id → Above n l → Above n (p ∷ l)
above_more n p l a h q (inl e) = let i : p.id ≡ q.id = ap (λ (x : Plugin). x.id) e in omega arith
above_more n p l a h q (inr m) = h q m

insert_rises : (p : Plugin) (l : List Plugin) → Rises l → Rises (insert p l)
unfolding insert
insert_rises p [] h = (λ q m. absurd m, tt)
insert_rises p (q ∷ l) h =
    let more = insert_rises p l h.1 in
    by_test (ltb q.id p.id)
    (λ y.
    let a = ltb-true q.id p.id y in
    rw y (λ x m. ⊎_elim (λ e. let i : p.id ≡ x.id = ap (λ (z : Plugin). z.id) e in omega arith) (h.0 x) (insert_in p x l m), more))
    (λ n.
    let a = ltb-false q.id p.id n in
    rw n (by_test (eqb q.id p.id)
    (λ t. let i = eqb-true q.id p.id t in rw t (λ x m. let b = h.0 x m in omega arith, h.1))
    (λ f.
    let i = eqb-false q.id p.id f in
    let b : p.id < q.id = omega (arith, i) in
    rw f (above_more p.id q l b (λ x m. let c = h.0 x m in omega arith), h))))

-- By rising id: strictly, and just what is found.
pub by_id_rises : (l : List Plugin) → Rises (by_id l)
unfolding by_id
by_id_rises [] = tt
by_id_rises (p ∷ l) = insert_rises p (by_id l) (by_id_rises l)

pub by_id_found : (x : ℕ) (l : List Plugin) → of_id x (by_id l) ≡ of_id x l
unfolding by_id
by_id_found x [] = refl
by_id_found x (p ∷ l) =
    insert_found x p (by_id l) ∙ by_test (eqb p.id x)
    (λ t. let i = eqb-true p.id x t in of_first x p (by_id l) i ∙ sym (of_first x p l i))
    (λ n. let i = eqb-false p.id x n in of_other x p (by_id l) i ∙ by_id_found x l ∙ sym (of_other x p l i))

pub by_id_in : (p : Plugin) (l : List Plugin) → In p (by_id l) → In p l
by_id_in p l m = (of_in p.id l p (sym (by_id_found p.id l) ∙ rising_found (by_id l) p (by_id_rises l) m)).0

-- It is the only such list.
pub by_id_only : (k l : List Plugin) → Rises k → ((x : ℕ) → of_id x k ≡ of_id x l) → k ≡ by_id l
by_id_only k l h f = rising_same k (by_id l) h (by_id_rises l) (λ x. f x ∙ sym (by_id_found x l))

-- No sum over it is greater.
insert_sum : (f : Plugin → ℕ) (p : Plugin) (l : List Plugin) → sum f (insert p l) ≤ f p + sum f l
unfolding insert
insert_sum f p [] = omega arith
insert_sum f p (q ∷ l) =
    let more = insert_sum f p l in
    by_test (ltb q.id p.id)
    (λ y. rw y (omega arith))
    (λ n. rw n (by_test (eqb q.id p.id) (λ t. rw t (omega arith)) (λ m. rw m (omega arith))))

pub by_id_sum : (f : Plugin → ℕ) (l : List Plugin) → sum f (by_id l) ≤ sum f l
unfolding by_id
by_id_sum f [] = omega arith
by_id_sum f (p ∷ l) = omega (arith, insert_sum f p (by_id l), by_id_sum f l)

-- Where no id stands twice, it holds every plugin.
insert_length : (p : Plugin) (l : List Plugin) → of_id p.id l ≡ None → length (insert p l) ≡ suc (length l)
unfolding insert
insert_length p [] e = refl
insert_length p (q ∷ l) e =
    by_test (eqb q.id p.id)
    (λ t. let i : Some q ≡ None = rw t at e in let z : ◌≡◌ {A = ℕ} 0 1 = cc in absurd (omega arith))
    (λ f.
    let more = insert_length p l (rw f at e) in
    by_test (ltb q.id p.id) (λ y. rw y (ap suc more)) (λ n. rw (n, f)))

absent : (x : ℕ) (l : List Plugin) → any (eqb x) (ids_of l) ≡ false → of_id x l ≡ None
absent x [] e = refl
absent x (p ∷ l) e =
    let h = neither (eqb x p.id) (any (eqb x) (ids_of l)) e in
    of_other x p l (λ i. eqb-false x p.id h.0 (sym i)) ∙ absent x l h.1

pub by_id_length : (l : List Plugin) → twice (ids_of l) ≡ false → length (by_id l) ≡ length l
unfolding by_id
by_id_length [] e = refl
by_id_length (p ∷ l) e =
    let h = neither (any (eqb p.id) (ids_of l)) (twice (ids_of l)) e in
    insert_length p (by_id l) (by_id_found p.id l ∙ absent p.id l h.0) ∙ ap suc (by_id_length l h.1)

pub by_id_all : (l : List Plugin) (p : Plugin) → twice (ids_of l) ≡ false → In p l → In p (by_id l)
by_id_all l p e m = (of_in p.id (by_id l) p (by_id_found p.id l ∙ found_once (λ (q : Plugin). q.id) l p e m)).0

-- On a built registry: every registered plugin once, by strictly rising id, and the count is the registered count.
pub record InOrder (r : Registry) : Type 0 where
  pub rises : Rises (by_id (plugins r))
  pub registered : (p : Plugin) → In p (by_id (plugins r)) → lookup r p.id ≡ Some p
  pub all : (p : Plugin) → In p (plugins r) → In p (by_id (plugins r))
  pub counted : length (by_id (plugins r)) ≡ count r

pub in_order : (r : Registry) → Built r → InOrder r
unfolding count lookup
in_order r b = record {
  rises = by_id_rises (plugins r);
  registered = λ p m. sym (by_id_found p.id (plugins r)) ∙ rising_found (by_id (plugins r)) p (by_id_rises (plugins r)) m;
  all = λ p m. by_id_all (plugins r) p b.once m;
  counted = by_id_length (plugins r) b.once;
}
