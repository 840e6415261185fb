-- Ids that rise: what the test says, and that the plugins by rising id are a registry's plugins.
use Rattle.std.specs.Prelude.{ℕ, ◌+◌, ◌≤◌, ◌<◌, ◌≡◌, refl, true, false, List, [], ◌∷◌, eqb, leb, ltb, length, Option, Some, None}
use Rattle.std.proofs.Common.{arith, sym, ap, ◌∙◌, inl, inr, eqb-true, ne_eqb, leb-true, le-leb}
use Rattle.rules.specs.Basics.{any, twice}
use Rattle.rules.specs.Holds.{Plugin, Registry, plugins, lookup, rows_of, sum_rows, rows_in_use}
use Rattle.rules.specs.Text.{insert, by_id}
use Rattle.rules.specs.Conditions.{among, ids_rise}
use Rattle.rules_laws.specs.Laws.Tests.{by_test, both, neither}
use Rattle.rules_laws.specs.Laws.Members.{In, first_in_lem}
use Rattle.rules_laws.specs.Built.{ids_of}
use Rattle.text_laws.specs.Rising.{Rises, by_id_rises, by_id_found, by_id_in, by_id_only, by_id_length, by_id_all}
use Rattle.rules_load.specs.Laws.Claims.{not_among}

-- The test says: the ids rise strictly, within the bounds.
module _ (n : ℕ) where
  pub rises_end : (f : ℕ) (l : List Plugin) → ids_rise f n l ≡ true → f ≤ n
  rises_end f [] e = leb-true f n e
  rises_end f (p ∷ l) e =
      let w = both (leb f p.id) (ids_rise (p.id + 1) n l) e in
      let h = rises_end (p.id + 1) l w.1 in
      let k = leb-true f p.id w.0 in
      omega arith

  pub rises_within : (f : ℕ) (l : List Plugin) → ids_rise f n l ≡ true → (a : Plugin) → In a l → (f ≤ a.id) × (a.id < n)
  rises_within f [] e a h = elim h [ ]
  rises_within f (p ∷ l) e a (inl i) =
      let w = both (leb f p.id) (ids_rise (p.id + 1) n l) e in
      let h = rises_end (p.id + 1) l w.1 in
      let k = leb-true f p.id w.0 in
      let j : p.id ≡ a.id = ap (λ (v : Plugin). v.id) i in
      (omega arith, omega arith)
  rises_within f (p ∷ l) e a (inr m) =
      let w = both (leb f p.id) (ids_rise (p.id + 1) n l) e in
      let h = rises_within (p.id + 1) l w.1 a m in
      let k = leb-true f p.id w.0 in
      (omega arith, h.1)

  pub rises_strictly : (f : ℕ) (l : List Plugin) → ids_rise f n l ≡ true → Rises l
  rises_strictly f [] e = tt
  rises_strictly f (p ∷ l) e =
      let w = both (leb f p.id) (ids_rise (p.id + 1) n l) e in
      (λ q m. let h = (rises_within (p.id + 1) l w.1 q m).0 in omega arith, rises_strictly (p.id + 1) l w.1)

  pub strictly_rises : (f : ℕ) (l : List Plugin) → f ≤ n → Rises l → ((a : Plugin) → In a l → (f ≤ a.id) × (a.id < n)) → ids_rise f n l ≡ true
  strictly_rises f [] b h w = le-leb f n b
  strictly_rises f (p ∷ l) b h w =
      let i = w p (inl refl) in
      rw (le-leb f p.id i.0)
      (strictly_rises (p.id + 1) l (omega arith) h.1 (λ a m. let c = h.0 a m in (omega arith, (w a (inr m)).1)))

-- Where ids rise no id stands twice, and the order is the one by rising id.
pub rises_once : (l : List Plugin) → Rises l → twice (ids_of l) ≡ false
rises_once [] h = refl
rises_once (p ∷ l) h = rw (above p.id l h.0, rises_once l h.1)
  where
    above : (x : ℕ) (l : List Plugin) → ((a : Plugin) → In a l → x < a.id) → any (eqb x) (ids_of l) ≡ false
    above x [] h = refl
    above x (q ∷ l) h = let k = h q (inl refl) in rw (ne_eqb x q.id (λ j. omega arith), above x l (λ a m. h a (inr m)))

pub rises_sorted : (l : List Plugin) → Rises l → by_id l ≡ l
rises_sorted l h = sym (by_id_only l l h (λ x. refl))

-- The rows of all are the rows of each, where no id stands twice.
rows_insert : (p : Plugin) (l : List Plugin) → among l p.id ≡ None → sum_rows (insert p l) ≡ rows_of p + sum_rows l
unfolding insert
rows_insert p [] e = refl
rows_insert p (q ∷ l) e = by_test (eqb q.id p.id)
    (λ y. let i : Some q ≡ None = rw y at e in let z : ◌≡◌ {A = ℕ} 0 1 = cc in absurd (omega arith))
    (λ n. let more = rows_insert p l (rw n at e) in
    by_test (ltb q.id p.id) (λ y. rw y (omega arith)) (λ m. rw (m, n)))

absent : (x : ℕ) (l : List Plugin) → any (eqb x) (ids_of l) ≡ false → among l x ≡ None
absent x l e = go (among l x) refl
  where
    go : (u : Option Plugin) → among l x ≡ u → u ≡ None
    go None i = refl
    go (Some a) i =
        let m = first_in_lem (λ (p : Plugin). eqb p.id x) l a i in
        absurd (not_among x l a e m.0 (sym (eqb-true a.id x m.1)))

rows_sorted : (l : List Plugin) → twice (ids_of l) ≡ false → sum_rows (by_id l) ≡ sum_rows l
unfolding by_id
rows_sorted [] e = refl
rows_sorted (p ∷ l) e =
    let h = neither (any (eqb p.id) (ids_of l)) (twice (ids_of l)) e in
    rows_insert p (by_id l) (by_id_found p.id l ∙ absent p.id l h.0) ∙ ap (λ n. rows_of p + n) (rows_sorted l h.1)

-- Some plugins, in whatever order, that are those of the registry, each once.
pub record Lists (r : Registry) (ps : List Plugin) : Type 0 where
  pub here : (a : Plugin) → In a ps → In a (plugins r)
  pub there : (a : Plugin) → In a (plugins r) → In a ps
  pub finds : (x : ℕ) → among ps x ≡ lookup r x
  pub count : length ps ≡ length (plugins r)
  pub rows : sum_rows ps ≡ rows_in_use r
  pub once : twice (ids_of ps) ≡ false

pub lists_sorted : (r : Registry) → twice (ids_of (plugins r)) ≡ false → Lists r (by_id (plugins r))
unfolding lookup rows_in_use
lists_sorted r e =
    let l = plugins r in
    record {
      here = λ a m. by_id_in a l m;
      there = λ a m. by_id_all l a e m;
      finds = λ x. by_id_found x l;
      count = by_id_length l e;
      rows = rows_sorted l e;
      once = rises_once (by_id l) (by_id_rises l);
    }
