-- Rows in use after a store, an addition and a removal.
use Rattle.std.specs.Prelude.{ℕ, ◌+◌, ◌<◌, ◌≡◌, refl, false, List, [], ◌∷◌, map, eqb, length, Some, None}
use Rattle.std.proofs.Common.{arith, ap, ◌∙◌, inl, inr, eqb-true}
use Rattle.rules.specs.Basics.{sum, twice}
use Rattle.rules.specs.Holds.{Plugin, Places, held, rows_of, sum_rows}
use Rattle.rules.specs.Outcomes.{stored_at, freed_at, at_lowest_free}
use Rattle.rules_laws.specs.Laws.Tests.{by_test}
use Rattle.rules_laws.specs.Laws.Lookups.{find}
use Rattle.rules_laws.specs.Laws.Members.{In}
use Rattle.rules_laws.specs.Laws.Once.{sum_without}
use Rattle.rules_laws.specs.Built.{ids_of}
use Rattle.rules_laws.specs.Kept.Places.{held_freed}

pub rows_stored : (ps : Places) (q : Plugin) → ((s : Plugin) → In s (held ps) → s.id ≡ q.id → rows_of q ≡ rows_of s)
    → sum_rows (held (map (stored_at q) ps)) ≡ sum_rows (held ps)
rows_stored [] q f = refl
rows_stored (None ∷ ps) q f = rows_stored ps q f
rows_stored (Some s ∷ ps) q f =
    let e = rows_stored ps q (λ a m. f a (inr m)) in
    by_test (eqb s.id q.id)
    (λ y. let h = f s (inl refl) (eqb-true s.id q.id y) in rw y (omega arith))
    (λ n. rw n (omega arith))

pub sum_rows_lem : (l : List Plugin) → sum_rows l ≡ sum rows_of l
sum_rows_lem [] = refl
sum_rows_lem (p ∷ l) = ap (λ n. rows_of p + n) (sum_rows_lem l)

-- a removed plugin's rows are given back, no more and no less
pub rows_freed : (ps : Places) (id : ℕ) (p : Plugin) → twice (ids_of (held ps)) ≡ false → find id ps ≡ Some p
    → sum_rows (held (map (freed_at id) ps)) + rows_of p ≡ sum_rows (held ps)
rows_freed ps id p h e =
    let a = sum_rows_lem (held (map (freed_at id) ps)) ∙ ap (sum rows_of) (held_freed ps id) in
    let b = sum_without (λ (p : Plugin). p.id) rows_of id (held ps) p h e in
    let c = sum_rows_lem (held ps) in
    omega arith

-- there is a free place where fewer plugins are held than there are places
pub rows_added : (ps : Places) (q : Plugin) → length (held ps) < length ps → sum_rows (held (at_lowest_free q ps)) ≡ sum_rows (held ps) + rows_of q
rows_added [] q l = let z : ◌≡◌ {A = ℕ} 0 1 = omega arith in omega arith
rows_added (None ∷ ps) q l = omega arith
rows_added (Some s ∷ ps) q l = let e = rows_added ps q (omega arith) in omega arith
