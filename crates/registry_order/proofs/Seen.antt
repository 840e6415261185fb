-- An id's checks by the place where it is found, and the places where those before it were found.
use Rattle.std.specs.Prelude.{Option, Some, None, Result, Ok, Err, ok_or}
use Prim.Native.Nat.{ℕ, ◌*◌, ◌+◌, ◌/◌, ◌%◌, ◌^◌, ◌<◌}
use native.Mathlib.Omega.{arith}
use native.Mathlib.Numerals.{add-one}
use mathlib.Core.Path.{◌≡◌, refl, sym, ap, ◌∙◌}
use mathlib.Core.Bool.{Bool, false, ◌||◌, or-false}
use mathlib.Core.List.{List, [], ◌∷◌, ◌++◌}
use lib.Bits.{bit_or}
use lib.Dec.{eqb}
use lib.ListN.{length, get_or, take}
use lib.Seq.{take-suc}
use borrow.Author.Tests.{eqb-true, eqb-false, eq-eqb, ne_eqb}
use Rattle.rules.specs.Answers.{verdict}
use Rattle.rules.specs.Orders.{named, id_checks}
use Rattle.rules.specs.Refusals.{Refusal, Unknown, Repeated}
use Rattle.rules_laws.specs.Laws.Members.{any_append}
use Rattle.rules_laws.specs.Laws.Tests.{by_test}
use Rattle.memory.specs.Layout.{places}
use Rattle.memory.specs.View.{life_at, plugin_at, view}
use Rattle.memory.specs.Writes.{find_at}
use Rattle.memory.specs.Known.{at_below, at_place, at_id, at_lookup, none_lookup, not_found}
use Rattle.memory.specs.declared.Life.{Life}
use Rattle.memory_index.specs.Among.{among_or}
use Rattle.memory_places.specs.Bits.{bit_none, one_shl}
use Rattle.memory_providers.specs.Words.{is_among}
use Rattle.registry_order.specs.Checks.{life_checks, passed_at, checked_at, checked_by}

-- 1, 27, then a life's
module _ (m : List ℕ) (seen id : ℕ) where
  pub by_none : (x : Refusal) → ◌≡◌ {A = Result ℕ Refusal} (Err x) (ok_or (find_at m id) Unknown) → Err x ≡ checked_by m seen id
  unfolding checked_by
  by_none x u = let n = not_found m id x u in rw n.0 (ap Err n.1)

  module _ (p : ℕ) (e : find_at m id ≡ Some p) where
    pub by_seen : seen / 2 ^ p % 2 ≡ 1 → Err Repeated ≡ checked_by m seen id
    unfolding checked_by
    by_seen t = rw e (rw (eq-eqb _ _ t))

    pub by_life : (seen / 2 ^ p % 2 ≡ 1 → ⊥) → (l : Life) → l ≡ life_at m (p % places) → (v : Result Unit Refusal) → v ≡ verdict (life_checks l)
        → passed_at p v ≡ checked_by m seen id
    unfolding checked_by
    by_life n l h v j =
        let same : l ≡ life_at m p = h ∙ ap (life_at m) (at_place m id p e) in
        rw e (rw (ne_eqb _ _ n) (ap (passed_at p) (j ∙ ap (λ x. verdict (life_checks x)) same)))

-- what passes was found there
pub passed_found : (m : List ℕ) (seen id p : ℕ) → checked_by m seen id ≡ Ok p → find_at m id ≡ Some p
unfolding checked_by
passed_found m seen id p e = at (find_at m id) e
  where
    clash : {A : Type 0} (x : Refusal) → ◌≡◌ {A = Result ℕ Refusal} (Err x) (Ok p) → A
    clash x g = cc

    life : (q : ℕ) (v : Result Unit Refusal) → passed_at q v ≡ Ok p → Some q ≡ Some p
    life q (Ok x) g = let z : q ≡ p = cc in ap Some z
    life q (Err x) g = clash x g

    at : (x : Option ℕ) → checked_at m seen x ≡ Ok p → x ≡ Some p
    at None g = clash Unknown g
    at (Some q) g = by_test (is_among seen q) (λ t. clash Repeated (rw t at g)) (λ f. life q (verdict (life_checks (life_at m q))) (rw f at g))

-- whether a place is one of those seen
abbrev seen_at : ℕ → Option ℕ → Bool
seen_at seen (Some p) = is_among seen p
seen_at seen None = false

-- Those before are the ids found at a place that is seen.
abbrev pub Seen : (m earlier : List ℕ) → ℕ → Type 0
Seen m earlier seen = (x : ℕ) → named x earlier ≡ seen_at seen (find_at m x)

pub seen_none : (m : List ℕ) → Seen m [] 0
seen_none m x = at (find_at m x)
  where
    at : (p : Option ℕ) → false ≡ seen_at 0 p
    at (Some p) = rw (bit_none p)
    at None = refl

-- without the place
abbrev pub told : Result ℕ Refusal → Result Unit Refusal
told (Ok p) = Ok tt
told (Err x) = Err x

told_passed : (p : ℕ) (v : Result Unit Refusal) → told (passed_at p v) ≡ v
told_passed p (Ok x) = refl
told_passed p (Err x) = refl

module _ (m earlier : List ℕ) (seen id : ℕ) (s : Seen m earlier seen) where
  pub seen_verdict : (r : Result ℕ Refusal) → r ≡ checked_by m seen id → told r ≡ verdict (id_checks (view m) earlier id)
  unfolding checked_by verdict plugin_at
  seen_verdict r e = ap told e ∙ at (find_at m id) refl
    where
      at : (x : Option ℕ) → find_at m id ≡ x → told (checked_at m seen x) ≡ verdict (id_checks (view m) earlier id)
      at None g = rw (s id ∙ ap (seen_at seen) g) (rw (none_lookup m id g))
      at (Some p) g = by_test (is_among seen p)
          (λ t. rw (s id ∙ ap (seen_at seen) g, t))
          (λ f. rw (s id ∙ ap (seen_at seen) g, f) (rw (at_lookup m id p g) (told_passed p _)))

  -- two ids that are found at one place are one
  pub seen_next : (p : ℕ) → find_at m id ≡ Some p → Seen m (earlier ++ id ∷ []) (bit_or seen (2 ^ p))
  seen_next p e x = any_append (eqb x) earlier (id ∷ []) ∙ ap (λ b. named x earlier || b) (or-false (eqb x id)) ∙ at (find_at m x) refl
    where
      same : (q : ℕ) → find_at m x ≡ Some q → eqb x id ≡ eqb q p
      same q g = by_test (eqb q p)
          (λ t. let o : x ≡ id = sym (at_id m x q g) ∙ ap (λ i. (plugin_at m i).id) (eqb-true q p t) ∙ at_id m id p e in
          eq-eqb x id o ∙ sym t)
          (λ f. ne_eqb x id (λ o.
          let j : Some q ≡ Some p = sym g ∙ ap (find_at m) o ∙ e in
          let k : q ≡ p = cc in
          eqb-false q p f k) ∙ sym f)

      other : find_at m x ≡ None → eqb x id ≡ false
      other g = ne_eqb x id (λ o.
          let j : None ≡ Some p = sym g ∙ ap (find_at m) o ∙ e in
          let z : ◌≡◌ {A = ℕ} 0 1 = cc in
          omega arith)

      at : (y : Option ℕ) → find_at m x ≡ y → (named x earlier || eqb x id) ≡ seen_at (bit_or seen (2 ^ p)) (find_at m x)
      at (Some q) g = rw g (ap (λ b. b || eqb x id) (s x ∙ ap (seen_at seen) g) ∙ ap (λ b. is_among seen q || b) (same q g) ∙ sym (among_or seen p q))
      at None g = rw (g, other g) (or-false (named x earlier) ∙ s x ∙ ap (seen_at seen) g)

pub seen_more : (m ids : List ℕ) (i seen : ℕ) → Seen m (take i ids) seen → i < length ids → (p : ℕ) → checked_by m seen (get_or ids i 0) ≡ Ok p
    → (w : ℕ) → w ≡ bit_or seen ((1 * 2 ^ p) % 2 ^ 32) → Seen m (take (i + 1) ids) w
seen_more m ids i seen s h p e w f =
    let g = passed_found m seen (get_or ids i 0) p e in
    let k : w ≡ bit_or seen (2 ^ p) = f ∙ ap (bit_or seen) (one_shl p (at_below m (get_or ids i 0) p g)) in
    rw (k, add-one i, take-suc ids i 0 h) (seen_next m (take i ids) seen (get_or ids i 0) s p g)
