-- A place's rows are its plugin's claims, and row by row from the last to the first they go in front of those behind.
use Prim.Native.Nat.{ℕ, ◌+◌, ◌-◌, ◌*◌, ◌/◌, ◌%◌, ◌<◌, ◌≤◌}
use native.Mathlib.Nat.{mod-eq_of_lt}
use native.Mathlib.Omega.{arith}
use mathlib.Core.Path.{◌≡◌, sym, ap, ◌∙◌, subst}
use mathlib.Core.Bool.{Bool, true, false, ◌&&◌, true≢false}
use mathlib.Core.List.{List, ◌∷◌, ◌++◌, append_assoc}
use lib.ListN.{length, get_or, take, drop, take-append-drop}
use Rattle.rules_types.specs.declared.Port.{Port}
use Rattle.rules.specs.Holds.{port, is_in}
use Rattle.rules.specs.Ports.{pairs}
use Rattle.rules.specs.Registration.{repeats}
use Rattle.ports.specs.Places.{pairs_at, pairs_end, pairs_drop, part_end}
use Rattle.memory.specs.Layout.{taken, memory_words, places}
use Rattle.memory_providers.specs.Providers.{offered_part, offered_claims}
use Rattle.registry_claims.specs.Seen.{seen, see}
use Rattle.registry_claims.specs.Behind.{claims_from, Noted, Differs}
use Rattle.registry_claims.proofs.Behind.{claims_taken, claims_free, repeats_behind}
use Rattle.registry_claims.proofs.Noted.{noted_next, repeats_now}

yes_differs : (m : List ℕ) (i : ℕ) (keys : List ℕ) → Noted keys (claims_from m i) → Differs m i keys true
yes_differs m i keys n = record { differs = λ y. n; repeated = λ f. absurd (true≢false f) }

-- the rows of a taken place, in front of the claims behind
module _ (m : List ℕ) (i : ℕ) (h : i < places) (t : taken m i ≡ true) (size : length m ≡ memory_words)
    (ws : List ℕ) (e : ws ≡ offered_part m (i % places)) where
  pub whole : pairs ws ++ claims_from m (i + 1) ≡ claims_from m i
  whole =
      let n : i % places ≡ i = mod-eq_of_lt h in
      ap (λ l. pairs l ++ claims_from m (i + 1)) (e ∙ ap (offered_part m) n)
      ∙ ap (λ l. l ++ claims_from m (i + 1)) (offered_claims m i size) ∙ sym (claims_taken m i h t)

  pub rows_done : (keys : List ℕ) (row : ℕ) → row ≤ 0 → Noted keys (pairs (drop (row * 2) ws) ++ claims_from m (i + 1)) → Differs m i keys true
  rows_done keys row z n = let s : row ≡ 0 = omega arith in yes_differs m i keys (subst (Noted keys) whole (rw s at n))

  pub rows_repeat : (keys : List ℕ) (n : ℕ) → repeats (pairs (drop (n * 2) ws) ++ claims_from m (i + 1)) ≡ true → Differs m i keys false
  rows_repeat keys n y = record {
    differs = λ f. absurd (true≢false (sym f));
    repeated = λ u. ap repeats (sym whole) ∙ further n (pairs ws) (rw (← pairs_drop n ws) at y);
  }
    where
      further : (n : ℕ) (l : List Port) → repeats (drop n l ++ claims_from m (i + 1)) ≡ true → repeats (l ++ claims_from m (i + 1)) ≡ true
      further n l y =
          ap (λ k. repeats (k ++ claims_from m (i + 1))) (sym (take-append-drop n l))
          ∙ ap repeats (append_assoc (take n l) (drop n l) (claims_from m (i + 1)))
          ∙ repeats_behind (take n l) (drop n l ++ claims_from m (i + 1)) y

-- a free place claims nothing
pub free_differs : (m : List ℕ) (i : ℕ) → i < places → taken m i ≡ false → (keys : List ℕ) → Noted keys (claims_from m (i + 1)) → Differs m i keys true
free_differs m i h f keys n = yes_differs m i keys (subst (Noted keys) (sym (claims_free m i h f)) n)

-- behind the last row stand the claims behind alone
pub rows_begin : (ws keys : List ℕ) (qs : List Port) → Noted keys qs → Noted keys (pairs (drop (length ws / 2 * 2) ws) ++ qs)
rows_begin ws keys qs n = rw (pairs_end ws (length ws / 2 * 2) (omega arith)) n

-- one row more
module _ (ws : List ℕ) (row : ℕ) (h : 0 < row) (fits : row * 2 ≤ length ws) (qs : List Port) where
  abbrev rest : List ℕ
  rest = take (length ws - ((row - 1) * 2 + 2)) (drop ((row - 1) * 2 + 2) ws)

  abbrev here : Port
  here = port (get_or ws ((row - 1) * 2) 0) (get_or ws ((row - 1) * 2 + 1) 0)

  rest_is : pairs rest ≡ pairs (drop (row * 2) ws)
  rest_is =
      let e : (row - 1) * 2 + 2 ≡ row * 2 = omega arith in
      ap pairs (part_end ws ((row - 1) * 2 + 2) ∙ ap (λ n. drop n ws) e)

  front : pairs (drop ((row - 1) * 2) ws) ++ qs ≡ here ∷ (pairs (drop (row * 2) ws) ++ qs)
  front =
      let e : (row - 1) * 2 + 2 ≡ row * 2 = omega arith in
      ap (λ l. l ++ qs) (pairs_at ws ((row - 1) * 2) (omega arith) ∙ ap (λ n. here ∷ pairs (drop n ws)) e)

  module _ (keys : List ℕ) (n : Noted keys (pairs (drop (row * 2) ws) ++ qs)) (b : Bool) (e : b ≡ (seen keys here.key && is_in here (pairs rest ++ qs))) where
    answer : (seen keys here.key && is_in here (pairs (drop (row * 2) ws) ++ qs)) ≡ b
    answer = ap (λ l. seen keys here.key && is_in here (l ++ qs)) (sym rest_is) ∙ sym e

    pub row_next : b ≡ false → (next : List ℕ) → next ≡ see keys here.key → Noted next (pairs (drop ((row - 1) * 2) ws) ++ qs)
    row_next f next g = rw (front, g) (noted_next keys _ n here (answer ∙ f))

    pub row_repeats : b ≡ true → repeats (pairs (drop ((row - 1) * 2) ws) ++ qs) ≡ true
    row_repeats t = rw front (repeats_now keys _ n here (answer ∙ t))
