-- Where keys rise, the search by halving is the rule's lookup; on any list it is the rule's lookup in the rows that it reaches.
use Rattle.std.specs.Prelude.{ℕ, zero, suc, ◌+◌, ◌-◌, ◌/◌, ◌≤◌, ◌<◌, ◌≡◌, refl, Bool, true, false, List, [], ◌∷◌, eqb, leb, ltb, length, get_or, take, drop}
use Rattle.std.proofs.Common.{arith, sym, ap, ◌∙◌, subst, true≢false, inl, length-take, length-drop, get_or-take, get_or-drop, ltb-true, ltb-false, leb-true, leb-false, eqb-true, ne_eqb}
use Rattle.std.proofs.lemmas.Bool.{eqb-false}
use Rattle.rules_types.specs.declared.Port.{Port}
use Rattle.rules.specs.Holds.{port, same_port, is_in}
use Rattle.rules.specs.Ports.{pairs, rising, bad_realms, resolve_in, rows_in, realm_list, realms_of}
use Rattle.rules_laws.specs.Laws.Tests.{by_test}
use Rattle.rules_laws.specs.Laws.Members.{In, same_port_lem, same_self, is_in_lem}
use Rattle.rules_laws.specs.Laws.Realms.{rising_at, rising_drop, rising_take}
use Rattle.ports_realms.specs.Rows.{good_realms}
use Rattle.ports_realms.specs.Halving.{Search, turned, gone_on, ended, begun, halved, by_halving, passing, reached, reached_in}
use Rattle.ports_realms.proofs.Turns.{nearer_length}

-- what is left is one row of the list, or none
halved_short : (n k : ℕ) (s : Search) → length s.rows ≤ n → length (gone_on n k s).rows ≤ 1
unfolding gone_on
halved_short zero k s h = omega arith
halved_short (suc n) k s h =
    let less = nearer_length k s.rows in
    by_test (ltb 1 (length s.rows))
    (λ t. let l = ltb-true 1 (length s.rows) t in rw t (halved_short n k (turned k s) (omega arith)))
    (λ f. rw f (ltb-false 1 (length s.rows) f))

in_at : (l : List Port) (i : ℕ) → i < length l → is_in (get_or l i (port 0 0)) l ≡ true
in_at [] i h = absurd (omega arith)
in_at (p ∷ l) zero h = rw (same_self p)
in_at (p ∷ l) (suc i) h =
    let r = in_at l i (omega arith) in
    by_test (same_port (get_or l i (port 0 0)) p) (λ t. rw t) (λ f. rw f r)

in_drop : (q : Port) (n : ℕ) (l : List Port) → is_in q (drop n l) ≡ true → is_in q l ≡ true
in_drop q zero l e = e
in_drop q (suc n) [] e = e
in_drop q (suc n) (p ∷ l) e = let r = in_drop q n l e in by_test (same_port q p) (λ t. rw t) (λ f. rw f r)

in_take : (q : Port) (n : ℕ) (l : List Port) → is_in q (take n l) ≡ true → is_in q l ≡ true
in_take q zero l e = absurd (true≢false (sym e))
in_take q (suc n) [] e = e
in_take q (suc n) (p ∷ l) e = by_test (same_port q p) (λ t. rw t) (λ f. rw f (in_take q n l (rw f at e)))

halved_within : (n k : ℕ) (q : Port) (s : Search) → is_in q (gone_on n k s).rows ≡ true → is_in q s.rows ≡ true
unfolding gone_on
halved_within zero k q s e = e
halved_within (suc n) k q s e =
    let rows = s.rows in
    let half = length rows / 2 in
    by_test (ltb 1 (length rows))
    (λ t. let i = halved_within n k q (turned k s) (rw t at e) in
    by_test (leb (get_or rows half (port 0 0)).key k)
    (λ u. in_drop q half rows (rw u at i))
    (λ g. in_take q (length rows - half) rows (rw g at i)))
    (λ f. rw f at e)

-- a lookup among the rows that pass a test: none with the key does, or one alone
module _ (f : Port → Bool) (other k : ℕ) where
  none_passes : (rows : List Port) → ((row : Port) → row.key ≡ k → f row ≡ false) → resolve_in other (passing f rows) k ≡ port k other
  none_passes [] h = refl
  none_passes (p ∷ ps) h =
      let r = none_passes ps h in
      by_test (f p)
      (λ t. rw (t, ne_eqb p.key k (λ e. true≢false (sym t ∙ h p e))) r)
      (λ n. rw n r)

  one_passes : (q : Port) (rows : List Port) → q.key ≡ k → f q ≡ true → ((row : Port) → row.key ≡ k → f row ≡ true → row ≡ q)
      → is_in q rows ≡ true → resolve_in other (passing f rows) k ≡ q
  one_passes q [] e y only i = absurd (true≢false (sym i))
  one_passes q (p ∷ ps) e y only i = by_test (f p)
      (λ t. by_test (eqb p.key k)
      (λ u. rw (t, u) (only p (eqb-true p.key k u) t))
      (λ n. rw (t, n) (one_passes q ps e y only (rw (ne_eqb q.key p.key (λ j. eqb-false p.key k n (sym j ∙ e))) at i))))
      (λ n. rw n (one_passes q ps e y only (behind n)))
    where
      behind : f p ≡ false → is_in q ps ≡ true
      behind n = by_test (same_port q p)
          (λ t. absurd (true≢false (sym y ∙ ap f (sym (same_port_lem q p t)) ∙ n)))
          (λ g. rw g at i)

-- The search by halving is the rule's lookup in the rows that it reaches.
pub reached_search : (other k : ℕ) (rows : List Port) → by_halving other rows k ≡ resolve_in other (reached rows) k
unfolding halved ended reached
reached_search other k rows = of (halved k rows) refl (halved_short (length rows) k (begun rows) (omega arith))
  where
    finds : Port → Bool
    finds row = is_in row (halved row.key rows)

    found : (row : Port) (l : List Port) → halved k rows ≡ l → row.key ≡ k → finds row ≡ is_in row l
    found row l e i = ap (λ x. is_in row (halved x rows)) i ∙ ap (is_in row) e

    only : (q : Port) → halved k rows ≡ q ∷ [] → (row : Port) → row.key ≡ k → finds row ≡ true → row ≡ q
    only q e row i y = alone (is_in_lem row (q ∷ []) (sym (found row (q ∷ []) e i) ∙ y))
      where
        alone : In row (q ∷ []) → row ≡ q
        alone (mathlib.Core.Logic.inr h) = elim h [ ]
        alone (inl j) = sym j

    apart : (q : Port) → eqb q.key k ≡ false → (row : Port) → row.key ≡ k → eqb row.key q.key ≡ false
    apart q n row i = ne_eqb row.key q.key (λ j. eqb-false q.key k n (sym j ∙ i))

    of : (l : List Port) → halved k rows ≡ l → length l ≤ 1 → resolve_in other l k ≡ resolve_in other (passing finds rows) k
    of [] e h = sym (none_passes finds other k rows (λ row i. found row [] e i))
    of (q ∷ []) e h = by_test (eqb q.key k)
        (λ t. let j = eqb-true q.key k t in
        let itself = in_at (q ∷ []) 0 (omega arith) in
        let within = halved_within (length rows) k q (begun rows) (ap (is_in q) e ∙ itself) in
        rw t (sym (one_passes finds other k q rows j (found q (q ∷ []) e j ∙ itself) (only q e) within)))
        (λ n. rw n (sym (none_passes finds other k rows (λ row i. found row (q ∷ []) e i ∙ rw (apart q n row i)))))
    of (q ∷ p ∷ l) e h = absurd (omega arith)

there : (half i : ℕ) → half ≤ i → half + (i - half) ≡ i
there half i h = omega arith

-- on which side of the middle row a key's row stands
module _ (l : List Port) (i half k : ℕ) (e : rising l ≡ true) where
  not_below_lem : half < length l → (get_or l i (port 0 0)).key ≡ k → (get_or l half (port 0 0)).key ≤ k → half ≤ i
  not_below_lem h s m = by_test (ltb i half)
      (λ y. absurd (omega (arith, rising_at l i half e (ltb-true i half y) h)))
      (λ n. ltb-false i half n)

  not_above : i < length l → (get_or l i (port 0 0)).key ≡ k → k < (get_or l half (port 0 0)).key → i < half
  not_above h s m = by_test (ltb i half)
      (λ y. ltb-true i half y)
      (λ n. by_test (eqb i half)
      (λ t. absurd (omega (arith, ap (λ x. (get_or l x (port 0 0)).key) (eqb-true i half t))))
      (λ f. absurd (below_half (ltb-false i half n) (eqb-false i half f))))
    where
      below_half : half ≤ i → (i ≡ half → ⊥) → ⊥
      below_half a b = let less : half < i = omega arith in omega (arith, rising_at l half i e less h)

-- where keys rise, each row stays among what is left for its key
stays : (n k i c : ℕ) (l : List Port) → rising l ≡ true → i < length l → (get_or l i (port 0 0)).key ≡ k
    → is_in (get_or l i (port 0 0)) (gone_on n k (record { rows = l; compared = c })).rows ≡ true
unfolding gone_on
stays zero k i c l e h s = in_at l i h
stays (suc n) k i c l e h s =
    let half = length l / 2 in
    by_test (ltb 1 (length l))
    (λ t. let more = ltb-true 1 (length l) t in
    by_test (leb (get_or l half (port 0 0)).key k)
    (λ u. let above = not_below_lem l i half k e (omega arith) s (leb-true _ _ u) in
    let at = get_or-drop half l (i - half) (port 0 0) ∙ ap (λ x. get_or l x (port 0 0)) (there half i above) in
    rw (t, u)
    (subst (λ q. is_in q (gone_on n k (record { rows = drop half l; compared = c + 1 })).rows ≡ true) at
    (stays n k (i - half) (c + 1) (drop half l) (rising_drop half l e) (simp length-drop (omega arith)) (ap (λ (q : Port). q.key) at ∙ s))))
    (λ g. let below = not_above l i half k e h s (leb-false _ _ g) in
    let at = get_or-take (length l - half) l i (port 0 0) (omega arith) in
    rw (t, g)
    (subst (λ q. is_in q (gone_on n k (record { rows = take (length l - half) l; compared = c + 1 })).rows ≡ true) at
    (stays n k i (c + 1) (take (length l - half) l) (rising_take (length l - half) l e) (simp length-take (omega arith)) (ap (λ (q : Port). q.key) at ∙ s)))))
    (λ f. rw f (in_at l i h))

all_pass : (f : Port → Bool) (rows : List Port) → ((i : ℕ) → i < length rows → f (get_or rows i (port 0 0)) ≡ true) → passing f rows ≡ rows
all_pass f [] h = refl
all_pass f (p ∷ ps) h = rw (h 0 (omega arith), all_pass f ps (λ i l. h (suc i) (omega arith)))

-- Where keys rise it reaches all rows.
pub reached_all : (rows : List Port) → rising rows ≡ true → reached rows ≡ rows
unfolding reached halved ended
reached_all rows e =
    all_pass (λ (row : Port). is_in row (halved row.key rows)) rows λ i h. stays (length rows) (get_or rows i (port 0 0)).key i 0 rows e h refl

-- So there it is the rule's lookup.
pub halving_finds : (other k : ℕ) (rows : List Port) → rising rows ≡ true → by_halving other rows k ≡ resolve_in other rows k
halving_finds other k rows e = reached_search other k rows ∙ ap (λ l. resolve_in other l k) (reached_all rows e)

-- A list that passes row 4 is such a list.
pub good_reached : (l : List ℕ) → bad_realms l ≡ false → reached (pairs l) ≡ pairs l
good_reached l good = reached_all (pairs l) (good_realms l good).2

-- So a realm list that passes row 4 makes the rule's table.
pub good_table : (l : List ℕ) → bad_realms (rows_in l) ≡ false → reached_in l ≡ realms_of l
unfolding realm_list
good_table l good = λ i. record { rows = good_reached (rows_in l) good i; other = (realms_of l).other }
