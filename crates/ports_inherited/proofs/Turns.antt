-- The candidates by their turn, and what `inherit` does with one.
use Prim.Native.Nat.{ℕ, zero, suc, ◌+◌, ◌*◌, ◌/◌, ◌%◌, ◌≤◌, ◌<◌}
use native.Mathlib.Omega.{arith}
use mathlib.Core.Path.{◌≡◌, refl, sym, ap, ◌∙◌}
use mathlib.Core.Bool.{Bool, true, false, ◌&&◌, or-true}
use mathlib.Core.List.{List, [], ◌∷◌, ◌++◌}
use lib.Dec.{eqb}
use lib.ListN.{length, get_or, drop, length-append, drop_of_length-le}
use borrow.Author.Tests.{eqb-true, ne_eqb}
use Rattle.rules.specs.Basics.{pick}
use Rattle.rules_types.specs.declared.Port.{Port}
use Rattle.rules.specs.Holds.{port, Realms, is_in}
use Rattle.rules.specs.Ports.{pairs, resolve_in, resolve}
use Rattle.rules.specs.Dependencies.{candidates, inherit, skipped}
use Rattle.rules_laws.specs.Laws.Tests.{by_test, both}
use Rattle.rules_laws.specs.Laws.Members.{same_self, in_behind}
use Rattle.ports.specs.Places.{length_pairs, pairs_get}
use Rattle.rules_laws.specs.Laws.Realms.{resolve_key_law}
use Rattle.ports_realms.specs.Halving.{reached, reached_with}
use Rattle.ports_resolved.specs.Keys.{candidate_of}
use Rattle.ports_resolved.specs.declared.Turn.{Turn}

length_candidates : (z : Realms) (ps : List Port) → length (candidates z ps) ≡ 2 * length ps
length_candidates z [] = refl
length_candidates z (p ∷ ps) = omega (arith, length_candidates z ps)

-- the port of turn c
abbrev turn : Realms → Port → ℕ → Port
turn z p c = port p.key (candidate_of z.other z.rows (c % 2) p.key p.realm).realm

turn_at : (z : Realms) (ps : List Port) (c : ℕ) → c / 2 < length ps
    → drop c (candidates z ps) ≡ turn z (get_or ps (c / 2) (port 0 0)) c ∷ drop (c + 1) (candidates z ps)
unfolding resolve
turn_at z [] c h = absurd (omega arith)
turn_at z (p ∷ ps) zero h = refl
turn_at z (p ∷ ps) (suc zero) h =
    ap (λ (k : ℕ). port k (resolve z p.key).realm ∷ candidates z ps) (resolve_key_law z.other z.rows p.key)
turn_at z (p ∷ ps) (suc (suc c)) h =
    let e : suc (suc c) / 2 ≡ suc (c / 2) = omega arith in
    let f : suc (suc c) % 2 ≡ c % 2 = omega arith in
    let g : suc (suc c) + 1 ≡ suc (suc (c + 1)) = omega arith in
    rw (e, f, g) (turn_at z ps c (omega arith))

-- in the numbers of the parent's list
module _ (other : ℕ) (rows parents : List ℕ) (c : ℕ) where
  abbrev z : Realms
  z = reached_with other rows

  -- the numbers of the port whose turn it is
  abbrev q : Port
  q = port (get_or parents (c / 2 * 2) 0) (get_or parents (c / 2 * 2 + 1) 0)

  turn_in : (n : ℕ) → n / 2 ≡ c / 2 → c / 2 < length parents / 2
      → drop n (candidates z (pairs parents)) ≡ turn z q n ∷ drop (n + 1) (candidates z (pairs parents))
  turn_in n e h =
      let port_is = ap (λ i. get_or (pairs parents) i (port 0 0)) e ∙ pairs_get parents (c / 2) h in
      turn_at z (pairs parents) n (omega (arith, length_pairs parents))
      ∙ ap (λ (p : Port). turn z p n ∷ drop (n + 1) (candidates z (pairs parents))) port_is

  module _ {t : Turn} (h : c / 2 < length parents / 2) (e : t ≡ candidate_of other (reached (pairs rows)) (c % 2) q.key q.realm) where
    pub candidate_at : drop c (candidates z (pairs parents)) ≡ port q.key t.realm ∷ drop (c + 1) (candidates z (pairs parents))
    candidate_at =
        turn_in c refl h ∙ ap (λ (u : Turn). port q.key u.realm ∷ drop (c + 1) (candidates z (pairs parents))) (sym e)

    pub some_turns : (1 ≤ t.turns) × (t.turns ≤ 2)
    some_turns = rw e (of (eqb (c % 2) 0 && eqb (resolve_in other (reached (pairs rows)) q.key).realm q.realm))
      where
        of : (b : Bool) → (1 ≤ pick b 2 1) × (pick b 2 1 ≤ 2)
        of true = (omega arith, omega arith)
        of false = (omega arith, omega arith)

    -- where both turns are taken at once, the second is skipped: after the first the port is one of its own or in the list
    pub turns_taken : (own l : List Port) → skipped own l (port q.key t.realm) ≡ true
        → inherit own (drop (c + 1) (candidates z (pairs parents))) l ≡ inherit own (drop (c + t.turns) (candidates z (pairs parents))) l
    turns_taken own l k =
        let cs = candidates z (pairs parents) in
        let again = (resolve_in other (reached (pairs rows)) q.key).realm in
        by_test (eqb (c % 2) 0 && eqb again q.realm)
        (λ b. let s = both (eqb (c % 2) 0) (eqb again q.realm) b in
        let even = eqb-true (c % 2) 0 s.0 in
        let realm : t.realm ≡ q.realm = ap (λ (u : Turn). u.realm) e ∙ rw s.0 in
        let turns : t.turns ≡ 2 = ap (λ (u : Turn). u.turns) e ∙ rw b in
        let odd : eqb ((c + 1) % 2) 0 ≡ false = ne_eqb ((c + 1) % 2) 0 (λ i. omega arith) in
        let same : turn z q (c + 1) ≡ port q.key t.realm = rw odd (ap (λ n. port q.key n) (eqb-true again q.realm s.1 ∙ sym realm)) in
        let all : c + 1 + 1 ≡ c + t.turns = omega arith in
        ap (λ (x : List Port). inherit own x l) (turn_in (c + 1) (omega arith) h ∙ ap (λ (p : Port). p ∷ drop (c + 1 + 1) cs) same)
        ∙ skip (port q.key t.realm) (drop (c + 1 + 1) cs) k
        ∙ ap (λ n. inherit own (drop n cs) l) all)
        (λ f. let turns : t.turns ≡ 1 = ap (λ (u : Turn). u.turns) e ∙ rw f in
        let all : c + 1 ≡ c + t.turns = omega arith in
        ap (λ n. inherit own (drop n cs) l) all)
      where
        skip : (p : Port) (ps : List Port) → skipped own l p ≡ true → inherit own (p ∷ ps) l ≡ inherit own ps l
        skip p ps i = rw i

  pub candidates_end : length parents / 2 ≤ c / 2 → drop c (candidates z (pairs parents)) ≡ []
  candidates_end h =
      drop_of_length-le (candidates z (pairs parents)) {i = c} (omega (arith, length_candidates z (pairs parents), length_pairs parents))

-- a candidate is skipped, or appended
module _ {cs qs : List Port} {q : Port} (s : cs ≡ q ∷ qs) (own l : List Port) where
  pub skip_own : is_in q own ≡ true → inherit own cs l ≡ inherit own qs l
  skip_own p = rw (s, p)

  pub skip_listed : is_in q own ≡ false → is_in q l ≡ true → inherit own cs l ≡ inherit own qs l
  skip_listed p i = rw (s, p, i)

  pub append_new : is_in q own ≡ false → is_in q l ≡ false → inherit own cs l ≡ inherit own qs (l ++ q ∷ [])
  append_new p i = rw (s, p, i)

-- what is appended is in the list
pub in_last : (q : Port) (l : List Port) → is_in q (l ++ q ∷ []) ≡ true
in_last q l = in_behind q q l ∙ rw (same_self q, or-true)

-- the list never gets shorter
pub grows : (own cs l : List Port) → length l ≤ length (inherit own cs l)
grows own [] l = omega arith
grows own (q ∷ qs) l = by_test (skipped own l q)
    (λ t. rw t (grows own qs l))
    (λ n. rw n (omega (arith, grows own qs (l ++ q ∷ []), length-append l (q ∷ []))))
