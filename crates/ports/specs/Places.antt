-- Lookups in a list of ports, at any place; lists that are the same.
use Rattle.std.specs.Prelude.{ℕ, zero, suc, ◌+◌, ◌*◌, ◌≡◌, refl, Bool, true, false, List, [], ◌∷◌, drop, Some}
use Rattle.std.proofs.Common.{sym, ap, ◌∙◌}
use Rattle.std.proofs.Math.Bool.{or-true}
use borrow.Author.Tests.{eq-eqb, ne_eqb}
pub use Rattle.rules_laws.specs.Laws.Pairs.{pairs_at, pairs_behind, pairs_before, pairs_end, part_end, length_pairs, length_flat, odd_length_lem, length_odd, length_even}
pub use Rattle.rules_laws.specs.Laws.Pairs.{even_length, flat_pairs, flat_pairs_even, pairs_flat, flat_append, pairs_take, pairs_drop, pairs_whole, pairs_get}
pub use Rattle.rules_laws.specs.Laws.Pairs.{flat_get, pairs_same_length, pairs_same}
use Rattle.rules_types.specs.declared.Port.{Port}
use Rattle.rules.specs.Basics.{all, any}
use Rattle.rules.specs.Holds.{same_port, is_in}
use Rattle.rules.specs.Ports.{pairs, same_ports}
use Rattle.rules.specs.Registration.{repeats}
use Rattle.rules_laws.specs.Laws.Tests.{by_test, both}
use Rattle.rules_laws.specs.Laws.Members.{same_port_lem, same_self}
use Rattle.ports.specs.Answers.{first_from}

pub not_same : (p q : Port) → (p.key ≡ q.key → p.realm ≡ q.realm → ⊥) → same_port p q ≡ false
not_same p q n = by_test (same_port p q)
    (λ t. let e = same_port_lem p q t in absurd (n (ap (λ (v : Port). v.key) (sym e)) (ap (λ (v : Port). v.realm) (sym e))))
    (λ f. f)

-- a lookup, at a list that starts with p: a hit ends it, a miss goes on with the rest; a test of all is ended by a miss
module _ {l ps : List Port} {p : Port} (s : l ≡ p ∷ ps) where
  pub in_hit : (q : Port) → p.key ≡ q.key → p.realm ≡ q.realm → is_in q l ≡ true
  in_hit q e f = rw (s, eq-eqb q.key p.key (sym e), eq-eqb q.realm p.realm (sym f))

  pub in_miss : (q : Port) → (p.key ≡ q.key → p.realm ≡ q.realm → ⊥) → is_in q l ≡ is_in q ps
  in_miss q n = rw (s, not_same q p (λ e f. n (sym e) (sym f)))

  pub all_hit : (f : Port → Bool) → f p ≡ true → all f l ≡ all f ps
  all_hit f t = rw (s, t)

  pub all_miss : (f : Port → Bool) → f p ≡ false → all f l ≡ false
  all_miss f t = rw (s, t)

  pub first_hit : (i k : ℕ) → p.key ≡ k → first_from i k l ≡ Some i
  unfolding first_from
  first_hit i k e = rw (s, eq-eqb p.key k e)

  pub first_miss : (i k : ℕ) → (p.key ≡ k → ⊥) → first_from i k l ≡ first_from (i + 1) k ps
  unfolding first_from
  first_miss i k n = rw (s, ne_eqb p.key k n)

  pub repeats_hit : is_in p ps ≡ true → repeats l ≡ true
  repeats_hit e = rw (s, e)

  pub repeats_miss : is_in p ps ≡ false → repeats l ≡ repeats ps
  repeats_miss e = rw (s, e)

-- what is among those from a place on is among all
pub any_later : {A : Type 0} (f : A → Bool) (n : ℕ) (l : List A) → any f (drop n l) ≡ true → any f l ≡ true
any_later f zero l e = e
any_later f (suc n) [] e = e
any_later f (suc n) (x ∷ l) e = rw (any_later f n l e) (or-true (f x))

pub in_later : (q : Port) (n : ℕ) (l : List ℕ) → is_in q (pairs (drop (n * 2) l)) ≡ true → is_in q (pairs l) ≡ true
in_later q n l e = any_later (same_port q) n (pairs l) (ap (is_in q) (pairs_drop n l) ∙ e)

-- the same ports are the same list
pub same_refl : (ps : List Port) → same_ports ps ps ≡ true
same_refl [] = refl
same_refl (p ∷ ps) = rw (same_self p, same_refl ps)

pub same_eq : (ps qs : List Port) → same_ports ps qs ≡ true → ps ≡ qs
same_eq [] [] e = refl
same_eq [] (q ∷ qs) e = cc
same_eq (p ∷ ps) [] e = cc
same_eq (p ∷ ps) (q ∷ qs) e =
    let b = both (same_port p q) (same_ports ps qs) e in
    let h = same_port_lem p q b.0 in
    let t = same_eq ps qs b.1 in
    cc

pub same_not : (ps qs : List Port) → (ps ≡ qs → ⊥) → same_ports ps qs ≡ false
same_not ps qs n = by_test (same_ports ps qs) (λ e. absurd (n (same_eq ps qs e))) (λ e. e)
