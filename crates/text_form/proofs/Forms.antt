-- The laws of forms: each way to make a form from others keeps both.
use Rattle.std.specs.Prelude.{Some}
use Rattle.std.proofs.Common.{ℕ, zero, suc, ◌≡◌, refl, List, [], ◌∷◌, ◌++◌, ◌⊎◌, eqb, length, arith, sym, ap, ◌∙◌, subst, append_assoc, append-nil, inl, inr, eqb-true, eq-eqb}
use Rattle.rules_basics.specs.Tests.{by_test}
use Rattle.text_form.specs.Forms.{Read, found, torn, and_then, or_else, Form, Lawful, nothing, expect, read_behind, behind, literal, read_then, FitsThen, write_then, ◌then◌, FitsEither, write_either, read_either, either, read_any, one_of, write_as, read_as, like, FitAll, write_all, read_many, FitsCounted, write_counted, read_counted, counted, alone, read_text}

-- nothing is torn and found
pub torn_found : {A P : Type 0} (a : A) (rest : List ℕ) → torn ≡ found a rest → P
torn_found a rest e = let z : ◌≡◌ {A = ℕ} 0 1 = cc in absurd (omega arith)

-- Where two readings succeed one behind the other, each did.
pub record Parts {A B : Type 0} (r : Read A) (f : A → List ℕ → Read B) (b : B) (rest : List ℕ) : Type 0 where
  pub value : A
  pub behind : List ℕ
  pub first : r ≡ found value behind
  pub second : f value behind ≡ found b rest

pub parts : {A B : Type 0} (r : Read A) (f : A → List ℕ → Read B) (b : B) (rest : List ℕ) → and_then r f ≡ found b rest → Parts r f b rest
parts (found a s) f b rest e = record { value = a; behind = s; first = refl; second = e }
parts torn f b rest e = torn_found b rest e

pub nothing_exact : (t : List ℕ) (a : Unit {0}) (rest : List ℕ) → found tt t ≡ found a rest → Unit {0} × (rest ≡ t)
nothing_exact t a rest e = (tt, cc)

pub nothing_lawful : Lawful nothing
nothing_lawful = record { back = λ a rest h. refl; exact = nothing_exact }

pub expect_back : (w rest : List ℕ) → expect w (w ++ rest) ≡ found tt rest
unfolding expect
expect_back [] rest = refl
expect_back (b ∷ w) rest = rw (eq-eqb b b refl) (expect_back w rest)

pub expect_exact : (w t : List ℕ) (u : Unit {0}) (rest : List ℕ) → expect w t ≡ found u rest → w ++ rest ≡ t
unfolding expect
expect_exact [] t u rest e = cc
expect_exact (b ∷ w) [] u rest e = torn_found u rest e
expect_exact (b ∷ w) (c ∷ t) u rest e =
    let more = expect_exact w t u rest in
    by_test (eqb b c)
    (λ y. let i = eqb-true b c y in let m = more (rw y at e) in cc)
    (λ n. torn_found u rest (rw n at e))

module _ {A : Type 0} (w : List ℕ) (f : Form A) (l : Lawful f) where
  pub behind_back : (a : A) (rest : List ℕ) → f.Fits a → read_behind w f ((w ++ f.write a) ++ rest) ≡ found a rest
  behind_back a rest h = rw (append_assoc w (f.write a) rest, expect_back w (f.write a ++ rest)) (l.back a rest h)

  pub behind_exact : (t : List ℕ) (a : A) (rest : List ℕ) → read_behind w f t ≡ found a rest → f.Fits a × ((w ++ f.write a) ++ rest ≡ t)
  behind_exact t a rest e =
      let p = parts (expect w t) (λ u r. f.read r) a rest e in
      let x = l.exact p.behind a rest p.second in
      (x.0, rw (append_assoc w (f.write a) rest, x.1) (expect_exact w t p.value p.behind p.first))

  pub behind_lawful : Lawful (behind w f)
  behind_lawful = record { back = behind_back; exact = behind_exact }

pub literal_lawful : (w : List ℕ) → Lawful (literal w)
literal_lawful w = behind_lawful w nothing nothing_lawful

-- One form, then another.
module _ {A B : Type 0} {f : Form A} {g : Form B} (k : Lawful f) (l : Lawful g) where
  pub then_back : (p : A × B) (rest : List ℕ) → FitsThen f g p → read_then f g (write_then f g p ++ rest) ≡ found p rest
  then_back p rest h =
      rw (append_assoc (f.write p.0) (g.write p.1) rest, k.back p.0 (g.write p.1 ++ rest) h.0, l.back p.1 rest h.1)

  pub then_exact : (t : List ℕ) (p : A × B) (rest : List ℕ) → read_then f g t ≡ found p rest → FitsThen f g p × (write_then f g p ++ rest ≡ t)
  then_exact t p rest e =
      let x = parts (f.read t) (λ a r. and_then (g.read r) (λ b s. found (a, b) s)) p rest e in
      let y = parts (g.read x.behind) (λ b s. found (x.value, b) s) p rest x.second in
      let i : x.value ≡ p.0 = cc in
      let r : y.value ≡ p.1 = cc in
      let s : y.behind ≡ rest = cc in
      let u = k.exact t p.0 x.behind (cc) in
      let v = l.exact x.behind p.1 rest (cc) in
      ((u.0, v.0), rw (append_assoc (f.write p.0) (g.write p.1) rest, v.1) u.1)

  pub then_lawful : Lawful (f then g)
  then_lawful = record { back = then_back; exact = then_exact }

-- One form or another. What the other writes is nothing of the first.
module _ {A B : Type 0} (f : Form A) (g : Form B) (k : Lawful f) (l : Lawful g) (apart : (b : B) (rest : List ℕ) → f.read (g.write b ++ rest) ≡ torn) where
  pub either_back : (e : A ⊎ B) (rest : List ℕ) → FitsEither f g e → read_either f g (write_either f g e ++ rest) ≡ found e rest
  either_back (inl a) rest h = rw (k.back a rest h)
  either_back (inr b) rest h = rw (apart b rest, l.back b rest h)

  pub either_exact : (t : List ℕ) (e : A ⊎ B) (rest : List ℕ) → read_either f g t ≡ found e rest → FitsEither f g e × (write_either f g e ++ rest ≡ t)
  either_exact t e rest = go (f.read t) refl (g.read t) refl e
    where
      go : (x : Read A) → f.read t ≡ x → (y : Read B) → g.read t ≡ y → (e : A ⊎ B)
          → or_else (and_then x (λ a r. found (inl a) r)) (and_then y (λ b r. found (inr b) r)) ≡ found e rest
          → FitsEither f g e × (write_either f g e ++ rest ≡ t)
      go (found a r) p y q (inl c) h = k.exact t c rest (cc)
      go (found a r) p y q (inr c) h = let z : ◌≡◌ {A = ℕ} 0 1 = cc in absurd (omega arith)
      go torn p (found b r) q (inl c) h = let z : ◌≡◌ {A = ℕ} 0 1 = cc in absurd (omega arith)
      go torn p (found b r) q (inr c) h = l.exact t c rest (cc)
      go torn p torn q e h = torn_found e rest h

  pub either_lawful : Lawful (either f g)
  either_lawful = record { back = either_back; exact = either_exact }

-- One of some values, each by its own bytes.
module _ {A : Type 0} (say : A → List ℕ) where
  pub any_exact : (l : List A) (t : List ℕ) (a : A) (rest : List ℕ) → read_any say l t ≡ found a rest → Unit {0} × (say a ++ rest ≡ t)
  any_exact [] t a rest e = torn_found a rest e
  any_exact (b ∷ l) t a rest e = go (expect (say b) t) refl (any_exact l t a rest) e
    where
      go : (x : Read (Unit {0})) → expect (say b) t ≡ x → (read_any say l t ≡ found a rest → Unit {0} × (say a ++ rest ≡ t))
          → or_else (and_then x (λ u r. found b r)) (read_any say l t) ≡ found a rest → Unit {0} × (say a ++ rest ≡ t)
      go (found u r) p more h = let i : b ≡ a = cc in (tt, expect_exact (say a) t u rest (cc))
      go torn p more h = more h

  pub one_of_lawful : (l : List A) → ((a : A) (rest : List ℕ) → read_any say l (say a ++ rest) ≡ found a rest) → Lawful (one_of say l)
  one_of_lawful l told = record { back = λ a rest h. told a rest; exact = any_exact l }

-- The same values held in another way.
module _ {A B : Type 0} (f : Form A) (l : Lawful f) (from : B → A) (to : A → B) (there : (a : A) → from (to a) ≡ a) where
  pub like_exact : (t : List ℕ) (b : B) (rest : List ℕ) → read_as f from to t ≡ found b rest → f.Fits (from b) × (write_as f from to b ++ rest ≡ t)
  like_exact t b rest e =
      let p = parts (f.read t) (λ a r. found (to a) r) b rest e in
      let v : to p.value ≡ b = cc in
      let i : p.value ≡ from b = sym (there p.value) ∙ ap from v in
      l.exact t (from b) rest (cc)

  pub like_lawful : ((b : B) → to (from b) ≡ b) → Lawful (like f from to)
  like_lawful again = record { back = λ b rest h. rw (l.back (from b) rest h, again b); exact = like_exact }

-- Values of one form, one behind the other; so many are read.
module _ {A : Type 0} (f : Form A) (lawful : Lawful f) where
  pub many_back : (l : List A) (rest : List ℕ) → FitAll f l → read_many f (length l) (write_all f l ++ rest) ≡ found l rest
  many_back [] rest h = refl
  many_back (a ∷ l) rest h =
      rw (append_assoc (f.write a) (write_all f l) rest, lawful.back a (write_all f l ++ rest) h.0, many_back l rest h.1)

  -- what was read: it fits, is what is written, and is so many
  pub record Many (k : ℕ) (t : List ℕ) (rest : List ℕ) (l : List A) : Type 0 where
    pub fit : FitAll f l
    pub same : write_all f l ++ rest ≡ t
    pub long : length l ≡ k

  pub many_exact : (k : ℕ) (t : List ℕ) (l : List A) (rest : List ℕ) → read_many f k t ≡ found l rest → Many k t rest l
  many_exact zero t [] rest e = record { fit = tt; same = cc; long = refl }
  many_exact zero t (a ∷ l) rest e = let z : ◌≡◌ {A = ℕ} 0 1 = cc in absurd (omega arith)
  many_exact (suc k) t l rest e = go (λ r m. many_exact k r m rest)
    where
      go : ((r : List ℕ) (m : List A) → read_many f k r ≡ found m rest → Many k r rest m) → Many (suc k) t rest l
      go more =
          let x = parts (f.read t) (λ a r. and_then (read_many f k r) (λ l s. found (a ∷ l) s)) l rest e in
          let y = parts (read_many f k x.behind) (λ m s. found (x.value ∷ m) s) l rest x.second in
          let i : x.value ∷ y.value ≡ l = cc in
          let u = lawful.exact t x.value x.behind x.first in
          let v = more x.behind y.value (cc) in
          subst (Many (suc k) t rest) i (record {
            fit = (u.0, v.fit);
            same = rw (append_assoc (f.write x.value) (write_all f y.value) rest, v.same) u.1;
            long = ap suc v.long;
          })

-- A count, and so many values.
module _ {A : Type 0} {n : Form ℕ} {f : Form A} (c : Lawful n) (lawful : Lawful f) where
  pub counted_back : (l : List A) (rest : List ℕ) → FitsCounted n f l → read_counted n f (write_counted n f l ++ rest) ≡ found l rest
  counted_back l rest h =
      rw (append_assoc (n.write (length l)) (write_all f l) rest, c.back (length l) (write_all f l ++ rest) h.0) (many_back f lawful l rest h.1)

  pub counted_exact : (t : List ℕ) (l : List A) (rest : List ℕ) → read_counted n f t ≡ found l rest → FitsCounted n f l × (write_counted n f l ++ rest ≡ t)
  counted_exact t l rest e =
      let x = parts (n.read t) (λ k r. read_many f k r) l rest e in
      let v = many_exact f lawful x.value x.behind l rest x.second in
      let i : length l ≡ x.value = v.long in
      let u = c.exact t (length l) x.behind (cc) in
      ((u.0, v.fit), rw (append_assoc (n.write (length l)) (write_all f l) rest, v.same) u.1)

  pub counted_lawful : Lawful (counted n f)
  counted_lawful = record { back = counted_back; exact = counted_exact }

-- A text that is nothing but what a form writes.
module _ {A : Type 0} (f : Form A) (l : Lawful f) where
  pub read_written : (a : A) → f.Fits a → read_text f (f.write a) ≡ Some a
  read_written a h = let e : f.read (f.write a) ≡ found a [] = rw (append-nil (f.write a)) at (l.back a [] h) in rw e

  pub written_read : (t : List ℕ) (a : A) → read_text f t ≡ Some a → f.Fits a × (f.write a ≡ t)
  written_read t a = go (f.read t) refl
    where
      go : (x : Read A) → f.read t ≡ x → alone x ≡ Some a → f.Fits a × (f.write a ≡ t)
      go (found b []) p e = let i : b ≡ a = cc in let x = l.exact t a [] (cc) in (x.0, sym (append-nil (f.write a)) ∙ x.1)
      go (found b (c ∷ r)) p e = let z : ◌≡◌ {A = ℕ} 0 1 = cc in absurd (omega arith)
      go torn p e = let z : ◌≡◌ {A = ℕ} 0 1 = cc in absurd (omega arith)
