-- Reading by places: a text stays where it is. From a place on a form reads a value, and the place behind it is answered with it; or
-- nothing of the form stands there. Nothing is read from none, which is where what was to be read before does not stand.
use Rattle.std.specs.Prelude.{ℕ, ◌≤◌, ◌<◌, ◌≡◌, refl, Bool, true, false, List, [], ltb, length, drop, Option, Some, None}
use Rattle.std.proofs.Common.{arith, sym, ap, ◌∙◌, length-drop, drop_of_length-le, lt-ltb, le-ltb}
use Rattle.rules_basics.specs.Basics.{pick}
use Rattle.rules_basics.specs.Tests.{by_test}
use Rattle.text_form.specs.Forms.{Read, found, torn, and_then}
use Rattle.text_form.proofs.Forms.{torn_found}

-- An answer as what is read.
abbrev pub in_text : {A : Type 0} → List ℕ → Option (A × ℕ) → Read A
in_text t (Some (a, next)) = found a (drop next t)
in_text t None = torn

abbrev pub Within : {A : Type 0} → List ℕ → Option (A × ℕ) → Type 0
Within t (Some (a, next)) = next ≤ length t
Within t None = Unit {0}

-- What a form reads from a place on: past the text's end nothing stands.
abbrev pub read_from : {A : Type 0} → (List ℕ → Read A) → List ℕ → ℕ → Read A
read_from read t at = pick (ltb (length t) at) torn (read (drop at t))

-- The same from a place or from none: where what was to be read before is torn, all is torn.
abbrev pub read_behind : {A : Type 0} → (List ℕ → Read A) → List ℕ → Option ℕ → Read A
read_behind read t (Some at) = read_from read t at
read_behind read t None = torn

-- From a place on, or from none, a form reads what is answered: a value, with the place behind it in the text, or nothing.
pub record ReadsFrom {A : Type 0} (read : List ℕ → Read A) (t : List ℕ) (at : Option ℕ) (r : Option (A × ℕ)) : Type 0 where
  pub said : in_text t r ≡ read_behind read t at
  pub fits : Within t r

-- the same from a place
abbrev pub Reads : {A : Type 0} → (List ℕ → Read A) → List ℕ → ℕ → Option (A × ℕ) → Type 0
Reads read t at r = ReadsFrom read t (Some at) r

-- the same of a form whose values say nothing: the place alone
abbrev pub place_of : Option ℕ → Option (Unit {0} × ℕ)
place_of (Some next) = Some (tt, next)
place_of None = None

abbrev pub StandsFrom : (List ℕ → Read (Unit {0})) → List ℕ → Option ℕ → Option ℕ → Type 0
StandsFrom read t at r = ReadsFrom read t at (place_of r)

abbrev pub Stands : (List ℕ → Read (Unit {0})) → List ℕ → ℕ → Option ℕ → Type 0
Stands read t at r = StandsFrom read t (Some at) r

-- an answer whose value is held in another way
abbrev pub said_as : {A B : Type 0} → (A → B) → Option (A × ℕ) → Option (B × ℕ)
said_as to (Some (a, next)) = Some (to a, next)
said_as to None = None

-- A place in the text.
pub read_at : {A : Type 0} (read : List ℕ → Read A) (t : List ℕ) (at : ℕ) → at ≤ length t → read_from read t at ≡ read (drop at t)
read_at read t at h = rw (le-ltb (length t) at h)

-- What stands at a place: nothing past the end, nothing of the form, or a value.
module _ {A : Type 0} (read : List ℕ → Read A) (t : List ℕ) (p : ℕ) where
  pub reads_past : length t < p → Reads read t p None
  reads_past h = record { said = rw (lt-ltb (length t) p h); fits = tt }

  pub reads_torn : p ≤ length t → read (drop p t) ≡ torn → Reads read t p None
  reads_torn h e = record { said = sym (read_at read t p h ∙ e); fits = tt }

  pub reads_empty : length t ≤ p → read [] ≡ torn → Reads read t p None
  reads_empty h e = record { said = by_test (ltb (length t) p) (λ y. rw y) (λ n. rw (n, drop_of_length-le t h) (sym e)); fits = tt }

  pub reads_found : p ≤ length t → (a : A) (n : ℕ) → read (drop p t) ≡ found a (drop n t) → n ≤ length t → Reads read t p (Some (a, n))
  reads_found h a n e k = record { said = sym (read_at read t p h ∙ e); fits = k }

-- None goes in, and none comes out.
pub reads_none : {A : Type 0} (read : List ℕ → Read A) (t : List ℕ) (at : Option ℕ) → at ≡ None → ReadsFrom read t at None
reads_none read t at e = rw e (record { said = refl; fits = tt })

-- What is whole began at a place.
pub came : {A : Type 0} {read : List ℕ → Read A} {t : List ℕ} {at : Option ℕ} {a : A} {n : ℕ} → ReadsFrom read t at (Some (a, n)) → (k : ℕ) × (at ≡ Some k)
came {at = Some k} x = (k, refl)
came {t = t} {at = None} {a} {n} x = torn_found a (drop n t) (sym x.said)

-- Two answers of one reading are equal.
torn_at : {A P : Type 0} (a : A) (t : List ℕ) (n : ℕ) (r : Read A) → found a (drop n t) ≡ r → r ≡ torn → P
torn_at a t n r x y = torn_found a (drop n t) (sym y ∙ sym x)

pub reads_one : {A : Type 0} {read : List ℕ → Read A} {t : List ℕ} {at : Option ℕ} {r s : Option (A × ℕ)}
    → ReadsFrom read t at r → ReadsFrom read t at s → r ≡ s
reads_one {t = t} {r = Some (a, m)} {s = Some (b, n)} x y =
    let e : found a (drop m t) ≡ found b (drop n t) = x.said ∙ sym y.said in
    let d : drop m t ≡ drop n t = cc in
    let i : a ≡ b = cc in
    let hm = x.fits in
    let hn = y.fits in
    let j : m ≡ n = omega (arith, ap length d, length-drop m t, length-drop n t) in
    cc
reads_one {t = t} {r = Some (a, m)} {s = None} x y = torn_at a t m _ x.said (sym y.said)
reads_one {t = t} {r = None} {s = Some (b, n)} x y = torn_at b t n _ y.said (sym x.said)
reads_one {r = None} {s = None} x y = refl

place_exact : (r s : Option ℕ) → place_of r ≡ place_of s → r ≡ s
place_exact (Some m) (Some n) e =
    let p : ◌≡◌ {A = Unit {0} × ℕ} (tt, m) (tt, n) = cc in
    ap (λ (q : Unit {0} × ℕ). Some q.1) p
place_exact (Some m) None e = cc
place_exact None (Some n) e = cc
place_exact None None e = refl

pub stands_one : {read : List ℕ → Read (Unit {0})} {t : List ℕ} {at : Option ℕ} (r s : Option ℕ) → StandsFrom read t at r → StandsFrom read t at s → r ≡ s
stands_one r s x y = place_exact r s (reads_one x y)

-- One reading, and another behind it.
torn_first : {A B : Type 0} (b : Bool) (r : Read A) (k : A → List ℕ → Read B) → pick b torn (and_then r k) ≡ and_then (pick b torn r) k
torn_first true r k = refl
torn_first false r k = refl

module _ {A B : Type 0} (f : List ℕ → Read A) (k : A → List ℕ → Read B) (t : List ℕ) where
  pub from_then : (at : Option ℕ) → read_behind (λ s. and_then (f s) k) t at ≡ and_then (read_behind f t at) k
  from_then (Some at) = torn_first (ltb (length t) at) (f (drop at t)) k
  from_then None = refl

  -- What is read from a place on goes on where the first ends.
  pub read_on : {at : Option ℕ} {m : ℕ} {a : A} → ReadsFrom f t at (Some (a, m)) → read_behind (λ s. and_then (f s) k) t at ≡ read_from (k a) t m
  read_on {at} {m} {a} x = from_then at ∙ ap (λ z. and_then z k) (sym x.said) ∙ sym (read_at (k a) t m x.fits)

  pub reads_on : {at : Option ℕ} {m : ℕ} {a : A} {r : Option (B × ℕ)}
      → ReadsFrom f t at (Some (a, m)) → Reads (k a) t m r → ReadsFrom (λ s. and_then (f s) k) t at r
  reads_on x y = record { said = y.said ∙ sym (read_on x); fits = y.fits }

  -- Nothing stands behind what is torn.
  pub reads_not : {at : Option ℕ} → ReadsFrom f t at None → ReadsFrom (λ s. and_then (f s) k) t at None
  reads_not {at} x = record { said = sym (from_then at ∙ ap (λ z. and_then z k) (sym x.said)); fits = tt }

-- Nothing more is read.
pub ends : {A : Type 0} (a : A) (t : List ℕ) (at : ℕ) → at ≤ length t → Reads (λ s. found a s) t at (Some (a, at))
ends a t at h = record { said = sym (read_at (λ s. found a s) t at h); fits = h }

-- The same reading.
pub from_as : {A : Type 0} (f g : List ℕ → Read A) → ((s : List ℕ) → f s ≡ g s) → (t : List ℕ) (at : Option ℕ) → read_behind f t at ≡ read_behind g t at
from_as f g e t (Some at) = ap (pick (ltb (length t) at) torn) (e (drop at t))
from_as f g e t None = refl

pub reads_as : {A : Type 0} (f g : List ℕ → Read A) → ((s : List ℕ) → f s ≡ g s) → {t : List ℕ} {at : Option ℕ} {r : Option (A × ℕ)}
    → ReadsFrom f t at r → ReadsFrom g t at r
reads_as f g e {t} {at} x = record { said = x.said ∙ from_as f g e t at; fits = x.fits }
