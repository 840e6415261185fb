-- The bits of a word of places, and what two such words have in common.
use Prim.Native.Nat.{ℕ, zero, suc, ◌+◌, ◌*◌, ◌/◌, ◌%◌, ◌^◌, ◌<◌, min}
use native.Mathlib.Nat.{pow-suc, zero-add, not-suc-le-zero, le_of_suc-le-suc}
use native.Mathlib.Numerals.{one-add}
use native.Mathlib.Omega.{arith}
use mathlib.Core.Path.{◌≡◌, refl, sym, ap, ◌∙◌}
use mathlib.Core.Bool.{Bool, true, false, ◌&&◌}
use lib.Bits.{bit_and, and_step}
use lib.Dec.{eqb}
use lib.Pow.{shr-shr}
use borrow.Author.Tests.{eqb-true, eqb-false, eq-eqb, ne_eqb}
use Rattle.rules.specs.Basics.{yes_no}
use Rattle.rules_laws.specs.Laws.Tests.{by_test}
use Rattle.memory.specs.Layout.{places}
use Rattle.memory_providers.specs.Words.{is_among, word_of}

half : (w : ℕ) (b : Bool) → (w * 2 + yes_no b) / 2 ≡ w
half w true = omega arith
half w false = omega arith

low : (w : ℕ) (b : Bool) → (w * 2 + yes_no b) % 2 ≡ yes_no b
low w true = omega arith
low w false = omega arith

yes_one : (b : Bool) → eqb (yes_no b) 1 ≡ b
yes_one true = refl
yes_one false = refl

one_yes : (x : ℕ) → yes_no (eqb (x % 2) 1) ≡ x % 2
one_yes x = by_test (eqb (x % 2) 1)
    (λ y. rw y (omega (arith, eqb-true (x % 2) 1 y)))
    (λ n. rw n (omega (arith, eqb-false (x % 2) 1 n)))

-- bit j of the word is what place i + j says
among_from : (f : ℕ → Bool) (n i j : ℕ) → j < n → is_among (word_of f n i) j ≡ f (i + j)
unfolding word_of
among_from f zero i j h = absurd (not-suc-le-zero h)
among_from f (suc n) i zero h =
    let w = word_of f n (i + 1) * 2 + yes_no (f i) in
    let s : w / 2 ^ 0 ≡ w = omega arith in
    let t : i + 0 ≡ i = omega arith in
    rw (s, low (word_of f n (i + 1)) (f i), t) (yes_one (f i))
among_from f (suc n) i (suc j) h =
    let w = word_of f n (i + 1) * 2 + yes_no (f i) in
    let s : w / 2 ^ suc j ≡ word_of f n (i + 1) / 2 ^ j =
    rw (← one-add j) (sym (shr-shr w 1 j) ∙ ap (λ x. x / 2 ^ j) (half (word_of f n (i + 1)) (f i))) in
    let t : i + 1 + j ≡ i + suc j = omega arith in
    rw s (among_from f n (i + 1) j (le_of_suc-le-suc h) ∙ ap f t)

pub among_word : (f : ℕ → Bool) (j : ℕ) → j < places → is_among (word_of f places 0) j ≡ f j
among_word f j h = among_from f places 0 j h ∙ ap f (zero-add j)

-- a word is the word of its bits
bits_from : (w n i : ℕ) → w / 2 ^ i < 2 ^ n → word_of (is_among w) n i ≡ w / 2 ^ i
unfolding word_of
bits_from w zero i h = omega arith
bits_from w (suc n) i h =
    let s : w / 2 ^ (i + 1) ≡ w / 2 ^ i / 2 = sym (shr-shr w i 1) in
    let r = bits_from w n (i + 1) (omega (arith, pow-suc 2 n)) in
    rw (r, s, one_yes (w / 2 ^ i)) (omega arith)

pub bits_word : (w n : ℕ) → w < 2 ^ n → word_of (is_among w) n 0 ≡ w
bits_word w n h = let s : w / 2 ^ 0 ≡ w = omega arith in bits_from w n 0 (omega arith) ∙ s

min_and : (a b : Bool) → min (yes_no a) (yes_no b) ≡ yes_no (a && b)
min_and true true = refl
min_and true false = refl
min_and false true = refl
min_and false false = refl

pub and_word : (f g : ℕ → Bool) (n i : ℕ) → bit_and (word_of f n i) (word_of g n i) ≡ word_of (λ j. f j && g j) n i
unfolding word_of
and_word f g zero i = refl
and_word f g (suc n) i =
    let a = word_of f n (i + 1) in
    let b = word_of g n (i + 1) in
    and_step (a * 2 + yes_no (f i)) (b * 2 + yes_no (g i))
    ∙ rw (half a (f i), half b (g i), low a (f i), low b (g i), and_word f g n (i + 1), min_and (f i) (g i))

-- places that say the same
pub word_same : (f g : ℕ → Bool) (n i : ℕ) → ((j : ℕ) → j < i + n → f j ≡ g j) → word_of f n i ≡ word_of g n i
unfolding word_of
word_same f g zero i h = refl
word_same f g (suc n) i h =
    let s : i + 1 + n ≡ i + suc n = omega arith in
    rw (h i (omega arith), word_same f g n (i + 1) (λ j l. h j (rw s at l)))

-- the word is 0 where none passes
pub some_yes : (w : ℕ) → eqb (w * 2 + 1) 0 ≡ false
some_yes w = ne_eqb (w * 2 + 1) 0 (λ e. omega arith)

pub none_yet : (w : ℕ) → eqb (w * 2 + 0) 0 ≡ eqb w 0
none_yet w = by_test (eqb w 0)
    (λ y. rw y (eq-eqb (w * 2 + 0) 0 (omega (arith, eqb-true w 0 y))))
    (λ n. rw n (ne_eqb (w * 2 + 0) 0 (λ e. eqb-false w 0 n (omega arith))))
