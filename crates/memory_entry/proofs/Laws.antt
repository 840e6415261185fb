-- Lists stored word by word, and the writer's steps.
use Prim.Native.Nat.{ℕ, zero, suc, ◌+◌, ◌-◌, ◌*◌, ◌<◌, ◌≤◌, min}
use native.Mathlib.Omega.{arith}
use native.Mathlib.Nat.{zero-add}
use native.Mathlib.Numerals.{add-one}
use mathlib.Core.Path.{◌≡◌, refl, sym, ap, ◌∙◌}
use mathlib.Core.List.{List, [], ◌∷◌, ◌++◌, append-nil}
use lib.ListN.{length, get_or, take, set, drop, length-drop, drop_of_length-le}
use lib.Seq.{drop-cons, take_all}
use borrow.Rule.Slice.PartMut.{mid_of, put_mid}
use lib.Dec.{leb}
use borrow.Author.Tests.{le-leb, lt-leb, leb-true, leb-false}
use Rattle.rules_laws.specs.Laws.Tests.{by_test}
use Rattle.rules.specs.Limits.{max_rows, max_dependencies}
use Rattle.memory.specs.Layout.{row_word, place_words, next_word, id_word, edition_word, row_words}
use Rattle.memory.specs.Writes.{puts}
use Rattle.memory_places.specs.Changes.{occupied_at}
use Rattle.memory_entry.specs.Entries.{entry_words, filled_place}
use Rattle.memory_entry.specs.declared.Entry.{Entry}

-- a store past the end changes nothing
set_past : (m : List ℕ) (i v : ℕ) → length m ≤ i → set m i v ≡ m
set_past [] i v h = refl
set_past (x ∷ m) zero v h = absurd (omega arith)
set_past (x ∷ m) (suc i) v h = ap (λ l. x ∷ l) (set_past m i v (omega arith))

pub puts_past : (vs m : List ℕ) (b k : ℕ) → length m ≤ b + k → puts m b k vs ≡ m
puts_past [] m b k h = refl
puts_past (v ∷ vs) m b k h =
    let e = set_past m (b + k) v h in
    rw e (puts_past vs m b (k + 1) (omega arith))

-- the loop that stores a list at the front
pub puts_next : (m ws : List ℕ) (k : ℕ) → k < length ws → puts m 0 k (drop k ws) ≡ puts (set m k (get_or ws k 0)) 0 (k + 1) (drop (k + 1) ws)
puts_next m ws k h =
    ap (λ l. puts m 0 k l) (drop-cons ws k 0 h)
    ∙ ap (λ i. puts (set m i (get_or ws k 0)) 0 (k + 1) (drop (suc k) ws)) (zero-add k)
    ∙ ap (λ n. puts (set m k (get_or ws k 0)) 0 (k + 1) (drop n ws)) (sym (add-one k))

puts_end : (m ws : List ℕ) (k : ℕ) → length ws ≤ k → puts m 0 k (drop k ws) ≡ m
puts_end m ws k h = rw (drop_of_length-le ws h)

-- where all are stored, or there is no room for more
pub puts_full : (m ws : List ℕ) (k : ℕ) → min (length ws) (length m) ≤ k → puts m 0 k (drop k ws) ≡ m
puts_full m ws k h = by_test (leb (length ws) k)
    (λ y. puts_end m ws k (leb-true _ _ y))
    (λ n. puts_past (drop k ws) m 0 k (omega (arith, leb-false (length ws) k n)))

-- numbers stored in the tail from p on, in its place in the whole
puts_cons : (vs m : List ℕ) (x p k : ℕ) → puts (x ∷ m) (suc p) k vs ≡ x ∷ puts m p k vs
puts_cons [] m x p k = refl
puts_cons (v ∷ vs) m x p k =
    let e : suc p + k ≡ suc (p + k) = omega arith in
    ap (λ i. puts (set (x ∷ m) i v) (suc p) (k + 1) vs) e ∙ puts_cons vs (set m (p + k) v) x p (k + 1)

puts_tail : (vs m : List ℕ) (p k : ℕ) → p ≤ length m → take p m ++ puts (drop p m) 0 k vs ≡ puts m p k vs
puts_tail vs m zero k h = refl
puts_tail vs [] (suc p) k h = absurd (omega arith)
puts_tail vs (x ∷ m) (suc p) k h = ap (λ l. x ∷ l) (puts_tail vs m p k (omega arith)) ∙ sym (puts_cons vs m x p k)

pub tail_put : (m last vs : List ℕ) (p : ℕ) → p ≤ length m → last ≡ puts (mid_of p (length m - p) m) 0 0 vs → put_mid p (length m - p) m last ≡ puts m p 0 vs
tail_put m last vs p h e =
    let long : length (drop p m) ≤ length m - p = simp length-drop (omega arith) in
    ap (λ t. take p m ++ (last ++ t)) (drop_of_length-le (drop p m) long)
    ∙ rw (append-nil, e, take_all (length m - p) (drop p m) long) (puts_tail vs m p 0 h)

-- numbers stored behind two others
puts_later : (vs m : List ℕ) (a k j : ℕ) → puts m (a + k) j vs ≡ puts m a (k + j) vs
puts_later [] m a k j = refl
puts_later (v ∷ vs) m a k j =
    let e : a + k + j ≡ a + (k + j) = omega arith in
    let f : k + (j + 1) ≡ k + j + 1 = omega arith in
    ap (λ i. puts (set m i v) (a + k) (j + 1) vs) e
    ∙ puts_later vs (set m (a + (k + j)) v) a k (j + 1)
    ∙ ap (λ n. puts (set m (a + (k + j)) v) a n vs) f

pub puts_led : (m rows : List ℕ) (b v w : ℕ)
    → puts (set (set m (b + edition_word) v) (b + (edition_word + 1)) w) (b + (edition_word + 2)) 0 rows ≡ puts m (b + edition_word) 0 (v ∷ w ∷ rows)
puts_led m rows b v w =
    let e : b + (edition_word + 2) ≡ b + edition_word + 2 = omega arith in
    let f : b + edition_word ≡ b + edition_word + 0 = omega arith in
    let g : b + (edition_word + 1) ≡ b + edition_word + (0 + 1) = omega arith in
    ap (λ a. puts (set (set m (b + edition_word) v) (b + (edition_word + 1)) w) a 0 rows) e
    ∙ puts_later rows (set (set m (b + edition_word) v) (b + (edition_word + 1)) w) (b + edition_word) 2 0
    ∙ (λ x. puts (set (set m (f x) v) (g x) w) (b + edition_word) 2 rows)

-- the writer's steps, one after the other
pub fill_steps : (m m₁ m₂ m₃ m₄ m₅ : List ℕ) (p : ℕ) (e : Entry) (ds cs zs : List ℕ) → e.start ≤ max_rows → length ds ≤ max_dependencies * row_words
    → m₁ ≡ puts m (row_word e.start) 0 ds → m₂ ≡ puts m₁ (row_word e.start + length ds) 0 cs
    → m₃ ≡ puts m₂ (p * place_words + edition_word) 0 (e.edition ∷ e.default ∷ zs)
    → m₄ ≡ puts m₃ (p * place_words) id_word (entry_words e) → m₅ ≡ occupied_at (set m₄ next_word e.next) p → m₅ ≡ filled_place m p e ds cs zs
unfolding filled_place
fill_steps m m₁ m₂ m₃ m₄ m₅ p e ds cs zs a b e₁ e₂ e₃ e₄ e₅ = rw (le-leb _ _ a, le-leb _ _ b) (rw (e₅, e₄, e₃, e₂, e₁))

pub fill_not : (m : List ℕ) (p : ℕ) (e : Entry) (ds cs zs : List ℕ) → max_rows < e.start → m ≡ filled_place m p e ds cs zs
unfolding filled_place
fill_not m p e ds cs zs a = rw (lt-leb _ _ a)

pub fill_long : (m : List ℕ) (p : ℕ) (e : Entry) (ds cs zs : List ℕ) → e.start ≤ max_rows → max_dependencies * row_words < length ds
    → m ≡ filled_place m p e ds cs zs
unfolding filled_place
fill_long m p e ds cs zs a b = rw (le-leb _ _ a, lt-leb _ _ b)
