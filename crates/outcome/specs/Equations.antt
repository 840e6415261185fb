-- The laws that serve most promises: an equation for the answer or for what it says, and one for each lent memory.
use Rattle.std.specs.Prelude.{ℕ, ◌≡◌, refl, [], ◌∷◌}
use Rattle.std.proofs.Common.{sym, ◌∙◌}
use Rattle.rules.specs.Outcomes.{Answer, Accepted}

-- r ≡ x
pub by_equation : {A : Type 0} {x a b : A} → a ≡ x → b ≡ x → a ≡ b
by_equation e g = e ∙ sym g

-- no answer, and memory ≡ y
pub memory_alone : {A : Type 0} {y c d : A} {r s : Unit {0}} → c ≡ y → d ≡ y → (r ≡ s) × (c ≡ d)
memory_alone e g = (refl, by_equation e g)

-- r ≡ x, where the lent memory is handed back as r
pub answer_alone : {A : Type 0} {x a b : A} {m n : Unit {0}} → a ≡ x → b ≡ x → (a ≡ b) × (m ≡ n)
answer_alone e g = (by_equation e g, refl)

-- r ≡ x, and memory ≡ y; `Tells` too: a status, and the words told
pub by_two : {A B : Type 0} {x a b : A} {y c d : B} → (a ≡ x) × (c ≡ y) → (b ≡ x) × (d ≡ y) → (a ≡ b) × (c ≡ d)
by_two p q = (by_equation p.0 q.0, by_equation p.1 q.1)

-- the same, where an answer that is handed in leaves nothing between them
pub by_two_handed : {A B C : Type 0} {x a b : A} {y c d : B} {m n : C} → m ≡ n → (a ≡ x) × (c ≡ y) → (b ≡ x) × (d ≡ y) → (a ≡ b) × ((m ≡ n) × (c ≡ d))
by_two_handed e p q = (by_equation p.0 q.0, (e, by_equation p.1 q.1))

-- `Tells` with a memory, `Carried` and `Lists`: a status, the words told, and what stands before them among the parameters
pub by_three : {A B C : Type 0} {x a b : A} {y c d : B} {z m n : C}
    → ((a ≡ x) × (c ≡ y)) × (m ≡ z)
    → ((b ≡ x) × (d ≡ y)) × (n ≡ z) → (a ≡ b) × ((m ≡ n) × (c ≡ d))
by_three p q = (by_equation p.0.0 q.0.0, (by_equation p.1 q.1, by_equation p.0.1 q.0.1))

-- f r ≡ x, where f tells answers apart
pub one_outcome : {A B : Type 0} {f : A → B} → ((a b : A) → f a ≡ f b → a ≡ b) → {x : B} {a b : A} → f a ≡ x → f b ≡ x → a ≡ b
one_outcome exact {a = a} {b = b} e g = exact a b (e ∙ sym g)

-- f r ≡ x, and memory ≡ y; `Decides` too
pub one_with_memory : {A B C : Type 0} {f : A → B} → ((a b : A) → f a ≡ f b → a ≡ b)
    → {x : B} {a b : A} {y c d : C} → (f a ≡ x) × (c ≡ y) → (f b ≡ x) × (d ≡ y) → (a ≡ b) × (c ≡ d)
one_with_memory exact p q = (one_outcome exact p.0 q.0, by_equation p.1 q.1)

-- x ≡ Accepted (r ∷ []): what an operation answers is this one number
pub one_number : {x : Answer} {a b : ℕ} → x ≡ Accepted (a ∷ []) → x ≡ Accepted (b ∷ []) → a ≡ b
one_number e g = number (sym e ∙ g)
  where
    number : {a b : ℕ} → Accepted (a ∷ []) ≡ Accepted (b ∷ []) → a ≡ b
    number h = cc
