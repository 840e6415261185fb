-- A plugin's fields, one question after the other, and the line of all of them. Assumes nothing.
use Rattle.std.specs.Prelude.{Option, Some, None}
use Prim.Native.Nat.{ℕ, ◌<◌}
use mathlib.Core.Path.{◌≡◌, refl, sym, ap, ◌∙◌}
use mathlib.Core.List.{List, [], ◌∷◌}
use native.Mathlib.Omega.{arith}
use lib.ListN.{length, get_or, replicate}
use Rattle.rules.specs.Holds.{Plugin, lookup}
use Rattle.rules.specs.Outcomes.{Answer, Accepted, answers, answer_of, found}
use Rattle.rules.specs.Queries.{Field, Parent, Anchor, PhaseOf, RetiredMark, Generation, Revision, Payload, RootOf, field_of, ask_plugin}
use Rattle.memory.specs.View.{view}
use Rattle.host_answers.specs.Told.{status_of, counted, words_of, Tells}
use Rattle.console_answer.specs.Pages.{put_on, numbers_on}
use Rattle.console_answer.specs.declared.Page.{Page}
use Rattle.console_answer.specs.Answers.{ok_word, none_word, word_on, told_in, answer_in, answer_on, or_none_on}
use Rattle.console_show.specs.Shown.{values_of, asked, Registered, field_on, life_on, queued_on, root_on, shown_as, shown_on}
use Rattle.console_show.specs.Told.{count_told, told_back, words_length, field_fits}

-- A question's answer, by the plugin that its id names.
answered : Option Plugin → Field → Answer
answered o f = answer_of (found o λ p. answers (field_of f p))

fits : (o : Option Plugin) (f : Field) → length (values_of (answered o f)) < 7
unfolding answered found
fits None f = omega arith
fits (Some p) f = field_fits f p

-- Where one question is accepted, any is.
accepts : (o : Option Plugin) (f : Field) → status_of (answered o Parent) ≡ 0 → answered o f ≡ Accepted (values_of (answered o f))
unfolding answered found status_of
accepts None f h = absurd (omega arith)
accepts (Some p) f h = refl

-- The root's number alone, and with what is queued.
root_alone : (p q r : Page) (l : List ℕ) → q ≡ numbers_on p l → length l ≡ 1 → r ≡ word_on q none_word → r ≡ queued_on p l
unfolding numbers_on
root_alone p q r [] e h f = absurd (omega arith)
root_alone p q r (n ∷ []) e h f = f ∙ rw e
root_alone p q r (n ∷ x ∷ l) e h f = absurd (omega arith)

root_queued : (p q : Page) (l : List ℕ) → q ≡ numbers_on p l → (length l ≡ 1 → ⊥) → q ≡ queued_on p l
unfolding numbers_on
root_queued p q [] e h = e
root_queued p q (n ∷ []) e h = absurd (h refl)
root_queued p q (n ∷ x ∷ l) e h = e

module _ (m : List ℕ) (id : ℕ) (known : Registered m id) where
  accepted : (f : Field) → asked m id f ≡ Accepted (values_of (asked m id f))
  unfolding ask_plugin answered
  accepted f = accepts (lookup (view m) id) f known

  -- The words that a question is answered in have its count and its numbers, and are as many as before.
  module _ (f : Field) (s : ℕ) (out out' : List ℕ) (k : length out ≡ 7) (t : Tells (asked m id f) out s out') where
    told : out' ≡ counted (values_of (asked m id f)) out
    unfolding words_of
    told = t.1 ∙ ap (λ (a : Answer). words_of a out) (accepted f)

    few : length (values_of (asked m id f)) < length out
    unfolding ask_plugin answered
    few = rw k (fits (lookup (view m) id) f)

    count : get_or out' 0 0 ≡ length (values_of (asked m id f))
    count = ap (λ (w : List ℕ). get_or w 0 0) told ∙ count_told (values_of (asked m id f)) out few

    numbers : told_in out' ≡ values_of (asked m id f)
    numbers = ap (λ (w : List ℕ). told_in w) told ∙ told_back (values_of (asked m id f)) out few

    pub length_told : length out' ≡ 7
    length_told = ap length t.1 ∙ words_length (asked m id f) out ∙ k

    pub field_said : (p r : Page) → r ≡ numbers_on p (told_in out') → r ≡ field_on p m id f
    unfolding field_on
    field_said p r e = e ∙ ap (λ (l : List ℕ). numbers_on p l) numbers

  pub life_said : (p₀ p₁ p₂ p₃ p₄ p₅ : Page) → p₁ ≡ field_on p₀ m id PhaseOf → p₂ ≡ field_on p₁ m id RetiredMark → p₃ ≡ field_on p₂ m id Generation
      → p₄ ≡ field_on p₃ m id Revision → p₅ ≡ field_on p₄ m id Payload → p₅ ≡ life_on p₀ m id
  unfolding life_on
  life_said p₀ p₁ p₂ p₃ p₄ p₅ e₁ e₂ e₃ e₄ e₅ = e₅ ∙ rw (e₄, e₃, e₂, e₁)

  module _ (p q : Page) (s : ℕ) (out out' : List ℕ) (k : length out ≡ 7) (t : Tells (asked m id RootOf) out s out') (e : q ≡ numbers_on p (told_in out')) where
    root_said_lem : q ≡ numbers_on p (values_of (asked m id RootOf))
    root_said_lem = e ∙ ap (λ (l : List ℕ). numbers_on p l) (numbers RootOf s out out' k t)

    pub none_queued : (r : Page) → get_or out' 0 0 ≡ 1 → r ≡ word_on q none_word → r ≡ root_on p m id
    unfolding root_on
    none_queued r h = root_alone p q r (values_of (asked m id RootOf)) root_said_lem (sym (count RootOf s out out' k t) ∙ h)

    pub some_queued : (get_or out' 0 0 ≡ 1 → ⊥) → q ≡ root_on p m id
    unfolding root_on
    some_queued h = root_queued p q (values_of (asked m id RootOf)) root_said_lem (λ d. h (count RootOf s out out' k t ∙ d))

  pub all_shown : (s : ℕ) (out out' : List ℕ) → length out ≡ 7 → Tells (asked m id Parent) out s out' → (p₀ p₁ p₂ p₃ p₄ p₅ : Page) → p₁ ≡ put_on p₀ ok_word
      → p₂ ≡ or_none_on p₁ (told_in out') → p₃ ≡ life_on p₂ m id → p₄ ≡ root_on p₃ m id → p₅ ≡ field_on p₄ m id Anchor → p₅ ≡ shown_on p₀ m id
  unfolding shown_on
  all_shown s out out' k t p₀ p₁ p₂ p₃ p₄ p₅ e₁ e₂ e₃ e₄ e₅ = e₅
      ∙ rw (e₄, e₃, e₂, e₁, numbers Parent s out out' k t) (ap (λ (a : Answer). shown_as p₀ m id a) (sym (accepted Parent)))

-- An id that is no plugin's is refused, and no number is told with it.
refuses : (m : List ℕ) (id s : ℕ) (out' : List ℕ) (p r : Page) (o : Option Plugin) → Tells (answered o Parent) (replicate 7 0) s out' → (s ≡ 0 → ⊥)
    → r ≡ answer_on p (answer_in s (told_in out')) → r ≡ shown_as p m id (answered o Parent)
unfolding answered found status_of words_of
refuses m id s out' p r None t h e = e ∙ rw (t.0, t.1)
refuses m id s out' p r (Some q) t h e = absurd (h t.0)

pub refusal_shown : (m : List ℕ) (id s : ℕ) (out' : List ℕ) (p r : Page) → Tells (asked m id Parent) (replicate 7 0) s out' → (s ≡ 0 → ⊥)
    → r ≡ answer_on p (answer_in s (told_in out')) → r ≡ shown_on p m id
unfolding shown_on ask_plugin answered
refusal_shown m id s out' p r = refuses m id s out' p r (lookup (view m) id)
