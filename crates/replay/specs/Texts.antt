-- The bytes right behind the line of a load are its text, whatever they are: as many as it says, or what there is of them.
use Prim.Native.Nat.{ℕ, suc, ◌+◌, ◌≤◌, ◌<◌}
use native.Mathlib.Omega.{arith}
use Rattle.std.specs.Prelude.{◌≡◌, refl, false, eqb, ltb, drop, set, Option, Some}
use Rattle.std.proofs.Common.{sym, ◌∙◌, length-append, eqb-true, lt-ltb, le-ltb, ltb-false}
use Rattle.std.proofs.Math.Path.{ap}
use mathlib.Core.List.{List, [], ◌∷◌, ◌++◌, append_assoc, append-nil}
use Rattle.std.proofs.Math.ListN.{length, take}
use Rattle.std.proofs.Math.Seq.{take-append_seam}
use Rattle.std.proofs.lemmas.Bool.{eqb-false}
use Rattle.rules.specs.Basics.{pick}
use Rattle.rules.specs.Slot.{Slot}
use Rattle.rules_laws.specs.Laws.Tests.{by_test}
use Rattle.console_answer.specs.Pages.{empty_page, text_room}
use Rattle.console_line.specs.Console.{After}
use Rattle.console_load.specs.declared.Awaited.{Awaited}
use Rattle.console_load.specs.Awaited.{text as text_awaited, awaited}
use Rattle.console_load.specs.Loaded.{load_ended}
use Rattle.console_load.specs.Silent.{unchanged, says_nothing}
use Rattle.replay.specs.Fed.{due_of, awaiting, whole_text, begun_text, longer_text}
use Rattle.replay.specs.Fed.{Kept, kept, left, end_line, byte_fed, fed, cut_off, input_ended}

-- The text's room when these bytes came behind so many.
unfoldable pub room_after : List ℕ → ℕ → List ℕ → List ℕ
room_after text came [] = text
room_after text came (x ∷ t) = room_after (longer_text text came x) (came + 1) t

-- a byte behind those that came
stored : (a r : List ℕ) (x : ℕ) → 0 < length r → set (a ++ r) (length a) x ≡ (a ++ x ∷ []) ++ drop 1 r
stored [] [] x h = absurd (omega arith)
stored [] (b ∷ r) x h = refl
stored (c ∷ a) r x h = ap (λ (l : List ℕ). c ∷ l) (stored a r x h)

in_room : (t a r : List ℕ) → length a + length t ≤ text_room → length t ≤ length r → room_after (a ++ r) (length a) t ≡ (a ++ t) ++ drop (length t) r
unfolding room_after
in_room [] a r h k = ap (λ (l : List ℕ). l ++ r) (sym (append-nil a))
in_room (x ∷ t) a [] h k = absurd (omega arith)
in_room (x ∷ t) a (b ∷ r) h k =
    let n : length (a ++ x ∷ []) ≡ length a + 1 = length-append a (x ∷ []) in
    let s : longer_text (a ++ b ∷ r) (length a) x ≡ (a ++ x ∷ []) ++ r = rw (lt-ltb (length a) text_room (omega arith)) (stored a (b ∷ r) x (omega arith)) in
    ap (λ (l : List ℕ). room_after l (length a + 1) t) s ∙ ap (λ (i : ℕ). room_after ((a ++ x ∷ []) ++ r) i t) (sym n)
    ∙ in_room t (a ++ x ∷ []) r (omega arith) (omega arith) ∙ ap (λ (l : List ℕ). l ++ drop (length t) r) (append_assoc a (x ∷ []) t)

-- The first bytes of the room are those that came.
front_came : (t text : List ℕ) → length t ≤ text_room → length text ≡ text_room → take (length t) (room_after text 0 t) ≡ t
front_came t text h e = ap (take (length t)) (in_room t [] text (omega arith) (omega arith)) ∙ take-append_seam t (drop (length t) text)

module _ (m buffer : List ℕ) (s : Slot) (line : List ℕ) (domain n : ℕ) where
  -- a text of n bytes of which so many came
  abbrev expecting : List ℕ → ℕ → Kept
  expecting text came = kept m buffer s line 0 text (due_of domain n came)

  -- and one that is at its end
  abbrev over : List ℕ → ℕ → Kept
  over text came = kept (load_ended empty_page m domain n (take came text)).memory buffer s line 0 text (due_of 0 0 0)

  next : (text : List ℕ) (came x : ℕ) → came + 1 < n → byte_fed (expecting text came) x ≡ expecting (longer_text text came x) (came + 1)
  next text came x h = rw (lt-ltb came n (omega arith), lt-ltb (came + 1) n h)

  last : (text : List ℕ) (came x : ℕ) → came + 1 ≡ n → byte_fed (expecting text came) x ≡ over (longer_text text came x) (came + 1)
  last text came x h = rw (lt-ltb came n (omega arith), le-ltb (came + 1) n (omega arith))

  part_fed : (t text : List ℕ) (came : ℕ) → came + length t < n → fed (expecting text came) t ≡ expecting (room_after text came t) (came + length t)
  unfolding fed room_after
  part_fed [] text came h =
      let e : came ≡ came + 0 = omega arith in
      ap (expecting text) e
  part_fed (x ∷ t) text came h =
      let e : came + 1 + length t ≡ came + suc (length t) = omega arith in
      ap (λ (k : Kept). fed k t) (next text came x (omega arith)) ∙ part_fed t (longer_text text came x) (came + 1) (omega arith)
      ∙ ap (expecting (room_after (longer_text text came x) (came + 1) t)) e

  all_fed : (t text : List ℕ) (came : ℕ) → 0 < length t → came + length t ≡ n → fed (expecting text came) t ≡ over (room_after text came t) n
  unfolding fed room_after
  all_fed [] text came h e = absurd (omega arith)
  all_fed (x ∷ []) text came h e =
      let f : came + 1 ≡ n = omega arith in
      last text came x f ∙ ap (over (longer_text text came x)) f
  all_fed (x ∷ y ∷ t) text came h e =
      ap (λ (k : Kept). fed k (y ∷ t)) (next text came x (omega arith)) ∙ all_fed (y ∷ t) (longer_text text came x) (came + 1) (omega arith) (omega arith)

  -- the input ends first
  cut : (text : List ℕ) (came : ℕ) → came < n → cut_off (expecting text came) ≡ over text came
  cut text came h = rw (lt-ltb came n h)

  input_cut : (text : List ℕ) (came : ℕ) → came < n → input_ended (expecting text came) ≡ over text came
  input_cut text came h =
      let k = expecting text came in
      let e : pick (awaiting k.due) k (end_line k) ≡ k = rw (lt-ltb came n h) in
      ap cut_off e ∙ cut text came h

-- What a load leaves of all that is kept when its text has ended: the memory is what the load of these bytes leaves, the rest
-- stays, and the next byte is a line's first.
pub record Loads (k : Kept) (domain n : ℕ) (t : List ℕ) (q : Kept) : Type 0 where
  pub memory : q.memory ≡ (load_ended empty_page k.memory domain n t).memory
  pub buffer : q.buffer ≡ k.buffer
  pub slot : q.slot ≡ k.slot
  pub line : q.line ≡ k.line
  pub filled : q.filled ≡ 0
  pub due : q.due ≡ due_of 0 0 0

-- of a text that is too long no byte counts
same_load : (m text t : List ℕ) (domain n : ℕ) → (n ≤ text_room → text ≡ t)
    → (load_ended empty_page m domain n text).memory ≡ (load_ended empty_page m domain n t).memory
unfolding load_ended
same_load m text t domain n h =
    by_test (ltb text_room n) (λ y. rw y)
    (λ f. ap (λ (l : List ℕ). (load_ended empty_page m domain n l).memory) (h (ltb-false text_room n f)))

module _ (k : Kept) (domain : ℕ) (idle : awaiting k.due ≡ false) where
  over_loads : (n : ℕ) (text t : List ℕ) (came : ℕ) → (n ≤ text_room → take came text ≡ t)
      → (q : Kept) → q ≡ over k.memory k.buffer k.slot k.line domain n text came → Loads k domain n t q
  over_loads n text t came h q e = rw e (record {
    memory = same_load k.memory (take came text) t domain n h;
    buffer = refl;
    slot = refl;
    line = refl;
    filled = refl;
    due = refl;
  })

  module _ (n : ℕ) (line : awaited k.line k.filled ≡ Some (text_awaited domain n)) where
    begins : end_line k
        ≡ left k (unchanged empty_page k.memory k.buffer k.slot) (whole_text k.memory k.text (due_of domain n 0))
    begins =
        ap (λ (a : After). left k a (begun_text (awaited k.line k.filled) a.memory k.text k.due))
        (says_nothing empty_page k.memory k.buffer k.slot domain n k.line k.filled line)
        ∙ ap (λ (w : Option Awaited). left k (unchanged empty_page k.memory k.buffer k.slot)
        (begun_text w k.memory k.text k.due)) line

    ten : byte_fed k 10 ≡ end_line k
    ten = rw idle

    at_end : input_ended k ≡ cut_off (end_line k)
    at_end = rw idle

    none_due : n ≡ 0 → end_line k ≡ over k.memory k.buffer k.slot k.line domain n k.text 0
    none_due z = begins ∙ rw (le-ltb 0 n (omega arith))

    some_due : 0 < n → end_line k ≡ expecting k.memory k.buffer k.slot k.line domain n k.text 0
    some_due h = begins ∙ rw (lt-ltb 0 n h)

    starts : (t : List ℕ) → 0 < n → fed k (10 ∷ t) ≡ fed (expecting k.memory k.buffer k.slot k.line domain n k.text 0) t
    unfolding fed
    starts t h = ap (λ (q : Kept). fed q t) (ten ∙ some_due h)

    -- The input ends with the line: the text is empty.
    pub line_cut : Loads k domain n [] (input_ended k)
    line_cut =
        over_loads n k.text [] 0 (λ h. refl) (input_ended k)
        (at_end ∙ by_test (eqb n 0)
        (λ y. let e = none_due (eqb-true n 0 y) in ap cut_off e)
        (λ f. let h = eqb-false n 0 f in
        ap cut_off (some_due (omega arith)) ∙ cut k.memory k.buffer k.slot k.line domain n k.text 0 (omega arith)))

    -- The input ends in the text: it is what there is.
    pub text_cut : (t : List ℕ) → length k.text ≡ text_room → length t < n → Loads k domain n t (input_ended (fed k (10 ∷ t)))
    text_cut t room h =
        let z : 0 + length t ≡ length t = omega arith in
        let fed-all = starts t (omega arith) ∙ part_fed k.memory k.buffer k.slot k.line domain n t k.text 0 (omega arith)
        ∙ ap (expecting k.memory k.buffer k.slot k.line domain n (room_after k.text 0 t)) z in
        over_loads n (room_after k.text 0 t) t (length t) (λ f. front_came t k.text (omega arith) room) (input_ended (fed k (10 ∷ t)))
        (ap input_ended fed-all ∙ input_cut k.memory k.buffer k.slot k.line domain n (room_after k.text 0 t) (length t) h)

    -- As many bytes as the line says are the text.
    pub text_whole : (t : List ℕ) → length k.text ≡ text_room → length t ≡ n → Loads k domain n t (fed k (10 ∷ t))
    unfolding fed
    text_whole [] room e = over_loads n k.text [] 0 (λ h. refl) (fed k (10 ∷ [])) (ten ∙ none_due (sym e))
    text_whole (x ∷ t) room e =
        let l = x ∷ t in
        over_loads n (room_after k.text 0 l) l n
        (λ f. ap (λ (i : ℕ). take i (room_after k.text 0 l)) (sym e) ∙ front_came l k.text (omega arith) room) (fed k (10 ∷ l))
        (starts l (omega arith) ∙ all_fed k.memory k.buffer k.slot k.line domain n l k.text 0 (omega arith) (omega arith))
