-- What the console says, and what an output holds of it.
use Rattle.std.specs.Prelude.{ℕ, ◌≡◌, ◌+◌, ◌-◌, ◌^◌, ◌<◌, ◌≤◌, Bool, true, false, List, [], ◌∷◌, ◌++◌, length, take, drop, get_or, replicate, refl, ◌⊎◌, Result, Ok, Err, IsOk, OnOk}
use Rattle.std.proofs.Common.{subst, ap, ◌∙◌, sym, append_assoc, length-append, arith}
use Rattle.std.specs.declared.option.Option.{Option}
use Rattle.std.specs.Io.KnownBytes.{Appends, Consumes, IsAtEnd}
use Rattle.std.proofs.Math.Logic.{⊎_elim}
use Rattle.std.proofs.KnownBytes.{Appends-nil, Appends-trans, Consumes-nil, Consumes-trans}
use native.Mathlib.Numerals.{add-one}
use lib.ListN.{drop_of_length-le}
use lib.Seq.{drop-cons}
use Rattle.rules.specs.Slot.{Slot, pending}
use Rattle.memory.specs.Layout.{memory_words}
use Rattle.demands.specs.Starts.{blank}
use Rattle.console_words.specs.Bytes.{longest}
use Rattle.console_answer.specs.Pages.{text_room}
use Rattle.replay.specs.declared.text.Due.{Due}
use Rattle.replay.specs.declared.output.Output.{Output}
use Rattle.replay.specs.Fed.{Kept, kept, due_of, byte_fed, fed}
use Rattle.replay.specs.Said.{Says, byte_said, said, buffer_room, start, end_said, FeedsSome, Answers}

module _ {W : Type 0} (contents : W → Option (List ℕ)) where
  pub says_none : (o : Output W) → Says contents o o []
  says_none o = λ h. (h, Appends-nil (contents o.to))

  pub says_both : (a b c : Output W) (x y : List ℕ) → Says contents a b x → Says contents b c y → Says contents a c (x ++ y)
  says_both a b c x y f g = λ h.
      let (k, q) = g h in
      let (j, p) = f k in
      (j, Appends-trans (contents a.to) (contents b.to) (contents c.to) x y p q)

module _ (k : Kept) (part : List ℕ) (i : ℕ) where
  pub said_next : i < length part
      → said k (drop i part) ≡ byte_said k (get_or part i 0) ++ said (byte_fed k (get_or part i 0)) (drop (i + 1) part)
  unfolding said
  said_next h = rw (add-one i, drop-cons part i 0 h)

  pub said_end : length part ≤ i → said k (drop i part) ≡ []
  unfolding said
  said_end h = rw (drop_of_length-le part h)

pub fed_both : (k : Kept) (x y : List ℕ) → fed k (x ++ y) ≡ fed (fed k x) y
unfolding fed
fed_both k [] y = refl
fed_both k (b ∷ x) y = fed_both (byte_fed k b) x y

pub said_both : (k : Kept) (x y : List ℕ) → said k (x ++ y) ≡ said k x ++ said (fed k x) y
unfolding said fed
said_both k [] y = refl
said_both k (b ∷ x) y = ap (λ (l : List ℕ). byte_said k b ++ l) (said_both (byte_fed k b) x y)
    ∙ sym (append_assoc (byte_said k b) (said (byte_fed k b) x) (said (fed (byte_fed k b) x) y))

pub begun : (m : List ℕ) (s : Slot) (d : Due) → m ≡ blank (replicate memory_words 0) 0 0 → s ≡ pending 0 0 0 → d ≡ due_of 0 0 0
    → kept m (replicate buffer_room 0) s (replicate longest 0) 0 (replicate text_room 0) d ≡ start
begun m s d e f g = rw (e, f, g)

-- The turns of a run, before the one that is next: some bytes were read and fed, and what is said of them is written. While there
-- is more, each turn read a byte at least.
pub record Going {R W : Type 0} (remaining : R → Option (List ℕ)) (contents : W → Option (List ℕ))
    (input input' : R) (output output' : Output W) (k : Kept) (more : Bool) (turns : ℕ) : Type 0 where
  pub bytes : List ℕ
  pub read : Consumes (remaining input) (remaining input') bytes
  pub keeps : k ≡ fed start bytes
  pub says : Says contents output output' (said start bytes)
  pub some : more ≡ true → 2 ^ 64 - 1 ≤ turns + length bytes
  pub none : more ≡ false → IsAtEnd (remaining input')

module _ {R W : Type 0} (remaining : R → Option (List ℕ)) (contents : W → Option (List ℕ)) where
  pub feeds_none : (i i' : R) (o : Output W) (k : Kept) (n : ℕ) (l : List ℕ) → n ≡ 0 → Consumes (remaining i) (remaining i') (take n l) → IsAtEnd (remaining i')
      → FeedsSome remaining contents i i' o o k k false
  unfolding fed said
  feeds_none i i' o k n l e read end = record {
    bytes = [];
    read = subst (λ (j : ℕ). Consumes (remaining i) (remaining i') (take j l)) e read;
    keeps = refl;
    says = says_none contents o;
    some = λ h. absurd (no_more h);
    none = λ h. end;
  }
    where
      no_more : false ≡ true → ⊥
      no_more h = cc

  pub goes : (input : R) (output : Output W) (k : Kept) → k ≡ start → Going remaining contents input input output output k true (2 ^ 64 - 1)
  unfolding fed said
  goes input output k e = record {
    bytes = [];
    read = Consumes-nil (remaining input);
    keeps = e;
    says = says_none contents output;
    some = λ h. omega arith;
    none = λ h. cc;
  }

  pub goes_on : (i i' i'' : R) (o o' o'' : Output W) (k k' : Kept) (more more' : Bool) (turns turns' : ℕ)
      → Going remaining contents i i' o o' k more turns → more ≡ true → turns' + 1 ≡ turns
      → FeedsSome remaining contents i' i'' o' o'' k k' more'
      → Going remaining contents i i'' o o'' k' more' turns'
  goes_on i i' i'' o o' o'' k k' more more' turns turns' h is less f = record {
    bytes = h.bytes ++ f.bytes;
    read = Consumes-trans (remaining i) (remaining i') (remaining i'') h.bytes f.bytes h.read f.read;
    keeps = f.keeps ∙ ap (λ (q : Kept). fed q f.bytes) h.keeps ∙ sym (fed_both start h.bytes f.bytes);
    says = subst (λ (l : List ℕ). Says contents o o'' l)
        (ap (λ (q : Kept). said start h.bytes ++ said q f.bytes) h.keeps ∙ sym (said_both start h.bytes f.bytes))
        (says_both contents o o' o'' (said start h.bytes) (said k f.bytes) h.says f.says);
    some = λ j.
        let all = h.some is in
        let one = f.some j in
        omega (arith, all, one, less, length-append h.bytes f.bytes);
    none = f.none;
  }

  -- At the input's end the rest is said, and all that was said is written, unless a write failed.
  pub answers : (i i' : R) (o o' o'' : Output W) (k : Kept) (more : Bool) (turns : ℕ) → Going remaining contents i i' o o' k more turns
      → (more ≡ false) ⊎ (turns ≡ 0) → Says contents o' o'' (end_said k)
      → OnOk o''.written (Answers (remaining i) (remaining i') (contents o.to) (contents o''.to))
  answers i i' o o' o'' k more turns h exit last = on_ok o''.written λ good. record {
    bytes = h.bytes;
    read = h.read;
    whole = λ few. ⊎_elim h.none (λ z. at_last more refl few z) exit;
    written = subst (λ (l : List ℕ). Appends (contents o.to) (contents o''.to) l)
        (ap (λ (q : Kept). said start h.bytes ++ end_said q) h.keeps)
        (says_both contents o o' o'' (said start h.bytes) (end_said k) h.says last good).1;
  }
    where
      on_ok : {T E P : Type 0} (r : Result T E) → (IsOk r → P) → OnOk r P
      on_ok (Ok x) f = f refl
      on_ok (Err e) f = tt

      at_last : (b : Bool) → more ≡ b → length h.bytes < 2 ^ 64 - 1 → turns ≡ 0 → IsAtEnd (remaining i')
      at_last true e few z =
          let all = h.some e in
          absurd (omega (arith, all, few, z))
      at_last false e few z = h.none e
