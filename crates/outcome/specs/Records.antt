-- Any two outcomes of which such a record speaks are equal: the answer, then each lent memory in the order of the parameters.
use Rattle.std.specs.Prelude.{ℕ, ◌≡◌, refl, List, Option, Result}
use Rattle.slot_child.specs.Slots.{slot_of}
use Rattle.slot_child.specs.declared.Slot.{Slot}
use Rattle.slot_child.specs.Exact.{slot_exact}
use Rattle.text_form.specs.Digits.{Written}
use Rattle.text_lines.specs.Laid.{Laid}
use Rattle.console_words.specs.Words.{Spanned}
use Rattle.console_words.specs.Runs.{Numbers, Gathered}
use Rattle.console_words.specs.declared.Span.{Span}
use Rattle.console_words.specs.declared.Run.{Run}
use Rattle.console_names.specs.Behind.{Numbered}
use Rattle.console_definition.specs.Found.{Behind, Three}
use Rattle.console_definition.specs.declared.Lists.{Lists}
use Rattle.console_answer.specs.declared.Page.{Page}
use Rattle.console_slot.specs.Lines.{SlotAfter, LeavesSlot}
use Rattle.console_line.specs.declared.Console.{Console}
use Rattle.console_line.specs.Console.{After, Leaves}
use Rattle.outcome.specs.Equations.{by_equation}

-- Digits, and their count.
pub written_one : {k r s : ℕ} {before o n : List ℕ} → Written k r before o → Written k s before n → (r ≡ s) × (o ≡ n)
written_one p q = (by_equation p.count q.count, by_equation p.bytes q.bytes)

-- Bytes at a place of a text, and the place behind them.
pub laid_one : {l before o n : List ℕ} {at r s : ℕ} → Laid l at before o r → Laid l at before n s → (r ≡ s) × (o ≡ n)
laid_one p q = (by_equation p.place q.place, by_equation p.text q.text)

-- A word's place in a line.
pub spanned_one : {line : List ℕ} {from : ℕ} {r s : Span} → Spanned line from r → Spanned line from s → r ≡ s
spanned_one p q = by_equation p.word q.word

-- Numbers at the front of an array, how many, and where they stop.
pub gathered_one : {line : List ℕ} {from : ℕ} {before o n : List ℕ} {r s : Run}
    → Gathered line from before o r → Gathered line from before n s → (r ≡ s) × (o ≡ n)
gathered_one p q =
    let c = by_equation p.count q.count in
    let e = by_equation p.stop q.stop in
    (λ i. record { count = c i; stop = e i }, by_equation p.numbers q.numbers)

-- Numbers at the front of an array, and how many, also where another word stands behind them.
pub numbered_one : {line : List ℕ} {from : ℕ} {before o n : List ℕ} {r s : Result ℕ ℕ}
    → Numbered line from before o r → Numbered line from before n s → (r ≡ s) × (o ≡ n)
numbered_one p q = (by_equation p.count q.count, by_equation p.numbers q.numbers)

-- A list behind its word, or none.
pub behind_one : {size : ℕ} {l : Option Numbers} {a x u : List ℕ} {r s : Result Run Run} → Behind size l a x r → Behind size l a u s → (r ≡ s) × (x ≡ u)
behind_one p q = (by_equation p.list q.list, by_equation p.numbers q.numbers)

-- Three such lists, or what there is of them.
pub three_one : {line : List ℕ} {from : ℕ} {a x u b y v c z w : List ℕ} {r s : Result Lists Lists}
    → Three line from a x b y c z r → Three line from a u b v c w s → (r ≡ s) × ((x ≡ u) × ((y ≡ v) × (z ≡ w)))
three_one p q =
    (by_equation p.found q.found, (by_equation p.realms q.realms, (by_equation p.deps q.deps, by_equation p.provs q.provs)))

-- A slot's line: the page, and the slot.
pub leaves_slot_one : {t : SlotAfter} {o n : Page} {r s : Slot}
    → LeavesSlot t o (slot_of r) → LeavesSlot t n (slot_of s) → (r ≡ s) × (o ≡ n)
leaves_slot_one {r = r} {s = s} p q = (slot_exact r s (by_equation p.1 q.1), by_equation p.0 q.0)

-- A line of the console: the console with its words, buffer and slot, and the page.
pub leaves_one : {x : After} {o n : Page} {c d : Console} {r s : Unit {0}}
    → Leaves x o c → Leaves x n d → (r ≡ s) × ((c ≡ d) × (o ≡ n))
leaves_one {c = c} {d = d} p q =
    let m = by_equation p.1 q.1 in
    let b = by_equation p.2 q.2 in
    let e = slot_exact c.slot d.slot (by_equation p.3 q.3) in
    (refl, (λ i. record { memory = m i; buffer = b i; slot = e i }, by_equation p.0 q.0))

-- A load of the console: the memory, and the page.
pub ends_one : {x : Page} {y : List ℕ} {r s : Unit {0}} {o n : Page} {m m' : List ℕ} → (o ≡ x) × (m ≡ y) → (n ≡ x) × (m' ≡ y)
    → (r ≡ s) × ((m ≡ m') × (o ≡ n))
ends_one p q = (refl, (by_equation p.1 q.1, by_equation p.0 q.0))
