-- What admission and call take and answer in document 01's numbers.
use Rattle.std.specs.Prelude.{ℕ, ◌%◌, ◌≡◌, refl, Bool, true, false, List, [], ◌∷◌, Result, Ok, Err, Some}
use Rattle.rules.specs.Basics.{yes_no}
use Rattle.rules.specs.Holds.{Queued, with_root}
use Rattle.rules.specs.Refusals.{Refusal}
use Rattle.rules.specs.Outcomes.{Answer, Accepted, refuses, stores}
use Rattle.rules.specs.Answers.{answered, answered_exact}
use Rattle.rules.specs.Admission as rules
use Rattle.rules.specs.Admission.{five}
use Rattle.memory.specs.Layout.{places}
use Rattle.memory.specs.View.{life_at, plugin_at, view}
use Rattle.memory.specs.Writes.{find_at}
use Rattle.memory.specs.declared.Life.{Life}
use Rattle.registry_table.specs.declared.Ticket.{Ticket}
use Rattle.registry_live.specs.declared.Invocation.{Invocation}
use Rattle.registry_live.specs.Lives.{invocation_of}
use Rattle.registry_admit.specs.declared.Receipt.{Receipt}

-- the rules' ticket and invocation of their numbers
abbrev pub ticket : ℕ → ℕ → ℕ → ℕ → rules.Ticket
ticket domain id generation kind = record { domain = domain; id = id; generation = generation; kind = kind }

abbrev pub invocation : ℕ → ℕ → ℕ → ℕ → ℕ → rules.Invocation
invocation domain id generation revision argument =
    record { domain = domain; id = id; generation = generation; revision = revision; argument = argument }

-- and the rules' ticket of the code's
abbrev pub ticket_of : Ticket → rules.Ticket
ticket_of t = ticket t.domain t.id t.generation t.kind

-- the invocation that a ticket gets with an argument
abbrev pub given : rules.Ticket → Life → ℕ → rules.Invocation
given t l a = invocation t.domain t.id t.generation l.revision a

-- What asking says: where the ticket is admitted and that plugin's life, with what admission comes to whatever the argument; or the refusal.
abbrev pub Asked : List ℕ → rules.Ticket → Result (ℕ × Life) Refusal → Type 0
Asked m t (Ok x) =
    (find_at m t.id ≡ Some x.0)
    × (x.1 ≡ life_at m (x.0 % places))
    × ((a : ℕ) → rules.admit (view m) t a ≡ stores (with_root (Queued x.1.revision a) (plugin_at m x.0)) (five (given t x.1 a)))
Asked m t (Err x) = (a : ℕ) → rules.admit (view m) t a ≡ refuses x []

abbrev pub admitted_answer : Result Invocation Refusal → Answer
admitted_answer r = answered (λ (t : Invocation). five (invocation_of t)) r

abbrev pub admits_answer : Bool → Answer
admits_answer b = Accepted (yes_no b ∷ [])

abbrev pub receipt_numbers : Receipt → List ℕ
receipt_numbers t = t.domain ∷ t.id ∷ t.generation ∷ t.request ∷ t.payload ∷ t.argument ∷ []

abbrev pub called_answer : Result Receipt Refusal → Answer
called_answer r = answered receipt_numbers r

-- Any two outcomes that such a promise allows are equal.
five_exact : (x y : Invocation) → five (invocation_of x) ≡ five (invocation_of y) → x ≡ y
five_exact x y e =
    let d : x.domain ≡ y.domain = cc in
    let i : x.id ≡ y.id = cc in
    let g : x.generation ≡ y.generation = cc in
    let v : x.revision ≡ y.revision = cc in
    let a : x.argument ≡ y.argument = cc in
    λ k. record { domain = d k; id = i k; generation = g k; revision = v k; argument = a k }

receipt_exact : (x y : Receipt) → receipt_numbers x ≡ receipt_numbers y → x ≡ y
receipt_exact x y e =
    let d : x.domain ≡ y.domain = cc in
    let i : x.id ≡ y.id = cc in
    let g : x.generation ≡ y.generation = cc in
    let q : x.request ≡ y.request = cc in
    let p : x.payload ≡ y.payload = cc in
    let a : x.argument ≡ y.argument = cc in
    λ k. record { domain = d k; id = i k; generation = g k; request = q k; payload = p k; argument = a k }

pub admitted_exact : (a b : Result Invocation Refusal) → admitted_answer a ≡ admitted_answer b → a ≡ b
admitted_exact a b e = answered_exact _ five_exact a b e

pub admits_exact : (a b : Bool) → admits_answer a ≡ admits_answer b → a ≡ b
admits_exact true true e = refl
admits_exact true false e = cc
admits_exact false true e = cc
admits_exact false false e = refl

pub called_exact : (a b : Result Receipt Refusal) → called_answer a ≡ called_answer b → a ≡ b
called_exact a b e = answered_exact _ receipt_exact a b e
