-- Two answers that say the same are equal, for the answers whose crates do not say so themselves.
use Rattle.std.specs.Prelude.{◌≡◌, refl, Result, Option, Some, None}
use Rattle.rules_types.specs.declared.Root.{Root}
use Rattle.rules_types.specs.declared.Root.TheVariants.{Unissued, Queued, Spent}
use Rattle.rules.specs.Refusals.{Refusal}
use Rattle.rules.specs.Answers.{answered_exact}
use Rattle.rules.specs.Queries.{root_numbers}
use Rattle.slot_child.specs.declared.Identity.{Identity}
use Rattle.registry_table.specs.declared.Ticket.{Ticket}
use Rattle.registry_queries.specs.Answers.{root_answer}
use Rattle.registry_retire.specs.Answers.{child_numbers, child_answer}
use Rattle.registry_steps.specs.Answers.{ticket_numbers, begun_answer}

children_exact : (a b : Option Identity) → child_numbers a ≡ child_numbers b → a ≡ b
children_exact (Some a) (Some b) e =
    let x : a.domain ≡ b.domain = cc in
    let y : a.parent ≡ b.parent = cc in
    let z : a.id ≡ b.id = cc in
    λ k. Some (record { domain = x k; parent = y k; id = z k })
children_exact (Some a) None e = cc
children_exact None (Some b) e = cc
children_exact None None e = refl

pub child_exact : (a b : Result (Option Identity) Refusal) → child_answer a ≡ child_answer b → a ≡ b
child_exact a b e = answered_exact child_numbers children_exact a b e

tickets_exact : (a b : Ticket) → ticket_numbers a ≡ ticket_numbers b → a ≡ b
tickets_exact a b e =
    let w : a.domain ≡ b.domain = cc in
    let x : a.id ≡ b.id = cc in
    let y : a.generation ≡ b.generation = cc in
    let z : a.kind ≡ b.kind = cc in
    λ j. record { domain = w j; id = x j; generation = y j; kind = z j }

pub begun_exact : (a b : Result Ticket Refusal) → begun_answer a ≡ begun_answer b → a ≡ b
begun_exact a b e = answered_exact ticket_numbers tickets_exact a b e

roots_exact : (r s : Root) → root_numbers r ≡ root_numbers s → r ≡ s
roots_exact Unissued Unissued e = refl
roots_exact Unissued (Queued v a) e = cc
roots_exact Unissued Spent e = cc
roots_exact (Queued v a) Unissued e = cc
roots_exact (Queued v a) (Queued w b) e =
    let x : v ≡ w = cc in
    let y : a ≡ b = cc in
    λ i. Queued (x i) (y i)
roots_exact (Queued v a) Spent e = cc
roots_exact Spent Unissued e = cc
roots_exact Spent (Queued v a) e = cc
roots_exact Spent Spent e = refl

pub root_exact : (a b : Result Root Refusal) → root_answer a ≡ root_answer b → a ≡ b
root_exact a b e = answered_exact root_numbers roots_exact a b e
