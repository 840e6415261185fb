-- `life` meets its contract: each of the five fields is told in seven words and put behind the last.
use Rattle.std.proofs.Common.{refl}
use Rattle.rules.specs.Queries.{PhaseOf, RetiredMark, Generation, Revision, Payload}
use Rattle.console_show.proofs.Fields.{length_told, field_said, life_said}
use Rattle.console_show.proofs.life.Goals as goal

pub returns : goal.returns
returns c =
    let m = c.args.m.now in
    let id = c.args.id in
    let k = c.requires in
    let l1 = length_told m id k PhaseOf _ _ _ refl c.vaskelbi_phase.ensures in
    let l2 = length_told m id k RetiredMark _ _ _ l1 c.vaskelbi_retired.ensures in
    let l3 = length_told m id k Generation _ _ _ l2 c.vaskelbi_generation.ensures in
    let l4 = length_told m id k Revision _ _ _ l3 c.vaskelbi_revision.ensures in
    life_said m id k _ _ _ _ _ _
    (field_said m id k PhaseOf _ _ _ refl c.vaskelbi_phase.ensures _ _ c.answer.ensures)
    (field_said m id k RetiredMark _ _ _ l1 c.vaskelbi_retired.ensures _ _ c.answer-2.ensures)
    (field_said m id k Generation _ _ _ l2 c.vaskelbi_generation.ensures _ _ c.answer-3.ensures)
    (field_said m id k Revision _ _ _ l3 c.vaskelbi_revision.ensures _ _ c.answer-4.ensures)
    (field_said m id k Payload _ _ _ l4 c.vaskelbi_payload.ensures _ _ c.answer-5.ensures)
