-- `row_at` meets its contract.
use Rattle.std.proofs.Common.{eq-eqb, ne_eqb}
use Rattle.registry_cycles.proofs.Rows.{row_among, row_apart}
use Rattle.registry_cycles.proofs.row_at.Goals as goal

pub returns-then-among-place-eq1 : goal.returns-then-among-place-eq1
returns-then-among-place-eq1 c = row_among _ _ _ c.requires (eq-eqb _ _ c.if-among-place-eq1.true) _ c.dependency_words.ensures _ c.row_of.ensures

pub returns-else-among-place-eq1 : goal.returns-else-among-place-eq1
returns-else-among-place-eq1 c =
    let a = c.args in
    row_apart a.index.now.memory.now a.among a.place c.requires (ne_eqb _ _ c.if-among-place-eq1.false)
