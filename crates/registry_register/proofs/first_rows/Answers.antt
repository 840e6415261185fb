-- `first_rows` meets its contract: where there are fewer rows, all of them are the first ones.
use Rattle.registry_register.proofs.Laws.{all_rows}
use Rattle.registry_register.proofs.first_rows.Goals as goal

pub returns-then-fewer : goal.returns-then-fewer
returns-then-fewer c =
    let a = c.args in
    all_rows a.ports.now a.count c.if-fewer.true
