-- `decided` meets its contract. Assumes nothing.
use Rattle.std.proofs.lemmas.Result.{err_from_is_err_and}
use Rattle.slot_words.proofs.Laws.{taken, refused}
use Rattle.slot_words.proofs.decided.Goals as goal

pub returns-in_err-d : goal.returns-in_err-d
returns-in_err-d c =
    let p = err_from_is_err_and c.from_residual.result c.from_residual.ensures.1 in
    rw (p.1, p.2) (refused c.args.d _ _ c.in_err-d.was)

pub returns : goal.returns
returns c = taken c.args.d _ _ c.in_ok-d.was c.put_decision.ensures
