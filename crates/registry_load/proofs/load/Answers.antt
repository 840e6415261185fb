-- The answer and the words by what the text says.
use Rattle.std.proofs.Common.{refl, ◌∙◌}
use Rattle.std.proofs.lemmas.Result.{err_from_is_err_and}
use Rattle.memory_load.specs.Loading.{zeros}
use Rattle.registry_load.specs.Whole.{bad_text, load_bad, load_same, load_good}
use Rattle.registry_load.proofs.load.Goals as goal

pub read-requires : goal.read-requires
unfolding zeros
read-requires c = refl

pub returns-in_err-own : goal.returns-in_err-own
returns-in_err-own c =
    let a = c.args in
    let p = err_from_is_err_and c.from_residual.result c.from_residual.ensures.1 in
    let none = c.in_err-own.ensures in
    rw (p.1, p.2, bad_text _ _ none.value) (load_bad a.text.now a.domain a.m.now c.read.ensures none.ok_part)

pub returns-then-same : goal.returns-then-same
returns-then-same c =
    let a = c.args in
    load_same a.text.now a.domain a.m.now c.read.ensures c.in_ok-own.ensures.ok_part c.if-same.true

pub returns : goal.returns
returns c =
    let a = c.args in
    let done = load_good a.text.now a.domain a.m.now c.read.ensures c.in_ok-own.ensures.ok_part c.if-same.false in
    (done.0, c.copy_words.ensures ∙ done.1)
