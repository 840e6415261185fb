-- `fill_place` meets its contract: a start or a list too large changes nothing, else each step is the definition's, in its order.
use Rattle.std.proofs.Common.{◌%◌}
use Rattle.memory.specs.Layout.{places}
use Rattle.memory_entry.proofs.Laws.{fill_steps, fill_not, fill_long}
use Rattle.memory_entry.proofs.fill_place.Goals as goal

pub returns-then-start-gt-ROWS : goal.returns-then-start-gt-ROWS
returns-then-start-gt-ROWS c =
    let a = c.args in
    fill_not a.m.now (a.place % places) a.e a.dependencies.now a.claims.now a.realms.now c.if-start-gt-ROWS.true

pub returns-then-dependencies-gt-LIST_WORDS : goal.returns-then-dependencies-gt-LIST_WORDS
returns-then-dependencies-gt-LIST_WORDS c =
    let a = c.args in
    fill_long a.m.now (a.place % places) a.e a.dependencies.now a.claims.now a.realms.now c.if-start-gt-ROWS.false c.if-dependencies-gt-LIST_WORDS.true

pub returns : goal.returns
returns c =
    let a = c.args in
    fill_steps a.m.now _ _ _ _ _ (a.place % places) a.e a.dependencies.now a.claims.now a.realms.now
    c.if-start-gt-ROWS.false
    c.if-dependencies-gt-LIST_WORDS.false
    c.put_words.ensures
    c.put_words-2.ensures
    c.put_realms.ensures
    c.store_entry.ensures
    c.occupy.ensures
