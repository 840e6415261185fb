-- The mask's trailing ones are the provisions before the first without a value.
use Rattle.std.proofs.Common.{◌%◌}
use Rattle.memory.specs.Layout.{places}
use Rattle.memory_places.specs.Bits.{zeros_fit}
use Rattle.memory_values.proofs.Laws.{lack_here, lack_none}
use Rattle.memory_values.proofs.first_lacking.Goals as goal

pub overflow_cast-j : goal.overflow_cast-j
overflow_cast-j c = record { fits = zeros_fit _ }

pub returns-then-j-words : goal.returns-then-j-words
returns-then-j-words c =
    let a = c.args in
    lack_here a.m.now (a.place % places) _ c.provision_words-words.ensures c.if-j-words.true

pub returns-else-j-words : goal.returns-else-j-words
returns-else-j-words c =
    let a = c.args in
    lack_none a.m.now (a.place % places) _ c.provision_words-words.ensures c.if-j-words.false
