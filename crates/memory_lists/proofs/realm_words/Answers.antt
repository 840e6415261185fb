-- `realm_words` meets its contract.
use Rattle.std.proofs.Common.{◌%◌}
use Rattle.memory.specs.Layout.{places}
use Rattle.memory_lists.proofs.Lists.{realm_words_lem}
use Rattle.memory_lists.proofs.realm_words.Goals as goal

pub returns : goal.returns
returns c =
    let a = c.args in
    realm_words_lem a.m.now _ (a.place % places) _ c.realm_rows.ensures c.some_words.ensures
