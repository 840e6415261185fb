-- What is handed on is what stands in front of the lent words.
use Rattle.std.proofs.Common.{◌%◌, arith, refl}
use Rattle.memory.specs.Layout.{places}
use Rattle.registry_block.specs.Joins.{put_by}
use Rattle.registry_block.proofs.put.Goals as goal

pub overflow_add-result : goal.overflow_add-result
overflow_add-result c = omega (arith, c.requires.room)

pub overflow_add-result-2 : goal.overflow_add-result-2
overflow_add-result-2 c = omega (arith, c.requires.room)

pub overflow_add-result-3 : goal.overflow_add-result-3
overflow_add-result-3 c = omega (arith, c.requires.room)

pub overflow_add-result-4 : goal.overflow_add-result-4
overflow_add-result-4 c = omega (arith, c.requires.issued)

pub returns : goal.returns
returns c =
    let a = c.args in (
      refl,
      put_by a.w.now a.b.now a.lists.now (a.place % places) a.rows a.next
          c.some_words-listed.ensures c.edition.ensures c.entry.ensures c.life.ensures c.rows.ensures
          c.some_words.ensures c.some_words-2.ensures c.some_words-3.ensures c.load_place.ensures,
    )
