-- `root` meets its contract: a root told by one number has nothing queued, so `none` is put, and any other stands as told.
use Rattle.std.proofs.Common.{refl}
use Rattle.console_show.proofs.Fields.{none_queued, some_queued}
use Rattle.console_show.proofs.root.Goals as goal

pub returns-then-unqueued : goal.returns-then-unqueued
returns-then-unqueued c =
    none_queued c.args.m.now c.args.id c.requires _ _ _ _ _ refl c.vaskelbi_root-told.ensures c.answer.ensures _ c.if-unqueued.true
    c.put.ensures

pub returns-else-unqueued : goal.returns-else-unqueued
returns-else-unqueued c =
    some_queued c.args.m.now c.args.id c.requires _ _ _ _ _ refl c.vaskelbi_root-told.ensures c.answer.ensures c.if-unqueued.false
