-- `has_children` meets its contract: what is left to look at has a child where all places have one.
use Rattle.std.proofs.Common.{sym, ◌∙◌}
use Rattle.rules.specs.Retirement.{is_child_of}
use Rattle.memory_places.specs.Any.{any_plugins, any_end, any_free, any_here, any_never}
use Rattle.registry_remove.specs.Laws.{named}
use Rattle.registry_remove.proofs.has_children.Goals as goal
use Rattle.registry_remove.proofs.has_children.Goals.{else-is_child_of-via-then-is_child_of+else-is_taken, else-is_child_of-via-else-is_child_of}

pub loop-i-init : goal.loop-i-init
loop-i-init c = any_plugins (is_child_of c.args.id) c.args.m.now

pub returns-then-is_taken : goal.returns-then-is_taken
returns-then-is_taken c =
    let a = c.args in
    let h = c.loop-i-test.true in
    sym (c.loop-i.invariant ∙ any_here (is_child_of a.id) a.m.now c.loop-i.i h _ (sym c.is_taken.ensures ∙ c.if-is_taken.true)
    (named a.m.now a.id c.loop-i.i h _ c.is_child_of.ensures) c.if-is_child_of.true)

pub loop-i-preserved : goal.loop-i-preserved
loop-i-preserved c =
    let m = c.args.m.now in
    let id = c.args.id in
    let i = c.loop-i.i in
    let h = c.loop-i-test.true in
    c.loop-i.invariant
    ∙ elim c.else-is_child_of.branch [
      | else-is_child_of-via-then-is_child_of+else-is_taken w ↦ any_free (is_child_of id) m i h (sym w.is_taken.ensures ∙ w.if-is_taken.false)
      | else-is_child_of-via-else-is_child_of w ↦
          any_never (is_child_of id) m i h _ (named m id i h _ c.is_child_of.ensures) w.if-is_child_of.false
    ]

pub returns : goal.returns
returns c = sym (c.loop-i.invariant ∙ any_end (is_child_of c.args.id) c.args.m.now c.loop-i.i c.loop-i-test.false)
