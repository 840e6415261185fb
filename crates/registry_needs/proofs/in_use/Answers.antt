-- `in_use` meets its contract: what is left to look at has a user where all places have one.
use Rattle.std.proofs.Common.{◌%◌, sym, ◌∙◌}
use Rattle.memory.specs.Layout.{places}
use Rattle.memory_places.specs.Any.{any_plugins, any_end, any_free, any_here, any_not}
use Rattle.registry_needs.specs.Users.{user_at}
use Rattle.registry_needs.proofs.Laws.{own_place}
use Rattle.registry_needs.proofs.in_use.Goals as goal
use Rattle.registry_needs.proofs.in_use.Goals.{else-is_taken-via-then-is_taken+else-is_user, else-is_taken-via-else-is_taken}

pub loop-i-init : goal.loop-i-init
loop-i-init c =
    let a = c.args in
    (c.offered_words-ports.ensures, c.key_bits-bits.ensures, any_plugins (user_at a.m.now (a.place % places)) a.m.now)

pub returns-then-is_user : goal.returns-then-is_user
returns-then-is_user c =
    let a = c.args in
    let m = a.m.now in
    let p = a.place % places in
    let i = c.loop-i.i in
    let v = c.loop-i.invariant in
    let h = c.loop-i-test.true in
    sym (v.2 ∙ any_here (user_at m p) m i h _ (sym c.is_taken.ensures ∙ c.if-is_taken.true)
    (own_place m p c.told-m _ v.0 _ v.1 i h _ c.is_user.ensures) c.if-is_user.true)

pub loop-i-preserved : goal.loop-i-preserved
loop-i-preserved c =
    let a = c.args in
    let m = a.m.now in
    let p = a.place % places in
    let i = c.loop-i.i in
    let v = c.loop-i.invariant in
    let h = c.loop-i-test.true in
    let t = sym c.is_taken.ensures in (
      v.0,
      v.1,
      v.2
          ∙ elim c.else-is_taken.branch [
            | else-is_taken-via-then-is_taken+else-is_user w ↦
                any_not (user_at m p) m i h _ (t ∙ w.if-is_taken.true) (own_place m p c.told-m _ v.0 _ v.1 i h _ w.is_user.ensures) w.if-is_user.false
            | else-is_taken-via-else-is_taken w ↦ any_free (user_at m p) m i h (t ∙ w.if-is_taken.false)
          ],
    )

pub returns : goal.returns
returns c =
    let a = c.args in
    sym (c.loop-i.invariant.2 ∙ any_end (user_at a.m.now (a.place % places)) a.m.now c.loop-i.i c.loop-i-test.false)
