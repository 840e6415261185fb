-- What is left begins with the bytes or not.
use Rattle.text_read_number.proofs.Begins.{stands, stands_not}
use Rattle.text_read_number.proofs.literal.Goals as goal

pub returns-then-starts_with : goal.returns-then-starts_with
returns-then-starts_with c =
    let a = c.args in
    let x = c.in_ok-rest.ensures.lookup.0 in
    rw c.in_ok-at.was
    (stands a.name.now a.text.now c.in_ok-at.at c.in_ok-rest.rest.now x.0 x.2 c.starts_with.ensures.value (c.starts_with.ensures.bound (c.if-starts_with.true))
    c.if-starts_with.true)

pub returns : goal.returns
returns c =
    let a = c.args in
    let x = c.in_ok-rest.ensures.lookup.0 in
    rw c.in_ok-at.was
    (stands_not a.name.now a.text.now c.in_ok-at.at c.in_ok-rest.rest.now x.0 x.2 c.starts_with.ensures.value c.if-starts_with.false)
