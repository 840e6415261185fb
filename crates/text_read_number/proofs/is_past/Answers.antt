-- Below a tenth every digit fits; from it on, by the test.
use Rattle.std.proofs.Common.{◌+◌, ◌-◌, ◌*◌, ◌/◌, ◌^◌, arith, sym, leb, leb-true, leb-false, lt-ltb, le-ltb}
use borrow.Author.Tests.{lt-leb}
use Rattle.rules_basics.specs.Tests.{by_test}
use Rattle.text_read_number.proofs.is_past.Goals as goal

pub returns-then-n-lt-LAST_TENTH : goal.returns-then-n-lt-LAST_TENTH
returns-then-n-lt-LAST_TENTH c = let a = c.args in sym (lt-leb (2 ^ 64) (a.n * 10 + a.digit) (omega (arith, c.requires, c.if-n-lt-LAST_TENTH.true)))

pub returns : goal.returns
returns c =
    let a = c.args in
    by_test (leb (2 ^ 64) (a.n * 10 + a.digit))
    (λ y. rw y (lt-ltb (1844674407370955161 - a.digit / 6) a.n (omega (arith, c.requires, leb-true (2 ^ 64) (a.n * 10 + a.digit) y))))
    (λ f. rw f (le-ltb (1844674407370955161 - a.digit / 6) a.n (omega (arith, c.requires, c.if-n-lt-LAST_TENTH.false, leb-false (2 ^ 64) (a.n * 10 + a.digit) f))))
