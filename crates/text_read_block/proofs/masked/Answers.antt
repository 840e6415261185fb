-- A bit of the first 15 is never cut off.
use Rattle.std.proofs.Common.{arith, ℕ, ◌*◌, ◌%◌, ◌^◌, ◌<◌, ◌≡◌, lt-ltb, le-ltb}
use lib.Pow.{pow-lt}
use Rattle.rules.specs.Limits.{max_provision_keys}
use Rattle.text_read_block.specs.Lists.{mask_with}
use Rattle.text_read_block.proofs.masked.Goals as goal

below : (i : ℕ) → i < 15 → 2 ^ i < 2 ^ 15
below i h = pow-lt h

whole : (i : ℕ) → i < 15 → (1 * 2 ^ i) % 2 ^ 64 ≡ 2 ^ i
whole i h = let p = below i h in omega arith

pub returns-then-valued : goal.returns-then-valued
unfolding mask_with
returns-then-valued c =
    let a = c.args in
    rw (whole a.i c.if-i.true, lt-ltb a.i max_provision_keys c.if-i.true, c.if-valued.true)

pub returns-else-valued : goal.returns-else-valued
unfolding mask_with
returns-else-valued c =
    let a = c.args in
    rw (lt-ltb a.i max_provision_keys c.if-i.true, c.if-valued.false)

pub returns-else-i : goal.returns-else-i
unfolding mask_with
returns-else-i c =
    let a = c.args in
    rw (le-ltb a.i max_provision_keys c.if-i.false)
