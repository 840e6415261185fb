-- `registered` meets its contract: parent and head are read as the definition has them, and `with_lists` promises the rest.
use Rattle.std.proofs.Common.{refl, ap}
use Rattle.console_operations.specs.Carried.{same}
use Rattle.console_definition.specs.Whole.{no_parent, no_head, parts}
use Rattle.console_register.specs.Registrations.{registration}
use Rattle.console_register.proofs.registered.Goals as goal

pub returns-in_default : goal.returns-in_default
returns-in_default c =
    let x = c.args in
    same x.m.now x.out.now _ _ _ _ _ (ap registration (no_parent x.bytes.now x.from _ c.in_default.ensures)) ((refl, refl), refl)

pub returns-in_default-read_head : goal.returns-in_default-read_head
returns-in_default-read_head c =
    let x = c.args in
    same x.m.now x.out.now _ _ _ _ _ (ap registration
    (no_head x.bytes.now x.from c.in-Ok.under c.in-Ok.ensures _ c.in_default-read_head.ensures)) ((refl, refl), refl)

pub returns : goal.returns
returns c =
    let x = c.args in
    same x.m.now x.out.now _ _ _ _ _ (ap registration
    (parts x.bytes.now x.from c.in-Ok.under c.in-Ok.ensures c.in-Ok-read_head.head c.in-Ok-read_head.ensures))
    c.with_lists.ensures
