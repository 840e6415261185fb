-- `with_lists` meets its contract: the arrays' fronts are the lists to register.
use Rattle.console_words.specs.Fronts.{front_is}
use Rattle.console_definition.specs.Definitions.{lists_in}
use Rattle.console_definition.specs.Found.{all_found}
use Rattle.console_operations.specs.Carried.{same}
use Rattle.console_register.proofs.Laws.{one_list, all_there}
use Rattle.console_register.proofs.with_lists.Goals as goal

pub returns : goal.returns
returns c =
    let x = c.args in
    let f = all_found x.bytes.now x.head.stop _ _ _ _ _ _ c.in-Ok.all c.in-Ok.ensures in
    let realms = one_list x.head f.lists.realms _ _ _ _ _ _ f.realms c.realm_list-size.ensures in
    same x.m.now x.out.now _ _ _ _ _ (all_there x.parent x.head (lists_in x.bytes.now x.head.stop) f.lists f.is _ _ _ realms
    (front_is f.lists.deps _ _ _ f.deps) (front_is f.lists.provs _ _ _ f.provs)) c.register.ensures
