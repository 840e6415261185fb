-- `listed` meets its contract: each argument is what its call promises.
use Rattle.std.proofs.Common.{◌∙◌, take}
use Rattle.rules.specs.Limits.{max_dependency_keys}
use Rattle.rules.specs.Ports.{pairs}
use Rattle.rules.specs.Dependencies.{dependency_list}
use Rattle.ports_realms.specs.Halving.{reached_with}
use Rattle.ports_inherited.specs.Blocks.{fitted}
use Rattle.registry_register.proofs.listed.Goals as goal

pub returns : goal.returns
returns c =
    let a = c.args in
    c.dependency_list.ensures
    ∙ (λ i. fitted (dependency_list (reached_with (c.default_realm.ensures i) (c.rows.ensures i)) (pairs (c.some_words.ensures i)) a.anchor
    (take max_dependency_keys a.dependencies.now) (pairs (c.inherited.ensures i))))
