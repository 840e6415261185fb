-- `inherited` meets its contract: the rows at the parent's place, or none.
use Rattle.std.proofs.Common.{sym, ap, ◌∙◌}
use Rattle.registry_register.specs.Parts.{dependencies_at}
use Rattle.registry_register.proofs.inherited.Goals as goal

pub returns : goal.returns
returns c = c.dependency_words.ensures ∙ sym (ap (dependencies_at c.args.m.now) c.in-Some.is)
