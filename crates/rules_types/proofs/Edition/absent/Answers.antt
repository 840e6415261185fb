-- `Edition::absent` meets its contract: in each arm the realm is the edition's.
use Rattle.std.proofs.Common.{sym, ap, ◌∙◌}
use Rattle.rules_types.specs.Kinds.{port, default_of}
use Rattle.rules_types.proofs.Edition.absent.Goals as goal

pub returns-in-First : goal.returns-in-First
returns-in-First c = c.in_default_realm.ensures ∙ sym (ap (λ e. port c.args.key (default_of e)) c.in-First.is)

pub returns-in-Second : goal.returns-in-Second
returns-in-Second c = c.new.ensures ∙ sym (ap (λ e. port c.args.key (default_of e)) c.in-Second.is)
