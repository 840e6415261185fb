-- What the search finds is the rule's lookup in the rows that it reaches.
use Rattle.std.proofs.Common.{ap, ◌∙◌}
use Rattle.rules.specs.Ports.{pairs}
use Rattle.ports_realms.specs.declared.Lookup.{Lookup}
use Rattle.ports_realms.proofs.Reached.{reached_search}
use Rattle.ports_realms.proofs.resolve.Goals as goal

pub returns : goal.returns
returns c =
    let a = c.args in
    ap (λ (x : Lookup). x.port) c.search.ensures ∙ reached_search a.fallback.realm a.fallback.key (pairs a.rows.now)
