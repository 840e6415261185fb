-- `claimed` meets its contract: the list's default and rows are what the keys resolve by.
use Rattle.std.proofs.Common.{◌∙◌}
use Rattle.rules.specs.Ports.{pairs}
use Rattle.ports_realms.specs.Halving.{reached}
use Rattle.ports_resolved.specs.Keys.{claims_of}
use Rattle.registry_register.proofs.claimed.Goals as goal

pub returns : goal.returns
returns c =
    let a = c.args in
    c.claims.ensures ∙ (λ i. claims_of (c.default_realm-other.ensures i) (reached (pairs (c.rows.ensures i))) a.anchor a.provisions.now)
