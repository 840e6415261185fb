-- `provides` meets its contract: the anchor, then the provisions.
use Rattle.std.proofs.Common.{◌%◌, sym, ◌∙◌}
use Rattle.memory.specs.Layout.{places}
use Rattle.memory_providers.proofs.Laws.{provides_anchor, provides_provision}
use Rattle.memory_providers.proofs.provides.Goals as goal

pub returns-then-same : goal.returns-then-same
returns-then-same c =
    let a = c.args in
    c.if-same.true ∙ provides_anchor a.m.now (a.place % places) a.port _ c.anchor-anchor.ensures (sym c.eq-same.ensures ∙ c.if-same.true)

pub returns-else-same : goal.returns-else-same
returns-else-same c =
    provides_provision _ _ _ _ c.anchor-anchor.ensures (sym c.eq-same.ensures ∙ c.if-same.false) _
    c.provision_words.ensures _ c.has_port.ensures
