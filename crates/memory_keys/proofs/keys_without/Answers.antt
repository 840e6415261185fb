-- `keys_without` meets its contract.
use Rattle.std.proofs.Common.{sym, ◌∙◌}
use Rattle.memory_keys.proofs.Laws.{keys_anchor, keys_rest}
use Rattle.memory_keys.proofs.keys_without.Goals as goal

pub returns-then-same : goal.returns-then-same
returns-then-same c = keys_anchor _ _ _ _ c.anchor-anchor.ensures (sym c.eq-same.ensures ∙ c.if-same.true)

pub returns : goal.returns
returns c =
    keys_rest _ _ _ _ c.anchor-anchor.ensures (sym c.eq-same.ensures ∙ c.if-same.false) _
    c.provision_words.ensures _ c.with_bit-word.ensures _ c.bits_without.ensures
