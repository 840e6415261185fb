-- `provider` meets its contract: the search from place i on finds what the whole search does, as no place before i offers the port.
use Rattle.std.proofs.Common.{refl, sym, ◌∙◌, arith}
use Rattle.memory_providers.specs.Providers.{provider_at}
use Rattle.memory_providers.proofs.Laws.{search_here, search_next, search_end}
use Rattle.memory_providers.proofs.provider.Goals as goal

pub loop-i-init : goal.loop-i-init
unfolding provider_at
loop-i-init c = refl

pub returns-then-offers : goal.returns-then-offers
returns-then-offers c = sym (c.loop-i.invariant ∙ search_here _ _ _ (omega arith) (sym c.offers.ensures ∙ c.if-offers.true))

pub loop-i-preserved : goal.loop-i-preserved
loop-i-preserved c = c.loop-i.invariant ∙ search_next _ _ _ (omega arith) (sym c.offers.ensures ∙ c.if-offers.false)

pub returns : goal.returns
returns c = sym (c.loop-i.invariant ∙ search_end _ _ _ (omega arith))
