-- `row_of` meets its contract: the ports before those left are served, and their providers are in the row.
use Rattle.std.proofs.Common.{arith, ◌≡◌, refl, sym, ap, ◌∙◌, ◌∷◌, get_or}
use Rattle.std.specs.Slice.Iter.{chunks_exact_rest}
use Rattle.rules.specs.Holds.{port}
use Rattle.rules.specs.Ports.{pairs}
use Rattle.rules_types.specs.declared.Port.{Port}
use Rattle.ports.specs.Places.{pairs_end}
use Rattle.memory_providers.specs.Providers.{provider_at, provider_below}
use Rattle.rules_laws.specs.Laws.Pairs.{pairs_chunk}
use Rattle.registry_cycles.proofs.Ports.{rowed_none, rowed_not, rowed_next, rowed_end}
use Rattle.registry_cycles.proofs.row_of.Goals as goal
use Rattle.registry_cycles.proofs.row_of.Goals.{After-provider}

-- the port that was looked up
abbrev here : After-provider → Port
here c = port (get_or c.in-Some.pair.now 0 0) (get_or c.in-Some.pair.now 1 0)

spot : (c : After-provider)
    → pairs (chunks_exact_rest c.loop-pair.pair-iterator) ≡ here c ∷ pairs (chunks_exact_rest c.next.new.self)
spot c =
    let step = c.in-Some.ensures.steps in
    ap pairs step.1.0 ∙ pairs_chunk c.in-Some.pair.now _ (step.1.1 ∙ c.loop-pair.invariant.0)

found : (c : After-provider) → c.provider.result ≡ provider_at c.args.index.now.memory.now (here c)
found c = c.provider.ensures

pub returns-in_err-at : goal.returns-in_err-at
returns-in_err-at c =
    let p = (goal.at.returns-in_err-at c).After-provider in
    rw c.from_residual.ensures (rowed_none _ _ _ _ c.loop-pair.invariant.1 (here p) _ (spot p) _ (found p) c.in_err-at.was)

pub returns-then-not-is_active : goal.returns-then-not-is_active
returns-then-not-is_active c =
    let p = (goal.at.returns-then-not-is_active c).After-provider in
    rowed_not _ _ _ _ c.loop-pair.invariant.1 (here p) _ (spot p) _ (found p) _ c.in_ok-at.was _ c.load.ensures _ c.is_active.ensures
    c.if-not-is_active.true

pub overflow_cast-row : goal.overflow_cast-row
overflow_cast-row c =
    let p = (goal.at.overflow_cast-row c).After-provider in
    record { fits = omega (arith, provider_below c.args.index.now.memory.now (here p) _ (sym (found p) ∙ c.in_ok-at.was)) }

pub overflow_shl-row : goal.overflow_shl-row
overflow_shl-row c =
    let p = (goal.at.overflow_shl-row c).After-provider in
    provider_below c.args.index.now.memory.now (here p) _ (sym (found p) ∙ c.in_ok-at.was)

pub loop-pair-preserved : goal.loop-pair-preserved
loop-pair-preserved c =
    let p = (goal.at.loop-pair-preserved c).After-provider in (
      c.in-Some.ensures.steps.0 ∙ c.loop-pair.invariant.0,
      rowed_next _ _ _ _ c.loop-pair.invariant.1 (here p) _ (spot p) _ (found p) _ c.in_ok-at.was _ c.load.ensures _ c.is_active.ensures
          c.if-not-is_active.false _ refl,
    )

pub returns : goal.returns
returns c =
    rowed_end _ _ _ _ c.loop-pair.invariant.1
    (pairs_end (chunks_exact_rest c.loop-pair.pair-iterator) 0 (omega (arith, c.in-None.ensures.steps.1.0, c.loop-pair.invariant.0)))
