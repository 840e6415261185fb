-- A taken place offers what its words say, and a free one nothing.
use Rattle.std.proofs.Common.{sym, ◌∙◌, Bool, arith}
use Rattle.rules_types.specs.declared.Port.{Port}
use Rattle.rules.specs.Ports.{pairs}
use Rattle.memory_providers.specs.Providers.{wanted}
use Rattle.memory_providers.proofs.Claims.{offers_one_lem}
use Rattle.memory_providers.proofs.offers_one.Goals as goal

pub returns-then-is_taken : goal.returns-then-is_taken
returns-then-is_taken c =
    let a = c.args in
    let f : Port → Bool = λ q. wanted a.bits (pairs a.claims.now) q in
    offers_one_lem _ a.m.now a.place _ f _ (omega arith) (sym c.is_taken.ensures ∙ c.if-is_taken.true) c.offered_words.ensures
    c.meets.ensures
