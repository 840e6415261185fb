-- `ask` meets its contract: each return is a case of the rule.
use Rattle.memory.specs.Known.{looked_up, not_found}
use Rattle.registry_admit.specs.Laws.{asked_refusal, asked_foreign, asked_kind, asked_none, asked_refused, asked_passed}
use Rattle.registry_admit.proofs.ask.Goals as goal
use Rattle.registry_admit.proofs.ask.Goals.{then-ticket-domain-via-then-ticket-domain, then-ticket-domain-via-else-ticket-domain+then-ticket-ne-SETUP}

pub returns-then-ticket-domain : goal.returns-then-ticket-domain
returns-then-ticket-domain c = elim c.then-ticket-domain.branch [
  | then-ticket-domain-via-then-ticket-domain w ↦ asked_foreign _ _ _ c.domain.ensures w.if-ticket-domain.true
  | then-ticket-domain-via-else-ticket-domain+then-ticket-ne-SETUP w ↦
      asked_kind _ _ _ c.domain.ensures w.if-ticket-domain.false w.if-ticket-ne-SETUP.true
]

pub returns-in_err-at : goal.returns-in_err-at
returns-in_err-at c =
    let n = not_found _ _ _ c.in_err-at.ensures in
    asked_refusal _ _ _ _ c.from_residual.ensures.1
    (rw n.1 (asked_none _ _ _ c.domain.ensures c.if-ticket-domain.false c.if-ticket-ne-SETUP.false n.0))

pub returns-in_err-verdict : goal.returns-in_err-verdict
returns-in_err-verdict c =
    asked_refusal _ _ _ _ c.from_residual-in_err-verdict.ensures.1
    (asked_refused _ _ _ c.domain.ensures c.if-ticket-domain.false c.if-ticket-ne-SETUP.false _ _ (looked_up _ _ _ c.in_ok-at.ensures)
    c.load-life.ensures _ c.in_err-verdict.ensures)

pub returns : goal.returns
returns c =
    let e = looked_up _ _ _ c.in_ok-at.ensures in (
      e,
      c.load-life.ensures,
      asked_passed _ _ _ c.domain.ensures c.if-ticket-domain.false c.if-ticket-ne-SETUP.false _ _ e
          c.load-life.ensures c.in_ok-verdict.ensures,
    )
