-- No port before the row stands again behind itself.
use Rattle.std.proofs.Common.{ℕ, ◌+◌, ◌*◌, arith, ◌≡◌, sym, ap, ◌∙◌, List, get_or, drop}
use Rattle.rules_types.specs.declared.Port.{Port}
use Rattle.rules.specs.Holds.{port, is_in}
use Rattle.rules.specs.Ports.{pairs}
use Rattle.rules.specs.Registration.{repeats}
use Rattle.ports.specs.Places.{part_end, pairs_at, pairs_end, repeats_miss}
use Rattle.ports.proofs.repeated.Goals as goal

pub loop-row-preserved : goal.loop-row-preserved
loop-row-preserved c =
    let l = c.args.ports.now in
    let at = c.loop-row.row * 2 in
    let behind = ap (λ (m : List ℕ). is_in (port (get_or l at 0) (get_or l (at + 1) 0)) (pairs m)) (part_end l (at + 2)) in
    let e : at + 2 ≡ (c.loop-row.row + 1) * 2 = omega arith in
    c.loop-row.invariant ∙ repeats_miss (pairs_at l at (omega arith)) (sym (c.has_port.ensures ∙ behind) ∙ c.if-has_port.false)
    ∙ ap (λ (n : ℕ). repeats (pairs (drop n l))) e

pub returns : goal.returns
returns c = sym (c.loop-row.invariant ∙ ap (λ (ps : List Port). repeats ps) (pairs_end c.args.ports.now (c.loop-row.row * 2) (omega arith)))
