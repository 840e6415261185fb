-- `place_differs` meets its contract: the rows from `row` on, and the claims behind, are noted.
use Rattle.std.proofs.Common.{◌+◌, ◌-◌, arith, sym, ◌∙◌}
use Rattle.registry_claims.specs.Behind.{claims_from}
use Rattle.registry_claims.proofs.Rows.{free_differs, rows_begin, row_next, row_repeats, rows_repeat, rows_done}
use Rattle.registry_claims.proofs.place_differs.Goals as goal

pub returns-then-not-is_taken : goal.returns-then-not-is_taken
returns-then-not-is_taken c =
    free_differs c.args.m.now c.args.place c.requires.0 (sym c.is_taken.ensures ∙ c.if-not-is_taken.true) c.args.keys.now c.requires.1

pub loop-row-init : goal.loop-row-init
loop-row-init c = (omega arith, rows_begin c.offered_words-ports.result.now _ _ c.requires.1)

pub returns-then-is_claimed : goal.returns-then-is_claimed
returns-then-is_claimed c =
    let ws = c.offered_words-ports.result.now in
    let m = c.args.m.now in
    let r = row_repeats ws c.loop-row.row c.loop-row-test.true c.loop-row.invariant.0 (claims_from m (c.args.place + 1)) c.loop-row.keys
    c.loop-row.invariant.1 _ c.is_claimed.ensures c.if-is_claimed.true in
    rows_repeat m c.args.place c.requires.0 (sym c.is_taken.ensures ∙ c.if-not-is_taken.false) c.told-m ws
    c.offered_words-ports.ensures c.loop-row.keys (c.loop-row.row - 1) r

pub loop-row-preserved : goal.loop-row-preserved
loop-row-preserved c =
    let ws = c.offered_words-ports.result.now in (
      omega arith,
      row_next ws c.loop-row.row c.loop-row-test.true c.loop-row.invariant.0 (claims_from c.args.m.now (c.args.place + 1)) c.loop-row.keys
          c.loop-row.invariant.1 _ c.is_claimed.ensures c.if-is_claimed.false _ c.see.ensures,
    )

pub returns : goal.returns
returns c =
    rows_done c.args.m.now c.args.place c.requires.0 (sym c.is_taken.ensures ∙ c.if-not-is_taken.false) c.told-m
    c.offered_words-ports.result.now c.offered_words-ports.ensures c.loop-row.keys c.loop-row.row c.loop-row-test.false c.loop-row.invariant.1
