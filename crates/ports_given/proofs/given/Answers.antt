-- The list is given exactly if it is given from the keys of its first ports, at most as many as are left to try.
use Rattle.std.proofs.Common.{arith, ◌≡◌, sym, ◌∙◌, Bool, length, le-leb}
use borrow.Author.Tests.{lt-leb}
use Rattle.rules.specs.Ports.{pairs}
use Rattle.rules.specs.Conditions.{given_within}
use Rattle.rules.specs.Limits.{max_dependencies}
use Rattle.ports.specs.Places.{length_pairs}
use Rattle.ports_realms.specs.Halving.{reached_with}
use Rattle.ports_given.specs.Given.{given_list}
use Rattle.ports_given.proofs.Tries.{by, within_yes, within_no, within_none, within_front, tried}
use Rattle.ports_given.proofs.given.Goals as goal
use Rattle.ports_given.proofs.given.Goals.{After-gives}

-- a try answers whether the rule gives the list from the keys of so many ports in front
told : (c : After-gives)
    → let a = c.args in
    c.gives.result
    ≡ by (reached_with a.other a.rows.now) (pairs a.provisions.now) a.anchor (pairs a.parents.now) (pairs a.list.now)
    c.loop-count.count
told c =
    let a = c.args in
    tried (reached_with a.other a.rows.now) (pairs a.provisions.now) a.anchor (pairs a.parents.now) (pairs a.list.now)
    c.keys_in_front-most.ensures.front c.loop-count.count (omega arith) c.first_words-keys.ensures c.gives.ensures

-- and a list that is not too long is given if it is given from at most so many keys
answer : (c : After-gives) {b : Bool}
    → let a = c.args in
    given_within c.loop-count.count (reached_with a.other a.rows.now) (pairs a.provisions.now) a.anchor (pairs a.parents.now)
    (pairs a.list.now) ≡ b
    → b ≡ given_list (reached_with a.other a.rows.now) (pairs a.provisions.now) a.anchor (pairs a.parents.now) (pairs a.list.now)
answer c e =
    let list = c.args.list.now in
    let l = pairs list in
    sym (rw (le-leb (length l) max_dependencies (omega (arith, length_pairs list, c.if-list-gt-DEPENDENCIES.false))) (c.loop-count.invariant ∙ e))

pub returns-then-list-gt-DEPENDENCIES : goal.returns-then-list-gt-DEPENDENCIES
returns-then-list-gt-DEPENDENCIES c =
    let a = c.args in
    sym (rw (lt-leb (length (pairs a.list.now)) max_dependencies (omega (arith, length_pairs a.list.now))))

pub loop-count-init : goal.loop-count-init
loop-count-init c =
    let a = c.args in
    within_front (reached_with a.other a.rows.now) (pairs a.provisions.now) a.anchor (pairs a.parents.now) (pairs a.list.now) c.keys_in_front-most.ensures

pub gives-requires-clause-list_fits : goal.gives-requires-clause-list_fits
gives-requires-clause-list_fits c = omega (arith, length_pairs c.args.list.now)

pub returns-then-gives : goal.returns-then-gives
returns-then-gives c =
    let a = c.args in
    answer (goal.at.returns-then-gives c).After-gives
    (within_yes (reached_with a.other a.rows.now) (pairs a.provisions.now) a.anchor (pairs a.parents.now) (pairs a.list.now) _
    (sym (told (goal.at.returns-then-gives c).After-gives) ∙ c.if-gives.true))

pub returns-else-gives : goal.returns-else-gives
returns-else-gives c =
    let a = c.args in
    answer (goal.at.returns-else-gives c).After-gives
    (within_none (reached_with a.other a.rows.now) (pairs a.provisions.now) a.anchor (pairs a.parents.now) (pairs a.list.now) _
    (omega arith) (sym (told (goal.at.returns-else-gives c).After-gives) ∙ c.if-gives.false))

pub loop-count-preserved : goal.loop-count-preserved
loop-count-preserved c =
    let a = c.args in
    c.loop-count.invariant
    ∙ within_no (reached_with a.other a.rows.now) (pairs a.provisions.now) a.anchor (pairs a.parents.now) (pairs a.list.now) _
    (λ e. omega arith) (sym (told (goal.at.loop-count-preserved c).After-gives) ∙ c.if-gives.false)
