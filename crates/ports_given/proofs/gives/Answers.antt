-- A list of more than 48 ports is not this one; any other is compared as it stands in the answer.
use Rattle.std.proofs.Common.{◌≡◌, sym, ap, ◌∙◌, List}
use Rattle.rules_types.specs.declared.Port.{Port}
use Rattle.rules.specs.Ports.{pairs}
use Rattle.rules.specs.Dependencies.{dependency_list}
use Rattle.ports_realms.specs.Halving.{reached_with}
use Rattle.ports_inherited.specs.Blocks.{fitted}
use Rattle.ports_inherited.specs.Answers.{dependency_law}
use Rattle.ports_given.proofs.Answers.{too_long, compared}
use Rattle.ports_given.proofs.gives.Goals as goal
use Rattle.ports_given.proofs.gives.Goals.{After-dependency_list-made}

-- the rule's list from all the keys, which are at most 16: this is what is answered
abbrev ruled : After-dependency_list-made → List Port
ruled l =
    let a = l.args in
    dependency_list (reached_with a.other a.rows.now) (pairs a.provisions.now) a.anchor a.keys.now (pairs a.parents.now)

made : (c : After-dependency_list-made) → c.dependency_list-made.result ≡ fitted (ruled c)
made c =
    let a = c.args in
    c.dependency_list-made.ensures
    ∙ ap fitted (dependency_law (reached_with a.other a.rows.now) (pairs a.provisions.now) a.anchor a.keys.now (pairs a.parents.now)
    c.requires.keys_fit)

pub returns-then-made-gt-DEPENDENCIES : goal.returns-then-made-gt-DEPENDENCIES
returns-then-made-gt-DEPENDENCIES c =
    sym (too_long (ruled (goal.at.returns-then-made-gt-DEPENDENCIES c).After-dependency_list-made) (pairs c.args.list.now) (made (goal.at.returns-then-made-gt-DEPENDENCIES c).After-dependency_list-made) c.if-made-gt-DEPENDENCIES.true c.requires.list_fits)

pub returns : goal.returns
returns c =
    compared (ruled (goal.at.returns c).After-dependency_list-made) (pairs c.args.list.now) (made (goal.at.returns c).After-dependency_list-made) c.if-made-gt-DEPENDENCIES.false c.first_words-ruled.ensures c.same_ports.ensures
