-- The anchor, edition and default, then the rows, then the dependencies, as the words have them.
use Rattle.std.proofs.Common.{◌%◌, arith, ap, ◌∙◌, length, drop}
use Rattle.rules.specs.Ports.{pairs}
use Rattle.memory.specs.Layout.{places}
use Rattle.text_length.specs.Few.{few_realms, few_deps}
use Rattle.text_length.proofs.Laws.{list_length}
use Rattle.text_length.proofs.list_lines.Goals as goal

pub ports_lines-requires : goal.ports_lines-requires
ports_lines-requires c =
    let a = c.args in
    let realms = c.realm_words-realms in
    let rows = ap (λ l. length (pairs l)) (c.rows.ensures ∙ ap (drop 2) realms.ensures) in
    (omega arith, omega arith, omega (arith, few_realms a.m.now (a.place % places)))

pub ports_lines-requires-2 : goal.ports_lines-requires-2
ports_lines-requires-2 c =
    let a = c.args in
    let deps = ap (λ l. length (pairs l)) c.dependency_words.ensures in
    (omega arith, omega arith, omega (arith, few_deps a.m.now (a.place % places)))

pub returns : goal.returns
returns c =
    let a = c.args in
    let realm-lines = c.ports_lines.ensures in
    let edition-lines = c.edition_lines.ensures in
    let realm = c.digits-2.ensures in
    let key = c.digits.ensures in
    let all =
    list_length a.m.now (a.place % places) c.anchor-anchor.ensures c.realm_words-realms.ensures c.dependency_words.ensures
    c.edition.ensures c.rows.ensures in
    (omega arith, omega arith)
