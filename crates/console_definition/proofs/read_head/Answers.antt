-- `read_head` meets its contract: five words are read, each from where the last stopped, and `five_numbers` says if each is a number.
use Rattle.std.proofs.Common.{sym, ◌∙◌}
use Rattle.console_definition.proofs.Definitions.{head_read, head_not}
use Rattle.console_definition.proofs.read_head.Goals as goal

pub returns-then-not-five_numbers : goal.returns-then-not-five_numbers
returns-then-not-five_numbers c =
    head_not c.args.bytes.now c.args.from c.read_number-key.result c.read_number-realm.result c.read_number-payload.result
    c.read_number-edition.result c.read_number-default.result c.read_number-key.ensures c.read_number-realm.ensures
    c.read_number-payload.ensures c.read_number-edition.ensures c.read_number-default.ensures _
    (λ i. record {
      key = c.unwrap_or.ensures i;
      realm = c.unwrap_or-2.ensures i;
      payload = c.unwrap_or-3.ensures i;
      edition = c.unwrap_or-4.ensures i;
      default = c.unwrap_or-5.ensures i;
      stop = c.read_number-default.result.stop;
    })
    (sym c.five_numbers.ensures ∙ c.if-not-five_numbers.true)

pub returns : goal.returns
returns c =
    head_read c.args.bytes.now c.args.from c.read_number-key.result c.read_number-realm.result c.read_number-payload.result
    c.read_number-edition.result c.read_number-default.result c.read_number-key.ensures c.read_number-realm.ensures
    c.read_number-payload.ensures c.read_number-edition.ensures c.read_number-default.ensures _
    (λ i. record {
      key = c.unwrap_or.ensures i;
      realm = c.unwrap_or-2.ensures i;
      payload = c.unwrap_or-3.ensures i;
      edition = c.unwrap_or-4.ensures i;
      default = c.unwrap_or-5.ensures i;
      stop = c.read_number-default.result.stop;
    })
    (sym c.five_numbers.ensures ∙ c.if-not-five_numbers.false)
