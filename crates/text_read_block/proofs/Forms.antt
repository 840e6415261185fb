-- The forms of a list's lines are lawful.
use Rattle.std.specs.Prelude.{ℕ, List}
use Rattle.rules.proofs.Text.Values.{key_realm_lawful, key_realm_value_lawful}
use Rattle.text_form.specs.Forms.{Lawful}
use Rattle.text_form.proofs.Forms.{behind_lawful, counted_lawful}
use Rattle.text_form.proofs.Lines.{number_lawful, list_lawful}
use Rattle.text_read_block.specs.Lists.{port_lines, provision_lines}

pub port_lines_lawful : (plural key : List ℕ) → Lawful (port_lines plural key)
port_lines_lawful plural key = counted_lawful (behind_lawful plural _ number_lawful) (behind_lawful key _ key_realm_lawful)

pub provision_lines_lawful : Lawful provision_lines
provision_lines_lawful = list_lawful "provs" "prov" key_realm_value_lawful
