-- Each edition's two lines.
use Rattle.std.proofs.Common.{arith}
use Rattle.text_form.specs.Bytes.{bytes}
use Rattle.text_length.proofs.Laws.{number_length}
use Rattle.text_length.proofs.edition_lines.Goals as goal

pub returns-in-Second : goal.returns-in-Second
returns-in-Second c =
    rw c.in-Second.is (omega (arith, number_length (bytes "edition=2\ndefault=") c.in-Second.default), omega arith)
