-- The value is the one that the words have.
use Rattle.std.proofs.Common.{ap, ◌++◌}
use Rattle.text_form.specs.Bytes.{bytes}
use Rattle.text_lines.specs.Lines.{triple}
use Rattle.text_block.specs.Parts.{laid_as}
use Rattle.text_block.proofs.provision_line.Goals as goal

pub returns : goal.returns
returns c =
    let a = c.args in
    laid_as (ap (λ o. bytes "prov=" ++ triple a.key a.realm o) c.value_at.ensures) c.triple_line.ensures
