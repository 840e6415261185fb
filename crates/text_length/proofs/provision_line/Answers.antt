-- The value is the one that the words have.
use Rattle.std.proofs.Common.{arith, ap, length}
use Rattle.text_form.specs.Bytes.{bytes}
use Rattle.text_block.specs.Parts.{provision_line}
use Rattle.text_length.proofs.Laws.{triple_length}
use Rattle.text_length.proofs.provision_line.Goals as goal

pub returns : goal.returns
returns c =
    let a = c.args in
    let value = c.value_at in (
      omega (
        arith,
        triple_length (bytes "prov=") a.key a.realm value.result,
        ap (λ o. length (provision_line a.key a.realm o)) value.ensures,
      ),
      omega arith,
    )
