-- Each promise of these crates allows one outcome: numbers, lines and the whole of the registry's text.
use Rattle.rules.specs.Answers.{number_exact}
use Rattle.text_decimal.specs.contracts as text_decimal
use Rattle.text_decimal.proofs as text_decimal_tells
use Rattle.text_lines.specs.contracts as text_lines
use Rattle.text_lines.proofs as text_lines_tells
use Rattle.text_block.specs.contracts as text_block
use Rattle.text_block.proofs as text_block_tells
use Rattle.text_length.specs.contracts as text_length
use Rattle.text_length.proofs as text_length_tells
use Rattle.text_write.specs.contracts as text_write
use Rattle.text_write.proofs as text_write_tells
use Rattle.outcome.specs.One.{One, OneSeen}
use Rattle.outcome.specs.Equations.{answer_alone, by_equation, one_outcome, one_with_memory}
use Rattle.outcome.specs.Records.{laid_one, written_one}

pub text_decimal_digit_count : One text_decimal.digit_count.ended text_decimal_tells.digit_count.Reads.Learnt
text_decimal_digit_count κs a r s ms ns p q = by_equation p q

pub text_decimal_write_digits : One text_decimal.write_digits.ended text_decimal_tells.write_digits.Reads.Learnt
text_decimal_write_digits κs a r s ms ns p q = written_one p q

pub text_decimal_write_decimal : OneSeen text_decimal.write_decimal.ended (λ κs r. r.now) text_decimal_tells.write_decimal.Reads.Learnt
text_decimal_write_decimal κs a r s ms ns p q = answer_alone p q

pub text_decimal_read_decimal : One text_decimal.read_decimal.ended text_decimal_tells.read_decimal.Reads.Learnt
text_decimal_read_decimal κs a r s ms ns p q = by_equation p q

pub text_lines_put : One text_lines.put.ended text_lines_tells.put.Reads.Learnt
text_lines_put κs a r s ms ns p q = laid_one p q

pub text_lines_number : One text_lines.number.ended text_lines_tells.number.Reads.Learnt
text_lines_number κs a r s ms ns p q = laid_one p q

pub text_lines_number_line : One text_lines.number_line.ended text_lines_tells.number_line.Reads.Learnt
text_lines_number_line κs a r s ms ns p q = laid_one p q

pub text_lines_optional_line : One text_lines.optional_line.ended text_lines_tells.optional_line.Reads.Learnt
text_lines_optional_line κs a r s ms ns p q = laid_one p q

pub text_lines_pair_line : One text_lines.pair_line.ended text_lines_tells.pair_line.Reads.Learnt
text_lines_pair_line κs a r s ms ns p q = laid_one p q

pub text_lines_triple_line : One text_lines.triple_line.ended text_lines_tells.triple_line.Reads.Learnt
text_lines_triple_line κs a r s ms ns p q = laid_one p q

pub text_lines_edition_lines : One text_lines.edition_lines.ended text_lines_tells.edition_lines.Reads.Learnt
text_lines_edition_lines κs a r s ms ns p q = laid_one p q

pub text_lines_root_lines : One text_lines.root_lines.ended text_lines_tells.root_lines.Reads.Learnt
text_lines_root_lines κs a r s ms ns p q = laid_one p q

pub text_lines_port_lines : One text_lines.port_lines.ended text_lines_tells.port_lines.Reads.Learnt
text_lines_port_lines κs a r s ms ns p q = laid_one p q

pub text_block_block : One text_block.block.ended text_block_tells.block.Reads.Learnt
text_block_block κs a r s ms ns p q = laid_one p q

pub text_length_block : One text_length.block.ended text_length_tells.block.Reads.Learnt
text_length_block κs a r s ms ns p q = by_equation p q

pub text_write_write_text : One text_write.write_text.ended text_write_tells.write_text.Reads.Learnt
text_write_write_text κs a r s ms ns p q = one_with_memory number_exact p q
