-- The examples of texts hold.
use Rattle.std.specs.Prelude.{refl}
use Rattle.rules.specs.Holds.{lookup, count, provider, rows_in_use}
use Rattle.rules.specs.Outcomes.{after, checked, found}
use Rattle.rules.specs.Ports.{bad_realms, resolve, realm_list, bad_edition}
use Rattle.rules.specs.Dependencies.{dependency_list}
use Rattle.rules.specs.Registration.{dependencies_of, new_plugin, register}
use Rattle.rules.specs.Phases.{begin, ready}
use Rattle.rules.specs.Admission.{admit, is_live, call}
use Rattle.rules.specs.Retirement.{retire, remove}
use Rattle.rules.specs.Values.{offer}
use Rattle.text_form.specs.Digits.{decimal_of, digits_in}
use Rattle.text_form.specs.Words.{number_of, value_from}
use Rattle.text_form.specs.Forms.{expect}
use Rattle.text_form.specs.Numbers.{read_number, up_to}
use Rattle.rules.specs.Text.{insert, by_id, said, text_of, read_text}
use Rattle.rules.specs.TextExamples.{Texts, shown, last_id, last_id_text}
use Rattle.rules.proofs.Text.{written_read}

pub texts : Texts
unfolding text_of read_text insert by_id decimal_of digits_in expect read_number up_to number_of value_from after checked found lookup count provider rows_in_use bad_realms resolve realm_list bad_edition dependency_list dependencies_of new_plugin register begin ready admit is_live call retire remove offer
texts = record {
  example_text_lem = refl;
  example_back = refl;
  empty = refl;
  by_rising_id = refl;
  queued_root = refl;
  value = refl;
  last_id_lem = (written_read (shown last_id_text) (said last_id) refl).1;
  leading_zero = refl;
  too_high = refl;
  one_too_few = refl;
  one_too_many = refl;
  unended = refl;
  nothing = refl;
}
