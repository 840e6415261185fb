-- Each promise of these crates allows one outcome: the console.
use Rattle.std.specs.Prelude.{refl, Ok, Err}
use Rattle.console_slot.specs.Exact.{decides_exact}
use Rattle.console_words.specs.contracts as console_words
use Rattle.console_words.proofs as console_words_tells
use Rattle.console_answer.specs.contracts as console_answer
use Rattle.console_answer.proofs as console_answer_tells
use Rattle.console_names.specs.contracts as console_names
use Rattle.console_names.proofs as console_names_tells
use Rattle.console_definition.specs.contracts as console_definition
use Rattle.console_definition.proofs as console_definition_tells
use Rattle.console_slot.specs.contracts as console_slot
use Rattle.console_slot.proofs as console_slot_tells
use Rattle.console_show.specs.contracts as console_show
use Rattle.console_show.proofs as console_show_tells
use Rattle.console_operations.specs.contracts as console_operations
use Rattle.console_operations.proofs as console_operations_tells
use Rattle.console_register.specs.contracts as console_register
use Rattle.console_register.proofs as console_register_tells
use Rattle.console_order.specs.contracts as console_order
use Rattle.console_order.proofs as console_order_tells
use Rattle.console_line.specs.contracts as console_line
use Rattle.console_line.proofs as console_line_tells
use Rattle.outcome.specs.One.{One, OneSeen, OneAtEach}
use Rattle.outcome.specs.Equations.{by_equation, by_two, by_three, memory_alone, one_outcome}
use Rattle.outcome.specs.Records.{behind_one, gathered_one, leaves_one, numbered_one, spanned_one, three_one, leaves_slot_one}

pub console_words_next_word : One console_words.next_word.ended console_words_tells.next_word.Reads.Learnt
console_words_next_word κs a r s ms ns p q = spanned_one p q

pub console_words_longer : One console_words.longer.ended console_words_tells.longer.Reads.Learnt
console_words_longer κs a r s ms ns p q = by_two p q

pub console_words_is_word : One console_words.is_word.ended console_words_tells.is_word.Reads.Learnt
console_words_is_word κs a r s ms ns p q = by_equation p q

pub console_words_numbers : One console_words.numbers.ended console_words_tells.numbers.Reads.Learnt
console_words_numbers κs a r s ms ns p q = gathered_one p q

pub console_answer-Page-empty : One console_answer.Page.empty.ended console_answer_tells.Page.empty.Reads.Learnt
console_answer-Page-empty κs a r s ms ns p q = by_equation p q

pub console_answer-Page-written : OneSeen console_answer.Page.written.ended (λ κs r. r.now) console_answer_tells.Page.written.Reads.Learnt
console_answer-Page-written κs a r s ms ns p q = by_equation p q

pub console_answer-Page-put : One console_answer.Page.put.ended console_answer_tells.Page.put.Reads.Learnt
console_answer-Page-put κs a r s ms ns p q = memory_alone p q

pub console_answer-Page-number : One console_answer.Page.number.ended console_answer_tells.Page.number.Reads.Learnt
console_answer-Page-number κs a r s ms ns p q = memory_alone p q

pub console_answer-Page-numbers : One console_answer.Page.numbers.ended console_answer_tells.Page.numbers.Reads.Learnt
console_answer-Page-numbers κs a r s ms ns p q = memory_alone p q

pub console_answer-Page-answer : One console_answer.Page.answer.ended console_answer_tells.Page.answer.Reads.Learnt
console_answer-Page-answer κs a r s ms ns p q = memory_alone p q

pub console_answer-Page-answer_or_none : One console_answer.Page.answer_or_none.ended console_answer_tells.Page.answer_or_none.Reads.Learnt
console_answer-Page-answer_or_none κs a r s ms ns p q = memory_alone p q

pub console_answer-Page-told : One console_answer.Page.told.ended console_answer_tells.Page.told.Reads.Learnt
console_answer-Page-told κs a r s ms ns p q = memory_alone p q

pub console_answer-Page-or_none : One console_answer.Page.or_none.ended console_answer_tells.Page.or_none.Reads.Learnt
console_answer-Page-or_none κs a r s ms ns p q = memory_alone p q

pub console_answer-Page-yes_no : One console_answer.Page.yes_no.ended console_answer_tells.Page.yes_no.Reads.Learnt
console_answer-Page-yes_no κs a r s ms ns p q = memory_alone p q

pub console_answer-Page-shown : OneAtEach _ console_answer.Page.shown.ended console_answer_tells.Page.shown.Reads.Learnt
console_answer-Page-shown E l b d κs (page, (slot, (Ok v, rest))) r s ms ns p q = (refl, (by_equation p q, refl))
console_answer-Page-shown E l b d κs (page, (slot, (Err w, rest))) r s ms ns p q = (refl, (by_equation p q, refl))

pub console_answer_front : OneSeen console_answer.front.ended (λ κs r. r.now) console_answer_tells.front.Reads.Learnt
console_answer_front κs a r s ms ns p q = by_equation p q

pub console_names_which : One console_names.which.ended console_names_tells.which.Reads.Learnt
console_names_which κs a r s ms ns p q = by_equation p q

pub console_names_operation : One console_names.operation.ended console_names_tells.operation.Reads.Learnt
console_names_operation κs a r s ms ns p q = by_equation p q

pub console_names_row_at : One console_names.row_at.ended console_names_tells.row_at.Reads.Learnt
console_names_row_at κs a r s ms ns p q = by_equation p q

pub console_names_takes : One console_names.takes.ended console_names_tells.takes.Reads.Learnt
console_names_takes κs a r s ms ns p q = by_equation p q

pub console_names_nth : One console_names.nth.ended console_names_tells.nth.Reads.Learnt
console_names_nth κs a r s ms ns p q = by_equation p q

pub console_names_rest : OneSeen console_names.rest.ended (λ κs r. r.now) console_names_tells.rest.Reads.Learnt
console_names_rest κs a r s ms ns p q = by_equation p q

pub console_names_numbers : One console_names.numbers.ended console_names_tells.numbers.Reads.Learnt
console_names_numbers κs a r s ms ns p q = numbered_one p q

pub console_definition_read_parent : One console_definition.read_parent.ended console_definition_tells.read_parent.Reads.Learnt
console_definition_read_parent κs a r s ms ns p q = by_equation p q

pub console_definition_read_head : One console_definition.read_head.ended console_definition_tells.read_head.Reads.Learnt
console_definition_read_head κs a r s ms ns p q = by_equation p q

pub console_definition_list_behind : One console_definition.list_behind.ended console_definition_tells.list_behind.Reads.Learnt
console_definition_list_behind κs a r s ms ns p q = behind_one p q

pub console_definition_three_lists : One console_definition.three_lists.ended console_definition_tells.three_lists.Reads.Learnt
console_definition_three_lists κs a r s ms ns p q = three_one p q

pub console_slot_decided_by : One console_slot.decided_by.ended console_slot_tells.decided_by.Reads.Learnt
console_slot_decided_by κs a r s ms ns p q = one_outcome decides_exact p q

pub console_slot_slot_line : One console_slot.slot_line.ended console_slot_tells.slot_line.Reads.Learnt
console_slot_slot_line κs a r s ms ns p q = leaves_slot_one p q

pub console_show_spoken : One console_show.spoken.ended console_show_tells.spoken.Reads.Learnt
console_show_spoken κs a r s ms ns p q = memory_alone p q

pub console_show_buffered : One console_show.buffered.ended console_show_tells.buffered.Reads.Learnt
console_show_buffered κs a r s ms ns p q = memory_alone p q

pub console_show_shown : One console_show.shown.ended console_show_tells.shown.Reads.Learnt
console_show_shown κs a r s ms ns p q = memory_alone p q

pub console_operations_carried_out : One console_operations.carried_out.ended console_operations_tells.carried_out.Reads.Learnt
console_operations_carried_out κs a r s ms ns p q = by_three p q

pub console_operations_listed : One console_operations.listed.ended console_operations_tells.listed.Reads.Learnt
console_operations_listed κs a r s ms ns p q = by_three p q

pub console_register_registered : One console_register.registered.ended console_register_tells.registered.Reads.Learnt
console_register_registered κs a r s ms ns p q = by_three p q

pub console_order_checked : One console_order.checked.ended console_order_tells.checked.Reads.Learnt
console_order_checked κs a r s ms ns p q = by_two p q

pub console_order_planned : One console_order.planned.ended console_order_tells.planned.Reads.Learnt
console_order_planned κs a r s ms ns p q = memory_alone p q

pub console_line-Console-answered : One console_line.Console.answered.ended console_line_tells.Console.answered.Reads.Learnt
console_line-Console-answered κs a r s ms ns p q = leaves_one p q

pub console_line-Console-ended : One console_line.Console.ended.ended console_line_tells.Console.ended.Reads.Learnt
console_line-Console-ended κs a r s ms ns p q = leaves_one p q
