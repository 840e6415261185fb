-- Each promise of these crates allows one outcome: what a host is told, and what it calls.
use Rattle.std.specs.Prelude.{refl, Ok, Err}
use Rattle.host_answers.specs.contracts as host_answers
use Rattle.host_answers.proofs as host_answers_tells
use Rattle.host.specs.contracts as host
use Rattle.host.proofs as host_tells
use Rattle.outcome.specs.One.{One, OneAtEach}
use Rattle.outcome.specs.Equations.{by_equation, by_three, by_two, by_two_handed, memory_alone, one_number}

pub host_answers_done : OneAtEach _ host_answers.done.ended host_answers_tells.done.Reads.Learnt
host_answers_done E l b d κs (Ok v, rest) r s ms ns p q = (by_equation p q, refl)
host_answers_done E l b d κs (Err w, rest) r s ms ns p q = (by_equation p q, refl)

pub host_answers_whether : OneAtEach _ host_answers.whether.ended host_answers_tells.whether.Reads.Learnt
host_answers_whether E l b d κs (Ok v, rest) r s ms ns p q = by_two_handed refl p q
host_answers_whether E l b d κs (Err w, rest) r s ms ns p q = by_two_handed refl p q

pub host_answers_number : OneAtEach _ host_answers.number.ended host_answers_tells.number.Reads.Learnt
host_answers_number E l b d κs (Ok v, rest) r s ms ns p q = by_two_handed refl p q
host_answers_number E l b d κs (Err w, rest) r s ms ns p q = by_two_handed refl p q

pub host_answers_perhaps : OneAtEach _ host_answers.perhaps.ended host_answers_tells.perhaps.Reads.Learnt
host_answers_perhaps E l b d κs (Ok v, rest) r s ms ns p q = by_two_handed refl p q
host_answers_perhaps E l b d κs (Err w, rest) r s ms ns p q = by_two_handed refl p q

pub host_answers_port : OneAtEach _ host_answers.port.ended host_answers_tells.port.Reads.Learnt
host_answers_port E l b d κs (Ok v, rest) r s ms ns p q = by_two_handed refl p q
host_answers_port E l b d κs (Err w, rest) r s ms ns p q = by_two_handed refl p q

pub host_answers_edition : OneAtEach _ host_answers.edition.ended host_answers_tells.edition.Reads.Learnt
host_answers_edition E l b d κs (Ok v, rest) r s ms ns p q = by_two_handed refl p q
host_answers_edition E l b d κs (Err w, rest) r s ms ns p q = by_two_handed refl p q

pub host_answers_root : OneAtEach _ host_answers.root.ended host_answers_tells.root.Reads.Learnt
host_answers_root E l b d κs (Ok v, rest) r s ms ns p q = by_two_handed refl p q
host_answers_root E l b d κs (Err w, rest) r s ms ns p q = by_two_handed refl p q

pub host_answers_resolved : OneAtEach _ host_answers.resolved.ended host_answers_tells.resolved.Reads.Learnt
host_answers_resolved E l b d κs (Ok v, rest) r s ms ns p q = by_two_handed refl p q
host_answers_resolved E l b d κs (Err w, rest) r s ms ns p q = by_two_handed refl p q

pub host_answers_optional : One host_answers.optional.ended host_answers_tells.optional.Reads.Learnt
host_answers_optional κs a r s ms ns p q = by_two p q

pub host_answers_begun : OneAtEach _ host_answers.begun.ended host_answers_tells.begun.Reads.Learnt
host_answers_begun E l b d κs (Ok v, rest) r s ms ns p q = by_two_handed refl p q
host_answers_begun E l b d κs (Err w, rest) r s ms ns p q = by_two_handed refl p q

pub host_answers_replaced : OneAtEach _ host_answers.replaced.ended host_answers_tells.replaced.Reads.Learnt
host_answers_replaced E l b d κs (Ok v, rest) r s ms ns p q = by_two_handed refl p q
host_answers_replaced E l b d κs (Err w, rest) r s ms ns p q = by_two_handed refl p q

pub host_answers_admitted : OneAtEach _ host_answers.admitted.ended host_answers_tells.admitted.Reads.Learnt
host_answers_admitted E l b d κs (Ok v, rest) r s ms ns p q = by_two_handed refl p q
host_answers_admitted E l b d κs (Err w, rest) r s ms ns p q = by_two_handed refl p q

pub host_answers_called : OneAtEach _ host_answers.called.ended host_answers_tells.called.Reads.Learnt
host_answers_called E l b d κs (Ok v, rest) r s ms ns p q = by_two_handed refl p q
host_answers_called E l b d κs (Err w, rest) r s ms ns p q = by_two_handed refl p q

pub host_answers_child : OneAtEach _ host_answers.child.ended host_answers_tells.child.Reads.Learnt
host_answers_child E l b d κs (Ok v, rest) r s ms ns p q = by_two_handed refl p q
host_answers_child E l b d κs (Err w, rest) r s ms ns p q = by_two_handed refl p q

pub host_answers_reading : OneAtEach _ host_answers.reading.ended host_answers_tells.reading.Reads.Learnt
host_answers_reading E l b d κs (Ok v, rest) r s ms ns p q = by_two_handed refl p q
host_answers_reading E l b d κs (Err w, rest) r s ms ns p q = by_two_handed refl p q

pub host_answers_yes_or_no : One host_answers.yes_or_no.ended host_answers_tells.yes_or_no.Reads.Learnt
host_answers_yes_or_no κs a r s ms ns p q = by_two p q

pub host_vaskelbi_admit : One host.vaskelbi_admit.ended host_tells.vaskelbi_admit.Reads.Learnt
host_vaskelbi_admit κs a r s ms ns p q = by_three p q

pub host_vaskelbi_admits : One host.vaskelbi_admits.ended host_tells.vaskelbi_admits.Reads.Learnt
host_vaskelbi_admits κs a r s ms ns p q = by_two p q

pub host_vaskelbi_call : One host.vaskelbi_call.ended host_tells.vaskelbi_call.Reads.Learnt
host_vaskelbi_call κs a r s ms ns p q = by_three p q

pub host_vaskelbi_slot_pending : One host.vaskelbi_slot_pending.ended host_tells.vaskelbi_slot_pending.Reads.Learnt
host_vaskelbi_slot_pending κs a r s ms ns p q = memory_alone p q

pub host_vaskelbi_slot_assigned : One host.vaskelbi_slot_assigned.ended host_tells.vaskelbi_slot_assigned.Reads.Learnt
host_vaskelbi_slot_assigned κs a r s ms ns p q = memory_alone p q

pub host_vaskelbi_slot_assign : One host.vaskelbi_slot_assign.ended host_tells.vaskelbi_slot_assign.Reads.Learnt
host_vaskelbi_slot_assign κs a r s ms ns p q = by_two p q

pub host_vaskelbi_slot_reject : One host.vaskelbi_slot_reject.ended host_tells.vaskelbi_slot_reject.Reads.Learnt
host_vaskelbi_slot_reject κs a r s ms ns p q = by_two p q

pub host_vaskelbi_slot_cancel : One host.vaskelbi_slot_cancel.ended host_tells.vaskelbi_slot_cancel.Reads.Learnt
host_vaskelbi_slot_cancel κs a r s ms ns p q = by_two p q

pub host_vaskelbi_resolve : One host.vaskelbi_resolve.ended host_tells.vaskelbi_resolve.Reads.Learnt
host_vaskelbi_resolve κs a r s ms ns p q = by_two p q

pub host_vaskelbi_lookup : One host.vaskelbi_lookup.ended host_tells.vaskelbi_lookup.Reads.Learnt
host_vaskelbi_lookup κs a r s ms ns p q = by_two p q

pub host_vaskelbi_open : One host.vaskelbi_open.ended host_tells.vaskelbi_open.Reads.Learnt
host_vaskelbi_open κs a r s ms ns p q = memory_alone p q

pub host_vaskelbi_list_dependencies : One host.vaskelbi_list_dependencies.ended host_tells.vaskelbi_list_dependencies.Reads.Learnt
host_vaskelbi_list_dependencies κs a r s ms ns p q = by_three p q

pub host_vaskelbi_list_provisions : One host.vaskelbi_list_provisions.ended host_tells.vaskelbi_list_provisions.Reads.Learnt
host_vaskelbi_list_provisions κs a r s ms ns p q = by_three p q

pub host_vaskelbi_list_realms : One host.vaskelbi_list_realms.ended host_tells.vaskelbi_list_realms.Reads.Learnt
host_vaskelbi_list_realms κs a r s ms ns p q = by_three p q

pub host_vaskelbi_write_text : One host.vaskelbi_write_text.ended host_tells.vaskelbi_write_text.Reads.Learnt
host_vaskelbi_write_text κs a r s ms ns p q = by_three p q

pub host_vaskelbi_load : One host.vaskelbi_load.ended host_tells.vaskelbi_load.Reads.Learnt
host_vaskelbi_load κs a r s ms ns p q = by_two p q

pub host_vaskelbi_begin : One host.vaskelbi_begin.ended host_tells.vaskelbi_begin.Reads.Learnt
host_vaskelbi_begin κs a r s ms ns p q = by_three p q

pub host_vaskelbi_ready : One host.vaskelbi_ready.ended host_tells.vaskelbi_ready.Reads.Learnt
host_vaskelbi_ready κs a r s ms ns p q = by_two p q

pub host_vaskelbi_fail : One host.vaskelbi_fail.ended host_tells.vaskelbi_fail.Reads.Learnt
host_vaskelbi_fail κs a r s ms ns p q = by_two p q

pub host_vaskelbi_unload : One host.vaskelbi_unload.ended host_tells.vaskelbi_unload.Reads.Learnt
host_vaskelbi_unload κs a r s ms ns p q = by_two p q

pub host_vaskelbi_finish : One host.vaskelbi_finish.ended host_tells.vaskelbi_finish.Reads.Learnt
host_vaskelbi_finish κs a r s ms ns p q = by_two p q

pub host_vaskelbi_parent : One host.vaskelbi_parent.ended host_tells.vaskelbi_parent.Reads.Learnt
host_vaskelbi_parent κs a r s ms ns p q = by_two p q

pub host_vaskelbi_anchor : One host.vaskelbi_anchor.ended host_tells.vaskelbi_anchor.Reads.Learnt
host_vaskelbi_anchor κs a r s ms ns p q = by_two p q

pub host_vaskelbi_phase : One host.vaskelbi_phase.ended host_tells.vaskelbi_phase.Reads.Learnt
host_vaskelbi_phase κs a r s ms ns p q = by_two p q

pub host_vaskelbi_retired : One host.vaskelbi_retired.ended host_tells.vaskelbi_retired.Reads.Learnt
host_vaskelbi_retired κs a r s ms ns p q = by_two p q

pub host_vaskelbi_generation : One host.vaskelbi_generation.ended host_tells.vaskelbi_generation.Reads.Learnt
host_vaskelbi_generation κs a r s ms ns p q = by_two p q

pub host_vaskelbi_revision : One host.vaskelbi_revision.ended host_tells.vaskelbi_revision.Reads.Learnt
host_vaskelbi_revision κs a r s ms ns p q = by_two p q

pub host_vaskelbi_payload : One host.vaskelbi_payload.ended host_tells.vaskelbi_payload.Reads.Learnt
host_vaskelbi_payload κs a r s ms ns p q = by_two p q

pub host_vaskelbi_edition : One host.vaskelbi_edition.ended host_tells.vaskelbi_edition.Reads.Learnt
host_vaskelbi_edition κs a r s ms ns p q = by_two p q

pub host_vaskelbi_root : One host.vaskelbi_root.ended host_tells.vaskelbi_root.Reads.Learnt
host_vaskelbi_root κs a r s ms ns p q = by_two p q

pub host_vaskelbi_id_from : One host.vaskelbi_id_from.ended host_tells.vaskelbi_id_from.Reads.Learnt
host_vaskelbi_id_from κs a r s ms ns p q = by_two p q

pub host_vaskelbi_domain : One host.vaskelbi_domain.ended host_tells.vaskelbi_domain.Reads.Learnt
host_vaskelbi_domain κs a r s ms ns p q = one_number p q

pub host_vaskelbi_first : One host.vaskelbi_first.ended host_tells.vaskelbi_first.Reads.Learnt
host_vaskelbi_first κs a r s ms ns p q = one_number p q

pub host_vaskelbi_next : One host.vaskelbi_next.ended host_tells.vaskelbi_next.Reads.Learnt
host_vaskelbi_next κs a r s ms ns p q = one_number p q

pub host_vaskelbi_count : One host.vaskelbi_count.ended host_tells.vaskelbi_count.Reads.Learnt
host_vaskelbi_count κs a r s ms ns p q = one_number p q

pub host_vaskelbi_rows : One host.vaskelbi_rows.ended host_tells.vaskelbi_rows.Reads.Learnt
host_vaskelbi_rows κs a r s ms ns p q = one_number p q

pub host_vaskelbi_register : One host.vaskelbi_register.ended host_tells.vaskelbi_register.Reads.Learnt
host_vaskelbi_register κs a r s ms ns p q = by_three p q

pub host_vaskelbi_register_child : One host.vaskelbi_register_child.ended host_tells.vaskelbi_register_child.Reads.Learnt
host_vaskelbi_register_child κs a r s ms ns p q = by_three p q

pub host_vaskelbi_replace : One host.vaskelbi_replace.ended host_tells.vaskelbi_replace.Reads.Learnt
host_vaskelbi_replace κs a r s ms ns p q = by_three p q

pub host_vaskelbi_fits : One host.vaskelbi_fits.ended host_tells.vaskelbi_fits.Reads.Learnt
host_vaskelbi_fits κs a r s ms ns p q = by_two p q

pub host_vaskelbi_retire : One host.vaskelbi_retire.ended host_tells.vaskelbi_retire.Reads.Learnt
host_vaskelbi_retire κs a r s ms ns p q = by_two p q

pub host_vaskelbi_retire_child : One host.vaskelbi_retire_child.ended host_tells.vaskelbi_retire_child.Reads.Learnt
host_vaskelbi_retire_child κs a r s ms ns p q = by_two p q

pub host_vaskelbi_child : One host.vaskelbi_child.ended host_tells.vaskelbi_child.Reads.Learnt
host_vaskelbi_child κs a r s ms ns p q = by_two p q

pub host_vaskelbi_remove : One host.vaskelbi_remove.ended host_tells.vaskelbi_remove.Reads.Learnt
host_vaskelbi_remove κs a r s ms ns p q = by_two p q

pub host_vaskelbi_offer : One host.vaskelbi_offer.ended host_tells.vaskelbi_offer.Reads.Learnt
host_vaskelbi_offer κs a r s ms ns p q = by_two p q

pub host_vaskelbi_read : One host.vaskelbi_read.ended host_tells.vaskelbi_read.Reads.Learnt
host_vaskelbi_read κs a r s ms ns p q = by_two p q

pub host_vaskelbi_visible : One host.vaskelbi_visible.ended host_tells.vaskelbi_visible.Reads.Learnt
host_vaskelbi_visible κs a r s ms ns p q = by_two p q

pub host_vaskelbi_own : One host.vaskelbi_own.ended host_tells.vaskelbi_own.Reads.Learnt
host_vaskelbi_own κs a r s ms ns p q = by_two p q

pub host_vaskelbi_missing : One host.vaskelbi_missing.ended host_tells.vaskelbi_missing.Reads.Learnt
host_vaskelbi_missing κs a r s ms ns p q = by_two p q

pub host_vaskelbi_matches : One host.vaskelbi_matches.ended host_tells.vaskelbi_matches.Reads.Learnt
host_vaskelbi_matches κs a r s ms ns p q = by_two p q

pub host_vaskelbi_declares : One host.vaskelbi_declares.ended host_tells.vaskelbi_declares.Reads.Learnt
host_vaskelbi_declares κs a r s ms ns p q = by_two p q

pub host_vaskelbi_plan_order : One host.vaskelbi_plan_order.ended host_tells.vaskelbi_plan_order.Reads.Learnt
host_vaskelbi_plan_order κs a r s ms ns p q = by_three p q

pub host_vaskelbi_check_order : One host.vaskelbi_check_order.ended host_tells.vaskelbi_check_order.Reads.Learnt
host_vaskelbi_check_order κs a r s ms ns p q = by_two p q
