-- Each promise of these crates allows one outcome: values, settling, offers and registration.
use Rattle.rules.specs.Answers.{done_exact, whether_exact, number_exact, perhaps_exact, option_answer_exact}
use Rattle.registry_queries.specs.Answers.{port_exact}
use Rattle.registry_values.specs.Answers.{reading_exact}
use Rattle.memory_values.specs.contracts as memory_values
use Rattle.memory_values.proofs as memory_values_tells
use Rattle.registry_ready_finish.specs.contracts as registry_ready_finish
use Rattle.registry_ready_finish.proofs as registry_ready_finish_tells
use Rattle.registry_values.specs.contracts as registry_values
use Rattle.registry_values.proofs as registry_values_tells
use Rattle.registry_offer.specs.contracts as registry_offer
use Rattle.registry_offer.proofs as registry_offer_tells
use Rattle.registry_register.specs.contracts as registry_register
use Rattle.registry_register.proofs as registry_register_tells
use Rattle.outcome.specs.One.{One}
use Rattle.outcome.specs.Equations.{by_equation, memory_alone, one_outcome, one_with_memory}

pub memory_values_value_at : One memory_values.value_at.ended memory_values_tells.value_at.Reads.Learnt
memory_values_value_at κs a r s ms ns p q = by_equation p q

pub memory_values_place_of : One memory_values.place_of.ended memory_values_tells.place_of.Reads.Learnt
memory_values_place_of κs a r s ms ns p q = by_equation p q

pub memory_values_value_of : One memory_values.value_of.ended memory_values_tells.value_of.Reads.Learnt
memory_values_value_of κs a r s ms ns p q = by_equation p q

pub memory_values_first_lacking : One memory_values.first_lacking.ended memory_values_tells.first_lacking.Reads.Learnt
memory_values_first_lacking κs a r s ms ns p q = by_equation p q

pub memory_values_set_value : One memory_values.set_value.ended memory_values_tells.set_value.Reads.Learnt
memory_values_set_value κs a r s ms ns p q = memory_alone p q

pub memory_values_drop_values : One memory_values.drop_values.ended memory_values_tells.drop_values.Reads.Learnt
memory_values_drop_values κs a r s ms ns p q = memory_alone p q

pub registry_ready_finish_ready : One registry_ready_finish.ready.ended registry_ready_finish_tells.ready.Reads.Learnt
registry_ready_finish_ready κs a r s ms ns p q = one_with_memory done_exact p q

pub registry_ready_finish_finish : One registry_ready_finish.finish.ended registry_ready_finish_tells.finish.Reads.Learnt
registry_ready_finish_finish κs a r s ms ns p q = one_with_memory done_exact p q

pub registry_values_read : One registry_values.read.ended registry_values_tells.read.Reads.Learnt
registry_values_read κs a r s ms ns p q = one_outcome reading_exact p q

pub registry_values_visible : One registry_values.visible.ended registry_values_tells.visible.Reads.Learnt
registry_values_visible κs a r s ms ns p q = one_outcome option_answer_exact p q

pub registry_values_own : One registry_values.own.ended registry_values_tells.own.Reads.Learnt
registry_values_own κs a r s ms ns p q = one_outcome perhaps_exact p q

pub registry_values_missing : One registry_values.missing.ended registry_values_tells.missing.Reads.Learnt
registry_values_missing κs a r s ms ns p q = one_outcome port_exact p q

pub registry_values_matches : One registry_values.matches.ended registry_values_tells.matches.Reads.Learnt
registry_values_matches κs a r s ms ns p q = one_outcome whether_exact p q

pub registry_values_declares : One registry_values.declares.ended registry_values_tells.declares.Reads.Learnt
registry_values_declares κs a r s ms ns p q = one_outcome whether_exact p q

pub registry_offer_offer : One registry_offer.offer.ended registry_offer_tells.offer.Reads.Learnt
registry_offer_offer κs a r s ms ns p q = one_with_memory done_exact p q

pub registry_register_early_verdict : One registry_register.early_verdict.ended registry_register_tells.early_verdict.Reads.Learnt
registry_register_early_verdict κs a r s ms ns p q = by_equation p q

pub registry_register_claim_verdict : One registry_register.claim_verdict.ended registry_register_tells.claim_verdict.Reads.Learnt
registry_register_claim_verdict κs a r s ms ns p q = by_equation p q

pub registry_register_late_verdict : One registry_register.late_verdict.ended registry_register_tells.late_verdict.Reads.Learnt
registry_register_late_verdict κs a r s ms ns p q = by_equation p q

pub registry_register_register : One registry_register.register.ended registry_register_tells.register.Reads.Learnt
registry_register_register κs a r s ms ns p q = one_with_memory number_exact p q
