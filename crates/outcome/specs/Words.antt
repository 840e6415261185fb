-- Each promise of these crates allows one outcome: a registry's words, and a slot's.
use Rattle.std.specs.Prelude.{refl}
use Rattle.rules.specs.Answers.{done_exact, option_answer_exact}
use Rattle.memory.specs.contracts as memory
use Rattle.memory.proofs as memory_tells
use Rattle.memory_lists.specs.contracts as memory_lists
use Rattle.memory_lists.proofs as memory_lists_tells
use Rattle.slot_words.specs.contracts as slot_words
use Rattle.slot_words.proofs as slot_words_tells
use Rattle.memory_life.specs.contracts as memory_life
use Rattle.memory_life.proofs as memory_life_tells
use Rattle.registry_table.specs.contracts as registry_table
use Rattle.registry_table.proofs as registry_table_tells
use Rattle.memory_places.specs.contracts as memory_places
use Rattle.memory_places.proofs as memory_places_tells
use Rattle.memory_rows.specs.contracts as memory_rows
use Rattle.memory_rows.proofs as memory_rows_tells
use Rattle.memory_entry.specs.contracts as memory_entry
use Rattle.memory_entry.proofs as memory_entry_tells
use Rattle.memory_providers.specs.contracts as memory_providers
use Rattle.memory_providers.proofs as memory_providers_tells
use Rattle.outcome.specs.One.{One, OneSeen}
use Rattle.outcome.specs.Equations.{by_equation, memory_alone, one_outcome, one_with_memory}

pub memory-Life-with_phase : One memory.Life.with_phase.ended memory_tells.Life.with_phase.Reads.Learnt
memory-Life-with_phase κs a r s ms ns p q = by_equation p q

pub memory-Life-begun : One memory.Life.begun.ended memory_tells.Life.begun.Reads.Learnt
memory-Life-begun κs a r s ms ns p q = by_equation p q

pub memory-Life-finished : One memory.Life.finished.ended memory_tells.Life.finished.Reads.Learnt
memory-Life-finished κs a r s ms ns p q = by_equation p q

pub memory-Life-with_root : One memory.Life.with_root.ended memory_tells.Life.with_root.Reads.Learnt
memory-Life-with_root κs a r s ms ns p q = by_equation p q

pub memory-Life-marked : One memory.Life.marked.ended memory_tells.Life.marked.Reads.Learnt
memory-Life-marked κs a r s ms ns p q = by_equation p q

pub memory_domain : One memory.domain.ended memory_tells.domain.Reads.Learnt
memory_domain κs a r s ms ns p q = by_equation p q

pub memory_first_id : One memory.first_id.ended memory_tells.first_id.Reads.Learnt
memory_first_id κs a r s ms ns p q = by_equation p q

pub memory_next_id : One memory.next_id.ended memory_tells.next_id.Reads.Learnt
memory_next_id κs a r s ms ns p q = by_equation p q

pub memory_occupied : One memory.occupied.ended memory_tells.occupied.Reads.Learnt
memory_occupied κs a r s ms ns p q = by_equation p q

pub memory_is_taken : One memory.is_taken.ended memory_tells.is_taken.Reads.Learnt
memory_is_taken κs a r s ms ns p q = by_equation p q

pub memory_find : One memory.find.ended memory_tells.find.Reads.Learnt
memory_find κs a r s ms ns p q = by_equation p q

pub memory_look_up : One memory.look_up.ended memory_tells.look_up.Reads.Learnt
memory_look_up κs a r s ms ns p q = by_equation p q

pub memory_id : One memory.id.ended memory_tells.id.Reads.Learnt
memory_id κs a r s ms ns p q = by_equation p q

pub memory_parent_of : One memory.parent_of.ended memory_tells.parent_of.Reads.Learnt
memory_parent_of κs a r s ms ns p q = by_equation p q

pub memory_is_child_of : One memory.is_child_of.ended memory_tells.is_child_of.Reads.Learnt
memory_is_child_of κs a r s ms ns p q = by_equation p q

pub memory_lists_some_words : OneSeen memory_lists.some_words.ended (λ κs r. r.now) memory_lists_tells.some_words.Reads.Learnt
memory_lists_some_words κs a r s ms ns p q = by_equation p q

pub memory_lists_at_most : One memory_lists.at_most.ended memory_lists_tells.at_most.Reads.Learnt
memory_lists_at_most κs a r s ms ns p q = by_equation p q

pub memory_lists_start : One memory_lists.start.ended memory_lists_tells.start.Reads.Learnt
memory_lists_start κs a r s ms ns p q = by_equation p q

pub memory_lists_dependencies : One memory_lists.dependencies.ended memory_lists_tells.dependencies.Reads.Learnt
memory_lists_dependencies κs a r s ms ns p q = by_equation p q

pub memory_lists_provisions : One memory_lists.provisions.ended memory_lists_tells.provisions.Reads.Learnt
memory_lists_provisions κs a r s ms ns p q = by_equation p q

pub memory_lists_realm_rows : One memory_lists.realm_rows.ended memory_lists_tells.realm_rows.Reads.Learnt
memory_lists_realm_rows κs a r s ms ns p q = by_equation p q

pub memory_lists_dependency_words : OneSeen memory_lists.dependency_words.ended (λ κs r. r.now) memory_lists_tells.dependency_words.Reads.Learnt
memory_lists_dependency_words κs a r s ms ns p q = by_equation p q

pub memory_lists_provision_words : OneSeen memory_lists.provision_words.ended (λ κs r. r.now) memory_lists_tells.provision_words.Reads.Learnt
memory_lists_provision_words κs a r s ms ns p q = by_equation p q

pub memory_lists_realm_words : OneSeen memory_lists.realm_words.ended (λ κs r. r.now) memory_lists_tells.realm_words.Reads.Learnt
memory_lists_realm_words κs a r s ms ns p q = by_equation p q

pub memory_lists_anchor : One memory_lists.anchor.ended memory_lists_tells.anchor.Reads.Learnt
memory_lists_anchor κs a r s ms ns p q = by_equation p q

pub slot_words_load : One slot_words.load.ended slot_words_tells.load.Reads.Learnt
slot_words_load κs a r s ms ns p q = by_equation p q

pub slot_words_store : One slot_words.store.ended slot_words_tells.store.Reads.Learnt
slot_words_store κs a r s ms ns p q = memory_alone p q

pub slot_words_assign : One slot_words.assign.ended slot_words_tells.assign.Reads.Learnt
slot_words_assign κs a r s ms ns p q = one_with_memory done_exact p q

pub slot_words_reject : One slot_words.reject.ended slot_words_tells.reject.Reads.Learnt
slot_words_reject κs a r s ms ns p q = one_with_memory done_exact p q

pub slot_words_cancel : One slot_words.cancel.ended slot_words_tells.cancel.Reads.Learnt
slot_words_cancel κs a r s ms ns p q = one_with_memory done_exact p q

pub memory_life_phase_of : One memory_life.phase_of.ended memory_life_tells.phase_of.Reads.Learnt
memory_life_phase_of κs a r s ms ns p q = by_equation p q

pub memory_life_load : One memory_life.load.ended memory_life_tells.load.Reads.Learnt
memory_life_load κs a r s ms ns p q = by_equation p q

pub memory_life_store : One memory_life.store.ended memory_life_tells.store.Reads.Learnt
memory_life_store κs a r s ms ns p q = memory_alone p q

pub memory_life_renew : One memory_life.renew.ended memory_life_tells.renew.Reads.Learnt
memory_life_renew κs a r s ms ns p q = memory_alone p q

pub registry_table_next : One registry_table.next.ended registry_table_tells.next.Reads.Learnt
registry_table_next κs a r s ms ns p q = by_equation p q

pub memory_places_registered : One memory_places.registered.ended memory_places_tells.registered.Reads.Learnt
memory_places_registered κs a r s ms ns p q = by_equation p q

pub memory_places_lowest_free : One memory_places.lowest_free.ended memory_places_tells.lowest_free.Reads.Learnt
memory_places_lowest_free κs a r s ms ns p q = by_equation p q

pub memory_places_occupy : One memory_places.occupy.ended memory_places_tells.occupy.Reads.Learnt
memory_places_occupy κs a r s ms ns p q = memory_alone p q

pub memory_places_vacate : One memory_places.vacate.ended memory_places_tells.vacate.Reads.Learnt
memory_places_vacate κs a r s ms ns p q = memory_alone p q

pub memory_places_rows_in_use : One memory_places.rows_in_use.ended memory_places_tells.rows_in_use.Reads.Learnt
memory_places_rows_in_use κs a r s ms ns p q = by_equation p q

pub memory_places_id_from : One memory_places.id_from.ended memory_places_tells.id_from.Reads.Learnt
memory_places_id_from κs a r s ms ns p q = one_outcome option_answer_exact p q

pub memory_rows_free_place : One memory_rows.free_place.ended memory_rows_tells.free_place.Reads.Learnt
memory_rows_free_place κs a r s ms ns p q = memory_alone p q

pub memory_entry_fill_place : One memory_entry.fill_place.ended memory_entry_tells.fill_place.Reads.Learnt
memory_entry_fill_place κs a r s ms ns p q = memory_alone p q

pub memory_providers_provides : One memory_providers.provides.ended memory_providers_tells.provides.Reads.Learnt
memory_providers_provides κs a r s ms ns p q = by_equation p q

pub memory_providers_provider : One memory_providers.provider.ended memory_providers_tells.provider.Reads.Learnt
memory_providers_provider κs a r s ms ns p q = by_equation p q

pub memory_providers_one_provided : One memory_providers.one_provided.ended memory_providers_tells.one_provided.Reads.Learnt
memory_providers_one_provided κs a r s ms ns p q = by_equation p q
