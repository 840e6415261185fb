-- Each promise of these crates allows one outcome: what a load reads, asks and writes.
use Rattle.std.specs.Prelude.{ℕ, List}
use Rattle.rules.specs.Answers.{done_exact}
use Rattle.memory.specs.contracts as memory
use Rattle.memory.proofs as memory_tells
use Rattle.memory_life.specs.contracts as memory_life
use Rattle.memory_life.proofs as memory_life_tells
use Rattle.memory_values.specs.contracts as memory_values
use Rattle.memory_values.proofs as memory_values_tells
use Rattle.memory_keys.specs.contracts as memory_keys
use Rattle.memory_keys.proofs as memory_keys_tells
use Rattle.memory_index.specs.contracts as memory_index
use Rattle.memory_index.proofs as memory_index_tells
use Rattle.memory_providers.specs.contracts as memory_providers
use Rattle.memory_providers.proofs as memory_providers_tells
use Rattle.ports_bits.specs.contracts as ports_bits
use Rattle.ports_bits.proofs as ports_bits_tells
use Rattle.memory_load.specs.contracts as memory_load
use Rattle.memory_load.proofs as memory_load_tells
use Rattle.ports_given.specs.contracts as ports_given
use Rattle.ports_given.proofs as ports_given_tells
use Rattle.registry_claims.specs.contracts as registry_claims
use Rattle.registry_claims.proofs as registry_claims_tells
use Rattle.registry_joins.specs.contracts as registry_joins
use Rattle.registry_joins.proofs as registry_joins_tells
use Rattle.registry_cycles.specs.contracts as registry_cycles
use Rattle.registry_cycles.proofs as registry_cycles_tells
use Rattle.text_read_number.specs.contracts as text_read_number
use Rattle.text_read_number.proofs as text_read_number_tells
use Rattle.text_read.specs.contracts as text_read
use Rattle.text_read.proofs as text_read_tells
use Rattle.text_read_block.specs.contracts as text_read_block
use Rattle.text_read_block.proofs as text_read_block_tells
use Rattle.registry_block.specs.contracts as registry_block
use Rattle.registry_block.proofs as registry_block_tells
use Rattle.registry_load.specs.contracts as registry_load
use Rattle.registry_load.proofs as registry_load_tells
use Rattle.console_load.specs.contracts as console_load
use Rattle.console_load.proofs as console_load_tells
use Rattle.text_read_number.specs.Reads.{stands_one, reads_one}
use Rattle.text_read.specs.Ways.{provision_one}
use Rattle.text_read_block.specs.Blocks.{block_one}
use Rattle.outcome.specs.Records.{ends_one}
use Rattle.outcome.specs.One.{One, OneSeen}
use Rattle.outcome.specs.Equations.{by_equation, by_two, memory_alone, one_outcome, one_with_memory}

pub memory_open_words : One memory.open_words.ended memory_tells.open_words.Reads.Learnt
memory_open_words κs a r s ms ns p q = memory_alone p q

pub memory_parent_from : One memory.parent_from.ended memory_tells.parent_from.Reads.Learnt
memory_parent_from κs a r s ms ns p q = by_equation p q

pub memory_life_decode : One memory_life.decode.ended memory_life_tells.decode.Reads.Learnt
memory_life_decode κs a r s ms ns p q = by_equation p q

pub memory_values_put_values : One memory_values.put_values.ended memory_values_tells.put_values.Reads.Learnt
memory_values_put_values κs a r s ms ns p q = memory_alone p q

pub memory_providers_offered_words : OneSeen memory_providers.offered_words.ended (λ κs r. r.now) memory_providers_tells.offered_words.Reads.Learnt
memory_providers_offered_words κs a r s ms ns p q = by_equation p q

pub ports_bits_with_bit : One ports_bits.with_bit.ended ports_bits_tells.with_bit.Reads.Learnt
ports_bits_with_bit κs a r s ms ns p q = by_equation p q

pub ports_bits_has_bit : One ports_bits.has_bit.ended ports_bits_tells.has_bit.Reads.Learnt
ports_bits_has_bit κs a r s ms ns p q = by_equation p q

pub ports_bits_key_word : One ports_bits.key_word.ended ports_bits_tells.key_word.Reads.Learnt
ports_bits_key_word κs a r s ms ns p q = by_equation p q

pub memory_providers_key_bits : One memory_providers.key_bits.ended memory_providers_tells.key_bits.Reads.Learnt
memory_providers_key_bits κs a r s ms ns p q = by_equation p q

pub memory_providers_meets : One memory_providers.meets.ended memory_providers_tells.meets.Reads.Learnt
memory_providers_meets κs a r s ms ns p q = by_equation p q

pub memory_index_index : One memory_index.index.ended memory_index_tells.index.Reads.Learnt
memory_index_index κs a r s ms ns p q = by_equation p q

pub memory_index_provider_by : One memory_index.provider_by.ended memory_index_tells.provider_by.Reads.Learnt
memory_index_provider_by κs a r s ms ns p q = by_equation p q

pub memory_index-Index-new : OneSeen memory_index.Index.new.ended {X = λ κs. List ℕ × List ℕ} (λ κs r. (r.memory.now, r.words)) memory_index_tells.Index.new.Reads.Learnt
memory_index-Index-new κs a r s ms ns p q = λ i. (by_equation p.0 q.0 i, by_equation p.1 q.1 i)

pub memory_index-Index-provider : One memory_index.Index.provider.ended memory_index_tells.Index.provider.Reads.Learnt
memory_index-Index-provider κs a r s ms ns p q = by_equation p q

pub memory_keys_provider_by : One memory_keys.provider_by.ended memory_keys_tells.provider_by.Reads.Learnt
memory_keys_provider_by κs a r s ms ns p q = by_two p q

pub memory_load_load_place : One memory_load.load_place.ended memory_load_tells.load_place.Reads.Learnt
memory_load_load_place κs a r s ms ns p q = memory_alone p q

pub memory_load_copy_words : One memory_load.copy_words.ended memory_load_tells.copy_words.Reads.Learnt
memory_load_copy_words κs a r s ms ns p q = memory_alone p q

pub ports_given_resolved : One ports_given.resolved.ended ports_given_tells.resolved.Reads.Learnt
ports_given_resolved κs a r s ms ns p q = by_equation p q

pub ports_given_given : One ports_given.given.ended ports_given_tells.given.Reads.Learnt
ports_given_given κs a r s ms ns p q = by_equation p q

pub registry_claims_differ : One registry_claims.differ.ended registry_claims_tells.differ.Reads.Learnt
registry_claims_differ κs a r s ms ns p q = by_equation p q

pub registry_joins_ports_fit : One registry_joins.ports_fit.ended registry_joins_tells.ports_fit.Reads.Learnt
registry_joins_ports_fit κs a r s ms ns p q = by_equation p q

pub registry_cycles_all_hold : One registry_cycles.all_hold.ended registry_cycles_tells.all_hold.Reads.Learnt
registry_cycles_all_hold κs a r s ms ns p q = by_equation p q

pub text_read_number_literal : One text_read_number.literal.ended text_read_number_tells.literal.Reads.Learnt
text_read_number_literal κs a r s ms ns p q = stands_one r s p q

pub text_read_number_to_end : One text_read_number.to_end.ended text_read_number_tells.to_end.Reads.Learnt
text_read_number_to_end κs a r s ms ns p q = reads_one p q

pub text_read_number_to_comma : One text_read_number.to_comma.ended text_read_number_tells.to_comma.Reads.Learnt
text_read_number_to_comma κs a r s ms ns p q = reads_one p q

pub text_read_number_line : One text_read.number_line.ended text_read_tells.number_line.Reads.Learnt
text_read_number_line κs a r s ms ns p q = reads_one p q

pub text_read_phase_line : One text_read.phase_line.ended text_read_tells.phase_line.Reads.Learnt
text_read_phase_line κs a r s ms ns p q = reads_one p q

pub text_read_mark_line : One text_read.mark_line.ended text_read_tells.mark_line.Reads.Learnt
text_read_mark_line κs a r s ms ns p q = reads_one p q

pub text_read_option_line : One text_read.option_line.ended text_read_tells.option_line.Reads.Learnt
text_read_option_line κs a r s ms ns p q = reads_one p q

pub text_read_pair_line : One text_read.pair_line.ended text_read_tells.pair_line.Reads.Learnt
text_read_pair_line κs a r s ms ns p q = reads_one p q

pub text_read_provision_line : One text_read.provision_line.ended text_read_tells.provision_line.Reads.Learnt
text_read_provision_line κs a r s ms ns p q = provision_one r s p q

pub text_read_edition_lines : One text_read.edition_lines.ended text_read_tells.edition_lines.Reads.Learnt
text_read_edition_lines κs a r s ms ns p q = reads_one p q

pub text_read_root_lines : One text_read.root_lines.ended text_read_tells.root_lines.Reads.Learnt
text_read_root_lines κs a r s ms ns p q = reads_one p q

pub text_read_block_read_block : One text_read_block.read_block.ended text_read_block_tells.read_block.Reads.Learnt
text_read_block_read_block κs a r s ms ns p q = block_one _ _ _ r s p q

pub registry_block-Numbers-of : One registry_block.Numbers.of.ended registry_block_tells.Numbers.of.Reads.Learnt
registry_block-Numbers-of κs a r s ms ns p q = by_equation p q

pub registry_block_join : One registry_block.join.ended registry_block_tells.join.Reads.Learnt
registry_block_join κs a r s ms ns p q = by_two (p.answer, p.memory) (q.answer, q.memory)

pub registry_load_load : One registry_load.load.ended registry_load_tells.load.Reads.Learnt
registry_load_load κs a r s ms ns p q = one_with_memory done_exact p q

pub console_load_awaits : One console_load.awaits.ended console_load_tells.awaits.Reads.Learnt
console_load_awaits κs a r s ms ns p q = by_equation p q

pub console_load_loaded : One console_load.loaded.ended console_load_tells.loaded.Reads.Learnt
console_load_loaded κs a r s ms ns p q = ends_one p q
