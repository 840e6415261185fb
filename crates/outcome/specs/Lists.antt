-- Each promise of these crates allows one outcome: the forms that the rules and the code share, and lists of keys and ports.
use Rattle.ports_realms.specs.Answers.{resolved_exact}
use Rattle.slot_child.specs.Exact.{decided_exact, slot_exact}
use Rattle.rules_types.specs.contracts as rules_types
use Rattle.rules_types.proofs as rules_types_tells
use Rattle.rules.specs.Answers.{number_exact}
use Rattle.slot_child.specs.contracts as slot_child
use Rattle.slot_child.proofs as slot_child_tells
use Rattle.ports_listed.specs.contracts as ports_listed
use Rattle.ports_listed.proofs as ports_listed_tells
use Rattle.ports.specs.contracts as ports
use Rattle.ports.proofs as ports_tells
use Rattle.ports_realms.specs.contracts as ports_realms
use Rattle.ports_realms.proofs as ports_realms_tells
use Rattle.ports_resolved.specs.contracts as ports_resolved
use Rattle.ports_resolved.proofs as ports_resolved_tells
use Rattle.ports_inherited.specs.contracts as ports_inherited
use Rattle.ports_inherited.proofs as ports_inherited_tells
use Rattle.outcome.specs.One.{One, OneSeen}
use Rattle.outcome.specs.Equations.{by_equation, by_two, one_outcome, one_with_memory}

pub rules_types-Port-new : One rules_types.Port.new.ended rules_types_tells.Port.new.Reads.Learnt
rules_types-Port-new κs a r s ms ns p q = by_equation p q

pub rules_types-Port-in_default_realm : One rules_types.Port.in_default_realm.ended rules_types_tells.Port.in_default_realm.Reads.Learnt
rules_types-Port-in_default_realm κs a r s ms ns p q = by_equation p q

pub rules_types-Refusal-number : One rules_types.Refusal.number.ended rules_types_tells.Refusal.number.Reads.Learnt
rules_types-Refusal-number κs a r s ms ns p q = by_equation p q

pub rules_types-Edition-number : One rules_types.Edition.number.ended rules_types_tells.Edition.number.Reads.Learnt
rules_types-Edition-number κs a r s ms ns p q = by_equation p q

pub rules_types-Edition-default : One rules_types.Edition.default.ended rules_types_tells.Edition.default.Reads.Learnt
rules_types-Edition-default κs a r s ms ns p q = by_equation p q

pub rules_types-Edition-absent : One rules_types.Edition.absent.ended rules_types_tells.Edition.absent.Reads.Learnt
rules_types-Edition-absent κs a r s ms ns p q = by_equation p q

pub rules_types-Phase-number : One rules_types.Phase.number.ended rules_types_tells.Phase.number.Reads.Learnt
rules_types-Phase-number κs a r s ms ns p q = by_equation p q

pub rules_types-Generation-of : One rules_types.Generation.of.ended rules_types_tells.Generation.of.Reads.Learnt
rules_types-Generation-of κs a r s ms ns p q = by_equation p q

pub rules_types-Generation-next : One rules_types.Generation.next.ended rules_types_tells.Generation.next.Reads.Learnt
rules_types-Generation-next κs a r s ms ns p q = by_equation p q

pub slot_child-Identity-is_of : One slot_child.Identity.is_of.ended slot_child_tells.Identity.is_of.Reads.Learnt
slot_child-Identity-is_of κs a r s ms ns p q = by_equation p q

pub slot_child-Slot-pending : One slot_child.Slot.pending.ended slot_child_tells.Slot.pending.Reads.Learnt
slot_child-Slot-pending κs a r s ms ns p q = one_outcome slot_exact p q

pub slot_child-Slot-assigned : One slot_child.Slot.assigned.ended slot_child_tells.Slot.assigned.Reads.Learnt
slot_child-Slot-assigned κs a r s ms ns p q = one_outcome slot_exact p q

pub slot_child-Slot-assign : One slot_child.Slot.assign.ended slot_child_tells.Slot.assign.Reads.Learnt
slot_child-Slot-assign κs a r s ms ns p q = one_outcome decided_exact p q

pub slot_child-Slot-reject : One slot_child.Slot.reject.ended slot_child_tells.Slot.reject.Reads.Learnt
slot_child-Slot-reject κs a r s ms ns p q = one_outcome decided_exact p q

pub slot_child-Slot-cancel : One slot_child.Slot.cancel.ended slot_child_tells.Slot.cancel.Reads.Learnt
slot_child-Slot-cancel κs a r s ms ns p q = one_outcome decided_exact p q

pub ports_listed_list_ports : One ports_listed.list_ports.ended ports_listed_tells.list_ports.Reads.Learnt
ports_listed_list_ports κs a r s ms ns p q = one_with_memory number_exact p q

pub ports_realms_edition : One ports_realms.edition.ended ports_realms_tells.edition.Reads.Learnt
ports_realms_edition κs a r s ms ns p q = by_equation p q

pub ports_realms_default_realm : One ports_realms.default_realm.ended ports_realms_tells.default_realm.Reads.Learnt
ports_realms_default_realm κs a r s ms ns p q = by_equation p q

pub ports_realms_rows : OneSeen ports_realms.rows.ended (λ κs r. r.now) ports_realms_tells.rows.Reads.Learnt
ports_realms_rows κs a r s ms ns p q = by_equation p q

pub ports_realms_list_verdict : One ports_realms.list_verdict.ended ports_realms_tells.list_verdict.Reads.Learnt
ports_realms_list_verdict κs a r s ms ns p q = by_equation p q

pub ports_realms_bad_realms : One ports_realms.bad_realms.ended ports_realms_tells.bad_realms.Reads.Learnt
ports_realms_bad_realms κs a r s ms ns p q = by_equation p q

pub ports_realms_resolve : One ports_realms.resolve.ended ports_realms_tells.resolve.Reads.Learnt
ports_realms_resolve κs a r s ms ns p q = by_equation p q

pub ports_realms_resolve_key : One ports_realms.resolve_key.ended ports_realms_tells.resolve_key.Reads.Learnt
ports_realms_resolve_key κs a r s ms ns p q = one_outcome resolved_exact p q

pub ports_has_number : One ports.has_number.ended ports_tells.has_number.Reads.Learnt
ports_has_number κs a r s ms ns p q = by_equation p q

pub ports_has_port : One ports.has_port.ended ports_tells.has_port.Reads.Learnt
ports_has_port κs a r s ms ns p q = by_equation p q

pub ports_port_at : One ports.port_at.ended ports_tells.port_at.Reads.Learnt
ports_port_at κs a r s ms ns p q = by_equation p q

pub ports_first_port : One ports.first_port.ended ports_tells.first_port.Reads.Learnt
ports_first_port κs a r s ms ns p q = by_equation p q

pub ports_same_ports : One ports.same_ports.ended ports_tells.same_ports.Reads.Learnt
ports_same_ports κs a r s ms ns p q = by_equation p q

pub ports_repeated : One ports.repeated.ended ports_tells.repeated.Reads.Learnt
ports_repeated κs a r s ms ns p q = by_equation p q

pub ports_resolved_repeated_key : One ports_resolved.repeated_key.ended ports_resolved_tells.repeated_key.Reads.Learnt
ports_resolved_repeated_key κs a r s ms ns p q = by_equation p q

pub ports_resolved_claims : One ports_resolved.claims.ended ports_resolved_tells.claims.Reads.Learnt
ports_resolved_claims κs a r s ms ns p q = by_equation p q

pub ports_resolved_declared : One ports_resolved.declared.ended ports_resolved_tells.declared.Reads.Learnt
ports_resolved_declared κs a r s ms ns p q = by_two p q

pub ports_resolved_candidate : One ports_resolved.candidate.ended ports_resolved_tells.candidate.Reads.Learnt
ports_resolved_candidate κs a r s ms ns p q = by_equation p q

pub ports_inherited_dependency_list : One ports_inherited.dependency_list.ended ports_inherited_tells.dependency_list.Reads.Learnt
ports_inherited_dependency_list κs a r s ms ns p q = by_equation p q
