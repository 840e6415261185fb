-- Each promise of these crates allows one outcome: questions, retirement, removal, steps, replacement, admission and start orders.
use Rattle.std.specs.Prelude.{ℕ, ◌≡◌, refl, Result}
use seplogic.Ra.Ura.{Ura}
use base.Logic.{SProp, ent, id⊢}
use prog.Memory.{Memory}
use prog.Routine.{Routine}
use types.Logic.{Logic}
use contract.Lifetimes.{Lfts}
use contract.Monad.{Fun, fact}
use denote.Triple.Entry.{Args}
use denote.Triple.Clauses.{AtExit}
use Rattle.rules.specs.Answers.{done_exact, whether_exact, number_exact, perhaps_exact}
use Rattle.registry_replace.specs.Records.{change_of}
use Rattle.registry_replace.specs.declared.Unreplaced.{Unreplaced}
use Rattle.registry_admit.specs.Answers.{admits_exact, admitted_exact, called_exact}
use Rattle.registry_queries.specs.Answers.{port_exact, edition_exact}
use Rattle.registry_replace.specs.Answers.{replaced_exact}
use Rattle.registry_queries.specs.contracts as registry_queries
use Rattle.registry_queries.proofs as registry_queries_tells
use Rattle.registry_retire.specs.contracts as registry_retire
use Rattle.registry_retire.proofs as registry_retire_tells
use Rattle.registry_remove.specs.contracts as registry_remove
use Rattle.registry_remove.proofs as registry_remove_tells
use Rattle.registry_needs.specs.contracts as registry_needs
use Rattle.registry_needs.proofs as registry_needs_tells
use Rattle.registry_steps.specs.contracts as registry_steps
use Rattle.registry_steps.proofs as registry_steps_tells
use Rattle.registry_replace.specs.contracts as registry_replace
use Rattle.registry_replace.proofs as registry_replace_tells
use Rattle.registry_live.specs.contracts as registry_live
use Rattle.registry_live.proofs as registry_live_tells
use Rattle.registry_admit.specs.contracts as registry_admit
use Rattle.registry_admit.proofs as registry_admit_tells
use Rattle.registry_order.specs.contracts as registry_order
use Rattle.registry_order.proofs as registry_order_tells
use Rattle.registry_plan.specs.contracts as registry_plan
use Rattle.registry_plan.proofs as registry_plan_tells
use Rattle.outcome.specs.One.{One, Promise}
use Rattle.outcome.specs.Equations.{by_equation, memory_alone, one_outcome, one_with_memory}
use Rattle.outcome.specs.Answers.{begun_exact, child_exact, root_exact}

pub registry_queries_parent : One registry_queries.parent.ended registry_queries_tells.parent.Reads.Learnt
registry_queries_parent κs a r s ms ns p q = one_outcome perhaps_exact p q

pub registry_queries_anchor : One registry_queries.anchor.ended registry_queries_tells.anchor.Reads.Learnt
registry_queries_anchor κs a r s ms ns p q = one_outcome port_exact p q

pub registry_queries_phase : One registry_queries.phase.ended registry_queries_tells.phase.Reads.Learnt
registry_queries_phase κs a r s ms ns p q = one_outcome number_exact p q

pub registry_queries_retired : One registry_queries.retired.ended registry_queries_tells.retired.Reads.Learnt
registry_queries_retired κs a r s ms ns p q = one_outcome number_exact p q

pub registry_queries_generation : One registry_queries.generation.ended registry_queries_tells.generation.Reads.Learnt
registry_queries_generation κs a r s ms ns p q = one_outcome number_exact p q

pub registry_queries_revision : One registry_queries.revision.ended registry_queries_tells.revision.Reads.Learnt
registry_queries_revision κs a r s ms ns p q = one_outcome number_exact p q

pub registry_queries_payload : One registry_queries.payload.ended registry_queries_tells.payload.Reads.Learnt
registry_queries_payload κs a r s ms ns p q = one_outcome number_exact p q

pub registry_queries_edition : One registry_queries.edition.ended registry_queries_tells.edition.Reads.Learnt
registry_queries_edition κs a r s ms ns p q = one_outcome edition_exact p q

pub registry_queries_root : One registry_queries.root.ended registry_queries_tells.root.Reads.Learnt
registry_queries_root κs a r s ms ns p q = one_outcome root_exact p q

pub registry_queries_dependency_port : One registry_queries.dependency_port.ended registry_queries_tells.dependency_port.Reads.Learnt
registry_queries_dependency_port κs a r s ms ns p q = one_outcome port_exact p q

pub registry_queries_list_dependencies : One registry_queries.list_dependencies.ended registry_queries_tells.list_dependencies.Reads.Learnt
registry_queries_list_dependencies κs a r s ms ns p q = one_with_memory number_exact p q

pub registry_queries_list_provisions : One registry_queries.list_provisions.ended registry_queries_tells.list_provisions.Reads.Learnt
registry_queries_list_provisions κs a r s ms ns p q = one_with_memory number_exact p q

pub registry_queries_list_realms : One registry_queries.list_realms.ended registry_queries_tells.list_realms.Reads.Learnt
registry_queries_list_realms κs a r s ms ns p q = one_with_memory number_exact p q

pub registry_retire_retire : One registry_retire.retire.ended registry_retire_tells.retire.Reads.Learnt
registry_retire_retire κs a r s ms ns p q = one_with_memory done_exact p q

pub registry_retire_retire_child : One registry_retire.retire_child.ended registry_retire_tells.retire_child.Reads.Learnt
registry_retire_retire_child κs a r s ms ns p q = one_with_memory done_exact p q

pub registry_retire_child_identity : One registry_retire.child_identity.ended registry_retire_tells.child_identity.Reads.Learnt
registry_retire_child_identity κs a r s ms ns p q = one_outcome child_exact p q

pub registry_remove_open : One registry_remove.open.ended registry_remove_tells.open.Reads.Learnt
registry_remove_open κs a r s ms ns p q = memory_alone p q

pub registry_remove_remove : One registry_remove.remove.ended registry_remove_tells.remove.Reads.Learnt
registry_remove_remove κs a r s ms ns p q = one_with_memory done_exact p q

pub registry_needs_is_active : One registry_needs.is_active.ended registry_needs_tells.is_active.Reads.Learnt
registry_needs_is_active κs a r s ms ns p q = by_equation p q

pub registry_needs_is_running : One registry_needs.is_running.ended registry_needs_tells.is_running.Reads.Learnt
registry_needs_is_running κs a r s ms ns p q = by_equation p q

pub registry_needs_all_available : One registry_needs.all_available.ended registry_needs_tells.all_available.Reads.Learnt
registry_needs_all_available κs a r s ms ns p q = by_equation p q

pub registry_needs_in_use : One registry_needs.in_use.ended registry_needs_tells.in_use.Reads.Learnt
registry_needs_in_use κs a r s ms ns p q = by_equation p q

pub registry_steps_begin : One registry_steps.begin.ended registry_steps_tells.begin.Reads.Learnt
registry_steps_begin κs a r s ms ns p q = one_with_memory begun_exact p q

pub registry_steps_fail : One registry_steps.fail.ended registry_steps_tells.fail.Reads.Learnt
registry_steps_fail κs a r s ms ns p q = one_with_memory done_exact p q

pub registry_steps_unload : One registry_steps.unload.ended registry_steps_tells.unload.Reads.Learnt
registry_steps_unload κs a r s ms ns p q = one_with_memory done_exact p q

pub registry_replace_changed : One registry_replace.changed.ended registry_replace_tells.changed.Reads.Learnt
registry_replace_changed κs a r s ms ns p q = by_equation p q

-- The text of the promise over a lent struct, written out. The clause says no less, and it is what whoever calls is told.
abbrev lent_text : Promise registry_replace.replace_lent.ended
lent_text κs a r e = (e.0.now ≡ (change_of a.0.now a.1.0).next) × (r ≡ (change_of a.0.now a.1.0).answer)

pub lent_said : {M : Type 1} {𝓤 : Ura M} (𝓛 : Logic 𝓤) (mem : Memory → SProp 𝓤) (run : Routine → Fun 𝓤)
    (κs : Lfts 1) (a : Args (registry_replace.replace_lent.ended).signature κs) (r : Result ℕ Unreplaced) (e : AtExit registry_replace.replace_lent.ended κs)
    → ent 𝓤 ((registry_replace.replace_lent.clauses 𝓛 mem run κs a).ensures tt r e) (fact 𝓤 (lent_text κs a r e))
lent_said {𝓤 = 𝓤} 𝓛 mem run κs a r e = id⊢ 𝓤 (fact 𝓤 (lent_text κs a r e))

pub lent_told : registry_replace_tells.replace_lent.Reads.Learnt ≡ lent_text
lent_told = refl

pub registry_replace_replace_lent : One registry_replace.replace_lent.ended registry_replace_tells.replace_lent.Reads.Learnt
registry_replace_replace_lent κs a r s ms ns p q = (by_equation p.1 q.1, by_equation p.0 q.0)

pub registry_replace_replace : One registry_replace.replace.ended registry_replace_tells.replace.Reads.Learnt
registry_replace_replace κs a r s ms ns p q = one_with_memory replaced_exact p q

pub registry_replace_fits : One registry_replace.fits.ended registry_replace_tells.fits.Reads.Learnt
registry_replace_fits κs a r s ms ns p q = one_outcome whether_exact p q

pub registry_live_verdict : One registry_live.verdict.ended registry_live_tells.verdict.Reads.Learnt
registry_live_verdict κs a r s ms ns p q = by_equation p q

pub registry_live_is_live : One registry_live.is_live.ended registry_live_tells.is_live.Reads.Learnt
registry_live_is_live κs a r s ms ns p q = by_equation p q

pub registry_admit_admit : One registry_admit.admit.ended registry_admit_tells.admit.Reads.Learnt
registry_admit_admit κs a r s ms ns p q = one_with_memory admitted_exact p q

pub registry_admit_admits : One registry_admit.admits.ended registry_admit_tells.admits.Reads.Learnt
registry_admit_admits κs a r s ms ns p q = one_outcome admits_exact p q

pub registry_admit_call : One registry_admit.call.ended registry_admit_tells.call.Reads.Learnt
registry_admit_call κs a r s ms ns p q = one_with_memory called_exact p q

pub registry_order_set_verdict : One registry_order.set_verdict.ended registry_order_tells.set_verdict.Reads.Learnt
registry_order_set_verdict κs a r s ms ns p q = by_equation p q

pub registry_order_check_order : One registry_order.check_order.ended registry_order_tells.check_order.Reads.Learnt
registry_order_check_order κs a r s ms ns p q = one_outcome whether_exact p q

pub registry_plan_plan_order : One registry_plan.plan_order.ended registry_plan_tells.plan_order.Reads.Learnt
registry_plan_plan_order κs a r s ms ns p q = one_with_memory perhaps_exact p q
