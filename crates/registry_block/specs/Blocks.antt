-- A block's words, and the plugin that they say: its life with no root Queued, and its ports.
use Rattle.std.specs.Prelude.{ℕ, zero, suc, ◌≤◌, ◌≡◌, refl, Bool, true, false, not, List, [], ◌∷◌, eqb, length}
use Rattle.std.proofs.Common.{arith, ◌∙◌}
use Rattle.rules.specs.Basics.{pick, is_some, or_else, yes_no}
use Rattle.rules.specs.Limits.{max_realm_rows, max_dependencies}
use Rattle.rules_types.specs.declared.Port.{Port}
use Rattle.rules_types.specs.declared.Edition.{Edition}
use Rattle.rules_types.specs.declared.Phase.{Phase}
use Rattle.rules_types.specs.declared.Phase.TheVariants.{Idle, Loading, Active, Unloading}
use Rattle.rules_types.specs.declared.Root.{Root}
use Rattle.rules_types.specs.declared.Root.TheVariants.{Unissued, Queued, Spent}
use Rattle.rules.specs.Holds.{Plugin, Registry, provided, edition_number, default_of}
use Rattle.rules.specs.Ports.{odd_length, flat, realm_numbers}
use Rattle.rules.specs.Queries.{phase_number}
use Rattle.rules.specs.Load.{unqueued_root, unqueued}
use Rattle.rules_laws.specs.Laws.Pairs.{pairs_flat}
use Rattle.rules_laws.specs.Laws.Realms.{realm_list_back}
use Rattle.rules_load.specs.Joining.{ports_join}
use Rattle.rules_types.specs.Generations.{generation_of}
use Rattle.memory.specs.View.{parent_of, phase_of, root_of, decoded}
use Rattle.memory.specs.Writes.{root_tag, root_revision}
use Rattle.memory.specs.declared.Life.{Life}
use Rattle.memory.specs.Known.{life_of}
use Rattle.memory_entry.specs.declared.Entry.{Entry}
use Rattle.text_read_block.specs.declared.Block.{Block}
use Rattle.text_read_block.specs.Blocks.{block_of}
use Rattle.registry_joins.specs.Fits.{lent_fit, lent_fit_lem}
use Rattle.memory_load.specs.Step.{parent_back}
use Rattle.registry_block.specs.declared.Numbers.{Numbers}
use Rattle.registry_block.specs.Numbers.{numbers_of, root_said, above_two}

-- what is written of it beside its life and lists
abbrev pub entry_of : Numbers → Edition → (rows next : ℕ) → Entry
entry_of b edition rows next = record {
  id = b.id;
  tag = b.tag;
  parent = b.parent;
  payload = b.payload;
  start = rows;
  dependencies = b.dependencies;
  provisions = b.provisions;
  realms = b.realms;
  edition = edition_number edition;
  default = default_of edition;
  next = next;
}

-- its life as it is loaded
abbrev pub loaded_life : Numbers → Life
loaded_life b = record {
  revision = b.revision;
  payload = b.payload;
  phase = phase_of b.phase;
  retired = not (eqb b.retired 0);
  generation = generation_of b.generation;
  root = unqueued_root (root_said b.root b.queued);
}

-- number by number: the life of these words, whose root is 2 or 0
pub loaded_words : (b : Numbers) → loaded_life b ≡ decoded (record {
  revision = b.revision;
  payload = b.payload;
  phase = b.phase;
  retired = b.retired;
  generation = b.generation;
  root = pick (eqb b.root 2) 2 0;
  root_revision = 0;
  root_argument = 0;
})
unfolding decoded
loaded_words b = λ i. record {
  revision = b.revision;
  payload = b.payload;
  phase = phase_of b.phase;
  retired = not (eqb b.retired 0);
  generation = generation_of b.generation;
  root = go b.root i;
}
  where
    go : (o : ℕ) → unqueued_root (root_said o b.queued) ≡ root_of (pick (eqb o 2) 2 0) 0 0
    go zero = refl
    go (suc zero) = refl
    go (suc (suc zero)) = refl
    go (suc (suc (suc o))) = rw (above_two o 2 (omega arith))

phase_back : (h : Phase) → phase_of (phase_number h) ≡ h
phase_back Idle = refl
phase_back Loading = refl
phase_back Active = refl
phase_back Unloading = refl

mark_back : (b : Bool) → not (eqb (yes_no b) 0) ≡ b
mark_back true = refl
mark_back false = refl

root_back : (o : Root) → unqueued_root (root_said (root_tag o) (root_revision o)) ≡ unqueued_root o
root_back Unissued = refl
root_back (Queued v a) = refl
root_back Spent = refl

-- The numbers of a block say its parent and its life.
pub parent_of_numbers : (b : Block) → parent_of (numbers_of b).tag (numbers_of b).parent ≡ b.parent
parent_of_numbers b = parent_back b.parent

pub loaded_of_numbers : (b : Block) → loaded_life (numbers_of b) ≡ record {
  revision = b.revision;
  payload = b.payload;
  phase = b.phase;
  retired = b.retired;
  generation = generation_of b.generation;
  root = unqueued_root b.root;
}
loaded_of_numbers b = λ i. record {
  revision = b.revision;
  payload = b.payload;
  phase = phase_back b.phase i;
  retired = mark_back b.retired i;
  generation = generation_of b.generation;
  root = root_back b.root i;
}

pub life_loaded : (p : Plugin) (n : ℕ) → loaded_life (numbers_of (block_of p n)) ≡ life_of (unqueued p)
life_loaded p n = loaded_of_numbers (block_of p n)

flat_even : (l : List Port) → odd_length (flat l) ≡ false
flat_even [] = refl
flat_even (p ∷ l) = flat_even l

pub ports_loaded : (r : Registry) (p : Plugin) → length p.realms.rows ≤ max_realm_rows → length p.dependencies ≤ max_dependencies
    → lent_fit r (parent_of (yes_no (is_some p.parent)) (or_else p.parent 0)) p.anchor (realm_numbers p.realms) (flat (provided p))
    (flat p.dependencies)
    ≡ ports_join r p
ports_loaded r p realms dependencies =
    lent_fit_lem r (parent_of (yes_no (is_some p.parent)) (or_else p.parent 0)) p.anchor (realm_numbers p.realms) (flat (provided p))
    (flat p.dependencies)
    (flat_even p.realms.rows) (rw (pairs_flat p.realms.rows) realms) (rw (pairs_flat p.dependencies) dependencies)
    ∙ rw (parent_back p.parent, realm_list_back p.realms, pairs_flat (provided p), pairs_flat p.dependencies)
