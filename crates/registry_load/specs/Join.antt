-- A block that was read into lent words: what is asked and written of its numbers is what is asked and written of its plugin.
use Rattle.std.specs.Prelude.{ℕ, ◌+◌, ◌*◌, ◌%◌, ◌<◌, ◌≡◌, Bool, true, List, [], ◌∷◌, Option, Some, None}
use native.Mathlib.Omega.{arith}
use Rattle.std.proofs.Math.Nat.{mod-eq_of_lt}
use Rattle.std.proofs.Math.Path.{sym, ap}
use Rattle.std.proofs.Common.{◌∙◌}
use Rattle.std.proofs.Math.ListN.{length}
use Rattle.rules.specs.Limits.{max_realm_rows, max_dependencies, max_provision_keys}
use Rattle.rules.specs.Holds.{Plugin, Registry, rows_of}
use Rattle.rules.specs.Ports.{flat, realm_numbers}
use Rattle.rules.specs.Conditions.{claims}
use Rattle.rules.specs.Load.{unqueued}
use Rattle.rules_laws.specs.Laws.Realms.{realm_list_back}
use Rattle.rules_laws.specs.Laws.Tests.{by_test}
use Rattle.rules_load.specs.Joining.{ports_join, life_fits}
use Rattle.rules_load.specs.Laws.Lists.{chained_true}
use Rattle.memory.specs.Layout.{places}
use Rattle.memory.specs.View.{view}
use Rattle.memory_load.specs.Loading.{loaded_plugin}
use Rattle.text_read_block.specs.declared.Block.{Block}
use Rattle.text_read_block.specs.declared.Lists.{Lists}
use Rattle.text_read_block.specs.Blocks.{BlockRead, block_of, lists_of}
use Rattle.text_read_block.specs.Blocks.{realms_front, dependencies_front, claims_front, values_front, mask_whole}
use Rattle.registry_block.specs.declared.Joined.{Joined}
use Rattle.registry_block.specs.declared.Numbers.{Numbers}
use Rattle.registry_block.specs.Numbers.{numbers_of}
use Rattle.registry_block.specs.Lives.{life_by_lem, counts_fit, counts_by_lem, Within, counts_within}
use Rattle.registry_block.specs.Blocks.{life_loaded, ports_loaded}
use Rattle.registry_block.specs.Joins.{realms_in, needed_in, claimed_in, ports_by, block_fits, block_joins, block_put, joined_by, Joins}
use Rattle.registry_load.specs.Joined.{fits}
use Rattle.registry_load.specs.Plugins.{torn_block, unfit_block, JoinRead, refused, joined}

-- the lent words are as many as the lists have room for
pub record Rooms (l : Lists) : Type 0 where
  pub realms : length l.realms ≡ max_realm_rows * 2 + 2
  pub dependencies : length l.dependencies ≡ max_dependencies * 2
  pub claims : length l.claims ≡ max_provision_keys * 2 + 2
  pub values : length l.values ≡ max_provision_keys

-- what is read of a plugin, in numbers
abbrev numbers : Plugin → ℕ → Numbers
numbers p n = numbers_of (block_of p n)

-- of a block whose numbers fit
module _ (p : Plugin) (n from next rows : ℕ) (before : Lists) (size : Rooms before) (fit : counts_fit from next rows p ≡ true) where
  within : Within (numbers p n) next rows
  within = counts_within (numbers p n) from next rows (counts_by_lem from next rows p n ∙ fit)

  realms_are : realms_in (numbers p n) (lists_of before p).realms ≡ realm_numbers p.realms
  realms_are = realms_front p before.realms size.realms within.few_realms

  needed_are : needed_in (numbers p n) (lists_of before p).dependencies ≡ flat p.dependencies
  needed_are = dependencies_front p before.dependencies size.dependencies within.few_dependencies

  claimed_are : claimed_in (numbers p n) (lists_of before p).claims ≡ flat (claims p)
  claimed_are = claims_front p before.claims size.claims within.few_provisions

  ports_are : (r : Registry)
      → ports_by r (numbers p n) (lists_of before p) ≡ ports_join r p
  ports_are r = rw (realms_are, needed_are, claimed_are) (ports_loaded r p within.few_realms within.few_dependencies)

  put_is : (w : List ℕ) (place : ℕ) → place < places
      → block_put w (numbers p n) (lists_of before p) (place % places) rows next
      ≡ loaded_plugin w place rows next (unqueued p)
  unfolding block_put
  put_is w place h = rw (
    mod-eq_of_lt h,
    life_loaded p n,
    realms_are,
    realm_list_back p.realms,
    needed_are,
    claimed_are,
    mask_whole p within.few_provisions,
    values_front p before.values size.values within.few_provisions,
  )

fits_are : (w : List ℕ) (p : Plugin) (n from next rows : ℕ) (before : Lists) → Rooms before
    → block_fits (view w) (numbers p n) (lists_of before p) from next rows
    ≡ fits w from next rows p
unfolding block_fits fits
fits_are w p n from next rows before size = by_test (counts_fit from next rows p)
    (λ y. rw (counts_by_lem from next rows p n, y, life_by_lem p n, ports_are p n from next rows before size y (view w)))
    (λ f. rw (counts_by_lem from next rows p n, f))

-- What is done with a block that was read into lent words.
module _ (t : List ℕ) (at : ℕ) (w : List ℕ) (place from next rows : ℕ) (before : Lists) where
  pub join_torn : {after : Lists} → BlockRead t (Some at) before None after → (w' : List ℕ) → JoinRead t at w place from next rows None w'
  join_torn x w' = refused w' (torn_block x.0)

  module _ (size : Rooms before) (h : place < places) {b : Block} {after : Lists} (x : BlockRead t (Some at) before (Some b) after) where
    abbrev p : Plugin
    p = x.plugin

    abbrev fit : Bool
    fit = block_fits (view w) (numbers_of b) after from next rows

    fit_is : fit ≡ fits w from next rows p
    fit_is =
        ap (λ (c : Block). block_fits (view w) (numbers_of c) after from next rows) x.says
        ∙ ap (λ (l : Lists). block_fits (view w) (numbers p b.next) l from next rows) x.stored
        ∙ fits_are w p b.next from next rows before size

    pub join_read : {r : Option Joined} {w' : List ℕ} → Joins w (numbers_of b) after (place % places) rows from next r w' → JoinRead t at w place from next rows r w'
    unfolding fits block_joins
    join_read {r} {w'} j = by_test fit
        (λ y.
        let z : fits w from next rows p ≡ true = sym fit_is ∙ y in
        let counts = (chained_true (counts_fit from next rows p) (life_fits p ∷ ports_join (view w) p ∷ []) z).0 in
        let same : block_put w (numbers_of b) after (place % places) rows next ≡ block_put w (numbers p b.next) (lists_of before p) (place % places) rows next =
        ap (λ (c : Block). block_put w (numbers_of c) after (place % places) rows next) x.says
        ∙ ap (λ (l : Lists). block_put w (numbers p b.next) l (place % places) rows next) x.stored in
        let written : w' ≡ loaded_plugin w place rows next (unqueued p) =
        j.memory ∙ rw y (same ∙ put_is p b.next from next rows before size counts w place h) in
        let i : rows + length p.dependencies + length p.provisions + 1 ≡ rows + rows_of p = omega arith in
        let told : r ≡ Some (record { next = b.next; rows = rows + rows_of p; from = p.id + 1 }) =
        j.answer ∙ rw y (ap Some (ap (λ (c : Block). joined_by (numbers_of c) c.next rows) x.says ∙ (λ u. record { next = b.next; rows = i u; from = p.id + 1 }))) in
        rw (written, told) (joined p b.next x.reads z))
        (λ n. let none : r ≡ None = j.answer ∙ rw n in rw none (refused w' (unfit_block p b.next x.reads (sym fit_is ∙ n))))
