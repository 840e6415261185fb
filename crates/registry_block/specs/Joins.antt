-- What is asked of a block and what is written of it, by its numbers and the words that its lists went to.
use Rattle.std.specs.Prelude.{ℕ, ◌+◌, ◌*◌, ◌≡◌, Bool, true, false, ◌&&◌, List, [], ◌∷◌, length, get_or, take, Option, Some, None}
use Rattle.std.proofs.Common.{arith, ◌∙◌}
use Rattle.std.proofs.Math.Path.{ap}
use Rattle.std.proofs.Math.ListN.{drop, length-drop}
use Rattle.std.proofs.Math.Seq.{take_all}
use Rattle.rules.specs.Basics.{pick, is_some, or_else}
use Rattle.rules_types.specs.declared.Port.{Port}
use Rattle.rules_types.specs.declared.Edition.{Edition}
use Rattle.rules.specs.Holds.{port, Registry}
use Rattle.rules.specs.Ports.{pairs, rows_in, realm_list}
use Rattle.rules_load.specs.Laws.Lists.{chained_true}
use Rattle.memory.specs.Layout.{part}
use Rattle.memory.specs.View.{view, parent_of}
use Rattle.memory.specs.declared.Life.{Life}
use Rattle.memory_entry.specs.declared.Entry.{Entry}
use Rattle.memory_load.specs.Loading.{loaded_place}
use Rattle.text_read_block.specs.declared.Lists.{Lists}
use Rattle.registry_joins.specs.Fits.{lent_fit}
use Rattle.registry_block.specs.declared.Joined.{Joined}
use Rattle.registry_block.specs.declared.Numbers.{Numbers}
use Rattle.registry_block.specs.Lives.{life_by, counts_by, Within, counts_within}
use Rattle.registry_block.specs.Blocks.{entry_of, loaded_life}

-- A block's lists stand in front of the words that they went to; edition and default lead the realms, the anchor the claims.
abbrev pub realms_in : Numbers → List ℕ → List ℕ
realms_in b words = take (b.realms * 2 + 2) words

abbrev pub needed_in : Numbers → List ℕ → List ℕ
needed_in b words = take (b.dependencies * 2) words

abbrev pub claimed_in : Numbers → List ℕ → List ℕ
claimed_in b words = take (b.provisions * 2 + 2) words

-- its numbers, its life and its ports beside those of a registry
abbrev pub ports_by : Registry → Numbers → Lists → Bool
ports_by r b l =
    lent_fit r (parent_of b.tag b.parent) (get_or (pairs (claimed_in b l.claims)) 0 (port 0 0)) (realms_in b l.realms) (drop 2 (claimed_in b l.claims))
    (needed_in b l.dependencies)

unfoldable pub block_fits : Registry → Numbers → Lists → (from next rows : ℕ) → Bool
block_fits r b l from next rows = counts_by b from next rows && life_by b && ports_by r b l

-- by its tests, in their order
module _ (r : Registry) (b : Numbers) (l : Lists) (from next rows : ℕ) where
  pub fits_counts : counts_by b from next rows ≡ false → false ≡ block_fits r b l from next rows
  unfolding block_fits
  fits_counts e = rw e

  module _ (c : counts_by b from next rows ≡ true) where
    pub fits_life : life_by b ≡ false → false ≡ block_fits r b l from next rows
    unfolding block_fits
    fits_life e = rw (c, e)

    pub fits_ports : life_by b ≡ true → {claimed rows₁ rows₂ rows₃ : List ℕ} {parent : Option ℕ} {anchor : Port} {x : Bool} → claimed ≡ claimed_in b l.claims
        → parent ≡ parent_of b.tag b.parent → anchor ≡ get_or (pairs claimed) 0 (port 0 0) → rows₁ ≡ realms_in b l.realms → rows₂ ≡ part claimed 2 (length claimed)
        → rows₃ ≡ needed_in b l.dependencies → x ≡ lent_fit r parent anchor rows₁ rows₂ rows₃ → x ≡ block_fits r b l from next rows
    unfolding block_fits
    fits_ports e {claimed = claimed} w p a f g h y =
        let behind : part claimed 2 (length claimed) ≡ drop 2 claimed = take_all (length claimed) (drop 2 claimed) (omega (arith, length-drop 2 claimed)) in
        y ∙ rw (c, e, p, a, f, g ∙ behind, h, w)

unfoldable pub block_put : List ℕ → Numbers → Lists → (place rows next : ℕ) → List ℕ
block_put w b l place rows next =
    loaded_place w place (entry_of b (realm_list (realms_in b l.realms)).edition rows next) (loaded_life b) (rows_in (realms_in b l.realms))
    (needed_in b l.dependencies) (claimed_in b l.claims) b.mask (take b.provisions l.values)

-- what is in use then
abbrev pub joined_by : Numbers → (behind rows : ℕ) → Joined
joined_by b behind rows = record { next = behind; rows = rows + b.dependencies + b.provisions + 1; from = b.id + 1 }

pub put_by : (w : List ℕ) (b : Numbers) (l : Lists) (place rows next : ℕ)
    {n : List ℕ} {o : Edition} {e : Entry} {life : Life} {r d c v w' : List ℕ}
    → n ≡ realms_in b l.realms → o ≡ (realm_list n).edition → e ≡ entry_of b o rows next → life ≡ loaded_life b → r ≡ rows_in n
    → d ≡ needed_in b l.dependencies → c ≡ claimed_in b l.claims → v ≡ take b.provisions l.values
    → w' ≡ loaded_place w place e life r d c b.mask v → w' ≡ block_put w b l place rows next
unfolding block_put
put_by w b l place rows next listed o e life r d c v put = put ∙ rw (e, life, r, d, c, v, o, listed)

unfoldable pub block_joins : Registry → Numbers → Lists → (from next rows : ℕ) → Bool
block_joins r b l from next rows = is_some b.next && block_fits r b l from next rows

-- A block that is whole and fits is written to its place; of another nothing is.
pub record Joins (w : List ℕ) (b : Numbers) (l : Lists) (place rows from next : ℕ) (r : Option Joined) (w' : List ℕ) : Type 0 where
  pub answer : r ≡ pick (block_joins (view w) b l from next rows) (Some (joined_by b (or_else b.next 0) rows)) None
  pub memory : w' ≡ pick (block_joins (view w) b l from next rows) (block_put w b l place rows next) w

-- by its tests, in their order
module _ (w : List ℕ) (b : Numbers) (l : Lists) (place rows from next : ℕ) where
  abbrev fit : Bool
  fit = block_fits (view w) b l from next rows

  pub fits_within : fit ≡ true → Within b next rows
  unfolding block_fits
  fits_within y = counts_within b from next rows (chained_true (counts_by b from next rows) (life_by b ∷ ports_by (view w) b l ∷ []) y).0

  pub joins_torn : b.next ≡ None → Joins w b l place rows from next None w
  unfolding block_joins
  joins_torn e = record { answer = rw e; memory = rw e }

  module _ (n : ℕ) (e : b.next ≡ Some n) where
    pub joins_fit : block_joins (view w) b l from next rows ≡ fit
    unfolding block_joins
    joins_fit = ap (λ (x : Option ℕ). is_some x && fit) e

    pub joins_not : fit ≡ false → Joins w b l place rows from next None w
    joins_not f = let k = joins_fit ∙ f in record { answer = rw k; memory = rw k }

    pub joins_so : {r : Joined} {w' : List ℕ} → fit ≡ true → r ≡ joined_by b n rows → w' ≡ block_put w b l place rows next
        → Joins w b l place rows from next (Some r) w'
    joins_so y i m = let k = joins_fit ∙ y in record { answer = ap Some i ∙ rw (k, e); memory = m ∙ rw k }
