-- Where a memory begins: with an opening or a load. All that follows is shown from any start, so a beginning needs a law of its own
-- that it is one, and nothing else.
use Rattle.std.specs.Prelude.{ℕ, ◌≤◌, ◌≡◌, List, ◌≢◌, length, Some}
use Rattle.std.proofs.Math.Path.{subst⁻¹}
use Rattle.rules.specs.Basics.{last}
use Rattle.rules.specs.Holds.{Plugin, Registry, lookup}
use Rattle.rules.specs.Load.{moved_to, opens, load}
use Rattle.rules_types.specs.declared.Root.TheVariants.{Queued}
use Rattle.rules_laws.specs.Demand3 as three
use Rattle.rules_laws.specs.Built.{Built}
use Rattle.rules_laws.specs.Kept.{built_start}
use Rattle.rules_load.specs.Meets.{loadable_meets}
use Rattle.rules_load.specs.Laws.Unqueued.{moved_loadable}
use Rattle.rules_load.specs.Loaded.{load_opens}
use Rattle.memory.specs.View.{view}
use Rattle.memory.specs.Writes.{opened_with}
use Rattle.memory.specs.Layout.{memory_words}
use Rattle.memory_rows.specs.Dense.{Dense}
use Rattle.memory_load.specs.Loading.{words_of}
use Rattle.memory_load.proofs.Whole.{words_dense, words_view}

-- Dense words that say a built registry.
pub record Sound (m : List ℕ) : Type 0 where
  pub dense : Dense m
  pub built : Built (view m)

-- What a memory may begin with: sound words in which no root is Queued.
pub record Start (m : List ℕ) : Type 0 where
  pub sound : Sound m
  pub unqueued : (x : ℕ) (p : Plugin) → lookup (view m) x ≡ Some p → (v a : ℕ) → p.root ≢ Queued v a

-- Its registry is a start of the rules.
pub start_view : (m : List ℕ) → Start m → three.Start (view m)
start_view m s = built_start (view m) s.sound.built s.unqueued

-- The words of an opening.
abbrev pub blank : List ℕ → ℕ → ℕ → List ℕ
blank m domain first = opened_with m domain first first

-- The words of a loaded registry are dense, and say it.
module _ (domain : ℕ) (text : List ℕ) (r : Registry) (e : load domain text ≡ opens r) where
  pub load_words_lem : Dense (words_of r) × (view (words_of r) ≡ r)
  load_words_lem =
      let o = load_opens domain text r e in
      let s = moved_to domain o.0 in
      let c = loadable_meets s (moved_loadable domain o.0 o.2) in
      subst⁻¹ (λ (q : Registry). Dense (words_of q) × (view (words_of q) ≡ q)) o.3
      (words_dense s c.rise c.limits c.short, words_view s c.rise c.limits c.short)

  pub load_view : view (words_of r) ≡ r
  load_view = load_words_lem.1

-- What a memory does begin with: an opening of any words, or an accepted load of any text.
pub data Begun : List ℕ → Type 0 where
  opened : (m : List ℕ) → length m ≡ memory_words → (domain first : ℕ) → first ≤ last → Begun (blank m domain first)
  loaded : (domain : ℕ) (text : List ℕ) (r : Registry) → load domain text ≡ opens r → Begun (words_of r)
