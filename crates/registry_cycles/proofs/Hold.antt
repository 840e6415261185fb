-- The three tests in their order: the ports, then the rows, then the rounds.
use Prim.Native.Nat.{ℕ}
use mathlib.Core.Path.{◌≡◌, sym, ◌∙◌}
use mathlib.Core.Bool.{Bool, true, false}
use mathlib.Core.List.{List}
use Rattle.rules.specs.Conditions.{ports_differ}
use Rattle.rules.specs.Holds.{plugins}
use Rattle.memory.specs.Layout.{places}
use Rattle.memory.specs.View.{view}
use Rattle.memory_providers.specs.Words.{word_of}
use Rattle.registry_cycles.specs.Hold.{all_hold}
use Rattle.registry_cycles.specs.Left.{none_waiting}
use Rattle.registry_cycles.specs.Rows.{served_in, RowsFor}
use Rattle.registry_cycles.specs.Runs.{runs_at, all_of}
use Rattle.registry_cycles.proofs.Laws.{served_plugins}
use Rattle.registry_cycles.proofs.Only.{only_needed}
use Rattle.registry_cycles.proofs.Rounds.{rounds_all}

module _ (m : List ℕ) (d : Bool) (e : d ≡ ports_differ (plugins (view m))) where
  pub hold_ports : d ≡ false → false ≡ all_hold (view m)
  unfolding all_hold
  hold_ports n = rw (sym e ∙ n)

  module _ (y : d ≡ true) (among : ℕ) (a : among ≡ word_of (runs_at m) places 0) (r : Bool) (f : r ≡ all_of (served_in m among) places 0) where
    pub hold_rows : r ≡ false → false ≡ all_hold (view m)
    unfolding all_hold
    hold_rows n = rw (sym e ∙ y, sym (served_plugins m among a) ∙ sym f ∙ n)

    pub hold_rounds : (t : r ≡ true) (rows : List ℕ) → RowsFor m among rows places → (b : Bool) → b ≡ none_waiting places rows among → b ≡ all_hold (view m)
    unfolding all_hold
    hold_rounds t rows k b g =
        let s = sym f ∙ t in
        rw (sym e ∙ y, sym (served_plugins m among a) ∙ s) (g ∙ rounds_all m among rows (only_needed m among a (sym e ∙ y) s rows k) a)
