-- What an offer answers, and the words after it.
use Rattle.std.specs.Prelude.{ℕ, ◌≡◌, refl, List, length, Option, Some, None}
use Rattle.rules_types.specs.declared.Port.{Port}
use Rattle.rules.specs.Outcomes.{Answer, Outcome, Meets}
use Rattle.rules.specs.Ports.{pairs}
use Rattle.rules.specs.Values.{offer}
use Rattle.memory.specs.Layout.{prov_part}
use Rattle.memory.specs.View.{view}
use Rattle.memory.specs.Writes.{find_at}
use Rattle.memory.specs.Ways.{Way, left_by, by_storing, Sized, storing_sized}
use Rattle.memory_values.specs.Values.{port_from, with_value}
use Rattle.memory_values.specs.After.{set_length}

-- at a provision of place i
abbrev pub value_put : List ℕ → ℕ → ℕ → Option ℕ → List ℕ
value_put m i v (Some j) = with_value m i j v
value_put m i v None = m

-- at the provision that the port is
abbrev pub port_put : List ℕ → Port → ℕ → Option ℕ → List ℕ
port_put m q v (Some i) = value_put m i v (port_from 0 q (pairs (prov_part m i)))
port_put m q v None = m

abbrev pub offering : ℕ → Port → ℕ → Way
offering id q v = by_storing (λ m p. port_put m q v (find_at m id))

abbrev pub offered_to : List ℕ → ℕ → Port → ℕ → Outcome → List ℕ
offered_to m id q v o = left_by (offering id q v) m o

-- what an offer answers and leaves
abbrev pub Offers : List ℕ → ℕ → Port → ℕ → Answer → List ℕ → Type 0
Offers m id q v a m' = Meets (left_by (offering id q v)) (offer (view m) id q v) m a m'

put_size : (m : List ℕ) (i v : ℕ) (f : Option ℕ) → length (value_put m i v f) ≡ length m
put_size m i v (Some j) = set_length m i j v
put_size m i v None = refl

-- On any words, there are as many afterwards.
pub offered_sized : (id : ℕ) (q : Port) (v : ℕ) → Sized (offering id q v)
offered_sized id q v = storing_sized _ λ m p. at m (find_at m id)
  where
    at : (m : List ℕ) (x : Option ℕ) → length (port_put m q v x) ≡ length m
    at m (Some i) = put_size m i v (port_from 0 q (pairs (prov_part m i)))
    at m None = refl
