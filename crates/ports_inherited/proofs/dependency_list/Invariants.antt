-- The ports so far, with their word, and the candidates from turn c on inherit the finished list; the inner loop looks for one candidate in the ports so far.
use Rattle.std.proofs.Common.{ℕ, ◌-◌, ◌*◌, ◌/◌, ◌≤◌, ◌≡◌, List, length, take, drop}
use Rattle.rules_types.specs.declared.Port.{Port}
use Rattle.rules.specs.Holds.{port, is_in}
use Rattle.rules.specs.Ports.{pairs}
use Rattle.rules.specs.Dependencies.{candidates, own_ports, inherit, dependency_list}
use Rattle.rules.specs.Limits.{max_dependency_keys, max_dependencies}
use Rattle.ports_realms.specs.Halving.{reached_with}
use Rattle.ports_bits.specs.Keys.{Covers}
use Rattle.ports_resolved.specs.Filled.{Lists}
use Rattle.ports_resolved.specs.Keys.{list_room}
use Rattle.ports_inherited.proofs.dependency_list.Given as goal

-- the list so far
abbrev pub so_far : ℕ → List ℕ → List Port
so_far n ports = pairs (take (n * 2) ports)

module _ (other : ℕ) (anchor : Port) (rows keys provisions parents : List ℕ) where
  abbrev pub finished : List Port
  finished = dependency_list (reached_with other rows) (pairs provisions) anchor (take max_dependency_keys keys) (pairs parents)

  -- a list from which the candidates from turn c on make the finished one
  abbrev pub Drawn : List ℕ → ℕ → ℕ → Type 0
  Drawn list n c = (n ≤ max_dependencies) × Lists list_room n list (so_far n list)
      × (finished ≡ inherit (own_ports (pairs provisions) anchor) (drop c (candidates (reached_with other rows) (pairs parents))) (so_far n list))

-- a port is in the list so far just if it is there from place k on
abbrev pub Compared : List ℕ → ℕ → Port → ℕ → Type 0
Compared list n q k = is_in q (so_far n list) ≡ is_in q (drop k (so_far n list))

abbrev pub invariant-loop-k : goal.invariant-loop-k
invariant-loop-k l = Compared l.list l.count (port l.key l.realm) l.k

abbrev pub invariant-next : goal.invariant-next
invariant-next l =
    Covers l.bits (so_far l.count l.list) × Drawn l.other l.anchor l.rows l.keys l.provisions l.parents l.list l.count l.c

abbrev pub decreases-next : goal.decreases-next
decreases-next l = length l.parents / 2 * 2 - l.c
