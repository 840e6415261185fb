-- A plugin's provisions in its view are the ports of its rows.
use Rattle.std.specs.Prelude.{ℕ, suc, ◌+◌, ◌≡◌, refl, List, [], ◌∷◌, map, length}
use Rattle.std.proofs.Common.{ap}
use Rattle.rules.specs.Holds.{Provision, provided}
use Rattle.rules_types.specs.declared.Port.{Port}
use Rattle.rules.specs.Ports.{pairs}
use Rattle.memory.specs.Layout.{prov_part}
use Rattle.memory.specs.View.{valued, plugin_at}

-- values leave the ports as they are
pub valued_ports : (m : List ℕ) (i j : ℕ) (qs : List Port) → map (λ (v : Provision). v.port) (valued m i j qs) ≡ qs
valued_ports m i j [] = refl
valued_ports m i j (q ∷ qs) = ap (λ l. q ∷ l) (valued_ports m i (j + 1) qs)

-- as many provisions as ports
pub valued_length : (m : List ℕ) (i j : ℕ) (qs : List Port) → length (valued m i j qs) ≡ length qs
valued_length m i j [] = refl
valued_length m i j (q ∷ qs) = ap suc (valued_length m i (j + 1) qs)

pub provided_at : (m : List ℕ) (i : ℕ) → provided (plugin_at m i) ≡ pairs (prov_part m i)
unfolding plugin_at
provided_at m i = valued_ports m i 0 (pairs (prov_part m i))
