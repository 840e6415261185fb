-- What the first port that is the same, and the first provision without a value, say of a plugin's values.
use Rattle.std.specs.Prelude.{ℕ, suc, ◌+◌, ◌-◌, ◌≤◌, ◌<◌, ◌*◌, ◌≡◌, refl, Bool, true, false, List, [], ◌∷◌, map, length, get_or, Option, Some, None}
use native.Mathlib.Omega.{arith}
use Rattle.std.proofs.Common.{ap, ◌∙◌, length-take, length-drop}
use Rattle.rules.specs.Basics.{any, is_none}
use Rattle.rules.specs.Holds.{port, Provision, same_port, is_in}
use Rattle.rules_types.specs.declared.Port.{Port}
use Rattle.rules.specs.Ports.{pairs, flat}
use Rattle.rules.specs.Values.{value_in, first_missing}
use Rattle.rules_laws.specs.Laws.Tests.{by_test}
use Rattle.rules_laws.specs.Laws.Members.{same_port_lem}
use Rattle.rules.specs.Limits.{max_provision_keys}
use Rattle.memory.specs.Layout.{prov_part}
use Rattle.memory.specs.View.{value_at, valued, plugin_at}
use Rattle.memory_lists.specs.Listed.{valued_ports}
use Rattle.ports.specs.Places.{length_pairs}
use Rattle.memory_values.specs.Values.{port_from, lack_from}

-- Place j holds the port.
pub record There (q : Port) (j : ℕ) (ps : List Port) : Type 0 where
  pub within : j < length ps
  pub same : get_or ps j (port 0 0) ≡ q
  pub listed : is_in q ps ≡ true

-- the same of a place that is counted from k
PortOf : ℕ → Option ℕ → Port → List Port → Type 0
PortOf k (Some j) q ps = (k ≤ j) × There q (j - k) ps
PortOf k None q ps = is_in q ps ≡ false

port_further : (f : Option ℕ) (k : ℕ) (q p : Port) (ps : List Port) → same_port q p ≡ false → PortOf (k + 1) f q ps → PortOf k f q (p ∷ ps)
unfolding PortOf
port_further (Some j) k q p ps e (h, r) =
    let s : j - k ≡ suc (j - (k + 1)) = omega arith in
    (omega arith, rw s (record { within = omega (arith, r.within); same = r.same; listed = rw (e, r.listed) }))
port_further None k q p ps e r = rw (e, r)

port_of_lem : (k : ℕ) (q : Port) (ps : List Port) → PortOf k (port_from k q ps) q ps
unfolding port_from PortOf
port_of_lem k q [] = refl
port_of_lem k q (p ∷ ps) =
    let r = port_of_lem (k + 1) q ps in
    by_test (same_port q p)
    (λ t. let z : k - k ≡ 0 = omega arith in
    rw t (omega arith, rw z (record { within = omega arith; same = same_port_lem q p t; listed = rw t })))
    (λ f. rw f (port_further (port_from (k + 1) q ps) k q p ps f r))

module _ (q : Port) (ps : List Port) where
  pub port_there : (j : ℕ) → port_from 0 q ps ≡ Some j → There q j ps
  unfolding PortOf
  port_there j e = let z : j - 0 ≡ j = omega arith in rw z at (rw e at (port_of_lem 0 q ps)).1

  pub port_nothing : port_from 0 q ps ≡ None → is_in q ps ≡ false
  unfolding PortOf
  port_nothing e = rw e at (port_of_lem 0 q ps)

-- a place is counted from k
pub port_least : (k : ℕ) (q : Port) (ps : List Port) (j : ℕ) → port_from k q ps ≡ Some j → k ≤ j
unfolding PortOf
port_least k q ps j e = (rw e at (port_of_lem k q ps)).0

-- A plugin has 15 provisions at most.
pub provisions_at : (m : List ℕ) (i : ℕ) → (plugin_at m i).provisions ≡ valued m i 0 (pairs (prov_part m i))
unfolding plugin_at
provisions_at m i = refl

pub few_words : (m : List ℕ) (i : ℕ) → length (prov_part m i) ≤ max_provision_keys * 2
few_words m i = simp (length-take, length-drop) (omega arith)

pub port_below : (m : List ℕ) (i : ℕ) (q : Port) (j : ℕ) → port_from 0 q (pairs (prov_part m i)) ≡ Some j → j < max_provision_keys
port_below m i q j e = omega (arith, (port_there q (pairs (prov_part m i)) j e).within, length_pairs (prov_part m i), few_words m i)

-- The value of a port is that of its place.
abbrev pub value_found : List ℕ → ℕ → Option ℕ → Option ℕ
value_found m i (Some j) = value_at m i j
value_found m i None = None

value_from_lem : (m : List ℕ) (i k : ℕ) (q : Port) (ps : List Port) → value_in q (valued m i k ps) ≡ value_found m i (port_from k q ps)
unfolding port_from
value_from_lem m i k q [] = refl
value_from_lem m i k q (p ∷ ps) =
    let r = value_from_lem m i (k + 1) q ps in
    by_test (same_port q p) (λ t. rw t) (λ f. rw f r)

module _ (m : List ℕ) (i : ℕ) (q : Port) (ps : List Port) where
  pub value_in_lem : value_in q (valued m i 0 ps) ≡ value_found m i (port_from 0 q ps)
  value_in_lem = value_from_lem m i 0 q ps

  pub value_there : (j : ℕ) → port_from 0 q ps ≡ Some j → value_in q (valued m i 0 ps) ≡ value_at m i j
  value_there j e = value_in_lem ∙ ap (value_found m i) e

  pub value_nowhere : port_from 0 q ps ≡ None → value_in q (valued m i 0 ps) ≡ None
  value_nowhere e = value_in_lem ∙ ap (value_found m i) e

-- Provision j is the first without a value.
abbrev pub lacks : Provision → Bool
lacks v = is_none v.value

abbrev pub port_of : Provision → Port
port_of v = v.port

record Lack (j : ℕ) (vs : List Provision) : Type 0 where
  test : any lacks vs ≡ true
  answer : first_missing vs ≡ flat (get_or (map port_of vs) j (port 0 0) ∷ [])

LackOf : ℕ → Option ℕ → List Provision → Type 0
LackOf k (Some j) vs = (k ≤ j) × Lack (j - k) vs
LackOf k None vs = (any lacks vs ≡ false) × (first_missing vs ≡ [])

lack_further : (f : Option ℕ) (k : ℕ) (v : Provision) (vs : List Provision) → lacks v ≡ false → LackOf (k + 1) f vs → LackOf k f (v ∷ vs)
unfolding LackOf
lack_further (Some j) k v vs e (h, r) =
    let s : j - k ≡ suc (j - (k + 1)) = omega arith in
    (omega arith, rw s (record { test = rw (e, r.test); answer = rw e r.answer }))
lack_further None k v vs e (t, a) = (rw (e, t), rw (e, a))

lack_of : (k : ℕ) (vs : List Provision) → LackOf k (lack_from k vs) vs
unfolding lack_from LackOf
lack_of k [] = (refl, refl)
lack_of k (v ∷ vs) =
    let r = lack_of (k + 1) vs in
    by_test (lacks v)
    (λ t. let z : k - k ≡ 0 = omega arith in
    rw t (omega arith, rw z (record { test = rw t; answer = rw t })))
    (λ f. rw f (lack_further (lack_from (k + 1) vs) k v vs f r))

pub lack_nothing : (vs : List Provision) → lack_from 0 vs ≡ None → (any lacks vs ≡ false) × (first_missing vs ≡ [])
unfolding LackOf
lack_nothing vs e = rw e at (lack_of 0 vs)

-- of provisions as the words have them
module _ (m : List ℕ) (i : ℕ) (ps : List Port) (j : ℕ) (e : lack_from 0 (valued m i 0 ps) ≡ Some j) where
  the_lack : Lack j (valued m i 0 ps)
  unfolding LackOf
  the_lack = let z : j - 0 ≡ j = omega arith in rw z at (rw e at (lack_of 0 (valued m i 0 ps))).1

  pub lack_test : any lacks (valued m i 0 ps) ≡ true
  lack_test = the_lack.test

  pub lack_answer : first_missing (valued m i 0 ps) ≡ flat (get_or ps j (port 0 0) ∷ [])
  lack_answer = the_lack.answer ∙ ap (λ (qs : List Port). flat (get_or qs j (port 0 0) ∷ [])) (valued_ports m i 0 ps)
