-- What the tests 8, 14 and 15 say of the wiring.
use Rattle.std.specs.Prelude.{ℕ, ◌≡◌, ◌&&◌, Option, Some, None}
use Rattle.std.proofs.Math.Path.{refl}
use Rattle.std.proofs.Common.{sym, ◌∙◌}
use Rattle.std.proofs.Math.Bool.{true, false, true≢false}
use Rattle.rules.specs.Basics.{any, is_some, holds, twice}
use Rattle.rules_types.specs.declared.Port.{Port}
use Rattle.rules.specs.Holds.{Plugin, Registry, plugins, lookup, provider, provides, running, is_active}
use Rattle.rules.specs.Phases.{available, in_use}
use Rattle.rules_laws.specs.Laws.Members.{first_in_lem, first_none, any_false, lookup_in}
use Rattle.rules_laws.specs.Laws.Table.{is_active_lem}
use Rattle.rules_laws.specs.Built.{ids_of, Served, Wanted}
use Rattle.rules_laws.specs.Kept.Places.{distinct}

module _ (r : Registry) where
  pub available_served : twice (ids_of (plugins r)) ≡ false → (k : Port) → available r k ≡ true → Served r k
  unfolding provider
  available_served once k e = go (provider r k) refl e
    where
      go : (u : Option Plugin) → provider r k ≡ u → holds (λ (p : Plugin). is_active p.phase) u ≡ true → Served r k
      go None i h = absurd (true≢false (sym h))
      go (Some a) i h =
          let m = first_in_lem (λ (p : Plugin). provides p k) (plugins r) a i in
          record { id = a.id; plugin = a; registered = distinct r once a m.0; active = is_active_lem a.phase h; gives = m.1 }

  pub not_in_use : (p : Plugin) → in_use r p ≡ false → (k : Port) → Wanted r k → provides p k ≡ false
  not_in_use p e k want =
      let s = want.plugin in
      let n = any_false (λ (q : Plugin). running q && any (provides p) q.dependencies) (plugins r) s e (lookup_in r want.id s want.registered) in
      let m : any (provides p) s.dependencies ≡ false = rw want.runs at n in
      any_false (provides p) s.dependencies k m want.depends

  pub unprovided : (k : Port) → is_some (provider r k) ≡ false → (y : ℕ) (b : Plugin) → lookup r y ≡ Some b → provides b k ≡ true → ⊥
  unfolding provider
  unprovided k e y b f g = go (provider r k) refl e
    where
      go : (u : Option Plugin) → provider r k ≡ u → is_some u ≡ false → ⊥
      go None i h = true≢false (sym g ∙ first_none (λ (p : Plugin). provides p k) (plugins r) b i (lookup_in r y b f))
      go (Some a) i h = true≢false h
