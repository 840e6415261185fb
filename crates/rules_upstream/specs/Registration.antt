-- Upstream's clauses on R's registration.
use Rattle.std.specs.Prelude.{ℕ, ◌+◌, ◌≤◌, ◌≡◌, refl, Bool, true, not, ◌&&◌, ◌||◌, ◌⊎◌, ◌↔◌, ltb, leb, length, Option, Some, None}
use Rattle.std.proofs.Common.{arith, le_refl, sym, ◌∙◌, subst, inl, inr, ⊎_elim}
use Rattle.std.proofs.Math.Bool.{and-true, and_assoc, or-true}
use mathlib.Core.List.{[], ◌∷◌, map-map, map-id}
use Rattle.rules.specs.Basics.{any, is_some, is_none, holds, last}
use Rattle.rules_types.specs.declared.Port.{Port}
use Rattle.rules.specs.Holds.{Provision, Plugin, Registry, lookup, provider, provided, provides, is_in, count, rows_in_use, rows_of, is_unloading}
use Rattle.rules.specs.Outcomes.{Accepted, Outcome, answer_of, after}
use Rattle.rules.specs.Ports.{rows_in, realm_list, bad_edition, bad_realms, pairs}
use Rattle.rules.specs.Registration.{Definition, parent_of, resolved, claimed, repeats, unoffered, dependencies_of, new_plugin, registration_checks, register}
use Rattle.rules_laws.specs.Laws.Tests.{by_test}
use Rattle.rules_laws.specs.Laws.Members.{In, same_port_lem, same_self, is_in_lem}
use Rattle.rules_laws.specs.Built.{Built}
use Rattle.rules_laws.specs.Kept.Places.{Only, only_added}
use Rattle.rules_laws.specs.Kept.Moves.{fresh}
use Rattle.rules_laws.specs.Kept.New.{new_joins}
use Rattle.rules.specs.Limits.{max_plugins, max_rows, max_dependency_keys, max_provision_keys, max_dependencies}
use Rattle.rules_upstream.specs.Accepted.{accepted, checked_accepted, below, When, when_passed}
use Rattle.rules_upstream.specs.Dependencies.{is_in_exactly}

-- What R promises of a new plugin.
pub record Registered (r : Registry) (d : Definition) (u : Outcome) : Type 0 where
  pub answer : answer_of u ≡ Accepted (r.next ∷ [])
  pub plugin : Plugin
  pub only : Only r (after r u) r.next None (Some plugin)
  pub domain : (after r u).domain ≡ r.domain
  pub next : (after r u).next ≡ r.next + 1
  pub parent : plugin.parent ≡ d.parent
  pub anchor : plugin.anchor ≡ d.anchor
  pub realms : plugin.realms.rows ≡ pairs (rows_in d.realms)
  pub dependencies : plugin.dependencies ≡ dependencies_of r d
  pub provisions : provided plugin ≡ resolved d d.provisions
  pub revision : plugin.revision ≡ 0
  pub payload : plugin.payload ≡ d.payload

-- R registration_enabled: the parent, if any, is registered, not retired and not Unloading; next id is below the last number; the
-- declared dependencies are distinct, and so are the provisions with the anchor; none of these is provided.
abbrev pub parent_free : Registry → Option ℕ → Bool
parent_free r None = true
parent_free r (Some x) = holds (λ p. not p.retired && not (is_unloading p.phase)) (lookup r x)

abbrev pub enabled : Registry → Definition → Bool
enabled r d =
    parent_free r d.parent
    && not (repeats (resolved d d.dependencies))
    && not (repeats (claimed d))
    && not (any (λ q. is_some (provider r q)) (claimed d))
    && ltb r.next last

-- What document 01 asks besides: an edition (26), well-formed lists (4, 5), and room (10, 11, 12).
abbrev pub well_formed : Definition → Bool
well_formed d =
    not (bad_edition d.realms)
    && not (bad_realms (rows_in d.realms))
    && not (ltb max_dependency_keys (length d.dependencies) || ltb max_provision_keys (length d.provisions))

abbrev pub room_for : Registry → Definition → Bool
room_for r d = not (leb max_plugins (count r)) && not (ltb max_dependencies (length (dependencies_of r d)))
    && not (ltb max_rows (rows_in_use r + rows_of (new_plugin r d)))

module _ (r : Registry) (d : Definition) where
  -- R register_plugin: accepted exactly if R enables it, and the lists are well-formed and there is room.
  pub register_exactly : r.next ≤ last → accepted (register r d) ≡ (well_formed d && enabled r d && room_for r d)
  unfolding register
  register_exactly l = checked_accepted _ _ ∙ rw (← (free d.parent), ← (below r.next last l)) (simp (and_assoc, and-true))
    where
      free : (u : Option ℕ)
          → (not (is_some u && is_none (parent_of r u)) && (not (holds (λ p. p.retired) (parent_of r u)) && not (holds (λ p. is_unloading p.phase) (parent_of r u))))
          ≡ parent_free r u
      free None = refl
      free (Some x) = go (lookup r x)
        where
          go : (v : Option Plugin) → (not (is_none v) && (not (holds (λ p. p.retired) v) && not (holds (λ p. is_unloading p.phase) v)))
              ≡ holds (λ p. not p.retired && not (is_unloading p.phase)) v
          go None = refl
          go (Some p) = refl

  -- .. it answers next id; the new plugin stands there as R says, and nothing else changes.
  pub register_adds : Built r → When (Registered r d) (register r d)
  unfolding register new_plugin realm_list after count
  register_adds b = when_passed (Registered r d) (registration_checks r d) _ λ c _.
      let j = new_joins r d c in
      let ports = resolved d d.provisions in
      record {
        answer = refl;
        plugin = new_plugin r d;
        only = only_added r (r.next ∷ []) b.once (new_plugin r d) (fresh r b r.next (le_refl _)) (omega (arith, b.room, j.room));
        domain = refl;
        next = refl;
        parent = refl;
        anchor = refl;
        realms = refl;
        dependencies = refl;
        provisions = map-map (λ (v : Provision). v.port) unoffered ports ∙ map-id ports;
        revision = refl;
        payload = refl;
      }

-- R register_plugin, of the new fiber: it provides its provisions and its anchor.
pub provides_exactly : (p : Plugin) (q : Port) → provides p q ≡ true ↔ (In q (provided p) ⊎ (q ≡ p.anchor))
provides_exactly p q = (
  λ t. by_test (is_in q (provided p))
      (λ y. inl (is_in_lem q (provided p) y))
      (λ n. inr (sym (same_port_lem q p.anchor (rw n at t)))),
  ⊎_elim (λ m. rw ((is_in_exactly q (provided p)).1 m)) (λ i. subst (λ k. provides p k ≡ true) (sym i) (rw (same_self p.anchor, or-true))),
)
