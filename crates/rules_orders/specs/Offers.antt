-- The values that a start offers, one for each of a plugin's provisions: which are filled while some ports have theirs.
use Rattle.std.specs.Prelude.{ℕ, ◌≡◌, refl, true, false, List, [], ◌∷◌, ◌++◌, map, Option, Some, None}
use Rattle.std.proofs.Common.{sym, ap, ◌∙◌, true≢false, append_assoc}
use Rattle.std.proofs.Math.Bool.{or-true, or-false}
use Rattle.rules.specs.Basics.{pick, any, all, is_none}
use Rattle.rules_types.specs.declared.Port.{Port}
use Rattle.rules.specs.Holds.{Provision, same_port, is_in}
use Rattle.rules.specs.Registration.{repeats}
use Rattle.rules.specs.Values.{value_in, offered}
use Rattle.rules_laws.specs.Laws.Tests.{by_test, both, neither}
use Rattle.rules_laws.specs.Laws.Members.{any_append, same_port_lem, same_swap, same_self, in_behind}

-- Ports that are all different.
pub in_here : (front : List Port) (k : Port) (rest : List Port) → is_in k (front ++ k ∷ rest) ≡ true
in_here front k rest = rw (any_append (same_port k) front (k ∷ rest), same_self k, or-true)

pub first_time : (front : List Port) (k : Port) (rest : List Port) → repeats (front ++ k ∷ rest) ≡ false → is_in k front ≡ false
first_time [] k rest h = refl
first_time (u ∷ front) k rest h =
    let n = neither (is_in u (front ++ k ∷ rest)) (repeats (front ++ k ∷ rest)) h in
    by_test (same_port k u)
    (λ t. absurd (true≢false (sym (in_here front k rest) ∙ ap (λ z. is_in z (front ++ k ∷ rest)) (sym (same_port_lem k u t)) ∙ n.0)))
    (λ f. rw (f, first_time front k rest n.1))

-- The provisions once those of some ports have their values.
module _ (v : Port → ℕ) where
  abbrev pub filled : List Port → Provision → Provision
  filled done u = record { port = u.port; value = pick (is_in u.port done) (Some (v u.port)) None }

  pub filled_none : (ps : List Provision) → all (λ (u : Provision). is_none u.value) ps ≡ true → map (filled []) ps ≡ ps
  filled_none [] h = refl
  filled_none (u ∷ ps) h =
      let t = both (is_none u.value) (all (λ (u : Provision). is_none u.value) ps) h in
      ap (λ l. filled [] u ∷ l) (filled_none ps t.1) ∙ ap (λ w. w ∷ ps) (bare u.value t.0)
    where
      bare : (w : Option ℕ) → is_none w ≡ true → ◌≡◌ {A = Provision} (record { port = u.port; value = None }) (record { port = u.port; value = w })
      bare None e = refl
      bare (Some n) e = absurd (true≢false (sym e))

  valued : (done : List Port) (k u : Port)
      → pick (same_port k u) (Some (v k)) (pick (is_in u done) (Some (v u)) None) ≡ pick (is_in u (done ++ k ∷ [])) (Some (v u)) None
  valued done k u = by_test (same_port k u)
      (λ t. rw (in_behind u k done, same_swap u k, t, or-true) (ap (λ z. Some (v z)) (sym (same_port_lem k u t))))
      (λ f. rw (in_behind u k done, same_swap u k, f, or-false))

  pub filled_more : (done : List Port) (k : Port) (ps : List Provision) → map (offered k (v k)) (map (filled done) ps) ≡ map (filled (done ++ k ∷ [])) ps
  filled_more done k [] = refl
  filled_more done k (u ∷ ps) = rw (filled_more done k ps, valued done k u.port)

  pub unfilled : (done : List Port) (k : Port) → is_in k done ≡ false → (ps : List Provision) → value_in k (map (filled done) ps) ≡ None
  unfilled done k h [] = refl
  unfilled done k h (u ∷ ps) = by_test (same_port k u.port)
      (λ t. rw (t, same_port_lem k u.port t, h))
      (λ f. rw (f, unfilled done k h ps))

  pub all_filled : (front : List Port) (ps : List Provision)
      → any (λ (u : Provision). is_none u.value) (map (filled (front ++ map (λ (u : Provision). u.port) ps)) ps) ≡ false
  all_filled front [] = refl
  all_filled front (u ∷ ps) =
      let ports = map (λ (u : Provision). u.port) ps in
      rw (in_here front u.port ports) (rw append_assoc at (all_filled (front ++ u.port ∷ []) ps))
