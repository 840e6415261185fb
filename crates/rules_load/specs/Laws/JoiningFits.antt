-- What joining asks of a plugin, by name; and where all of a list join, what holds of each and of the whole.
use Rattle.std.specs.Prelude.{ℕ, ◌+◌, ◌≤◌, ◌≡◌, refl, Bool, true, ◌&&◌, leb, length}
use Rattle.std.proofs.Common.{arith, sym, ap, ◌∙◌, inl, inr, length-append}
use Rattle.std.proofs.Math.Bool.{and_assoc}
use mathlib.Core.List.{List, [], ◌∷◌, ◌++◌, append-nil}
use Rattle.std.proofs.Math.Seq.{append_snoc}
use Rattle.rules.specs.Basics.{all, is_some, or_none}
use Rattle.rules.specs.Limits.{max_plugins, max_rows}
use Rattle.rules.specs.Holds.{Plugin, rows_of, sum_rows}
use Rattle.rules.specs.Conditions.{among, ids_rise, lists_short, realms_rise, provisions_resolved, by_rule}
use Rattle.rules.specs.Conditions.{begun_once, idle_clean, active_whole, queued_within}
use Rattle.rules_laws.specs.Laws.Tests.{both}
use Rattle.rules_laws.specs.Laws.Members.{In}
use Rattle.rules_load.specs.Joining.{life_fits, joins, join_all, behind_ids}
use Rattle.rules_load.specs.Laws.Lists.{all_intro, chained_true}
use Rattle.rules_load.specs.Laws.Joining.{ports_among, ports_standing, rows_append}

-- What is asked of a plugin that joins, by name.
pub record Fits (from : ℕ) (done : List Plugin) (p : Plugin) : Type 0 where
  pub above : leb from p.id ≡ true
  pub rows : leb (sum_rows done + rows_of p) max_rows ≡ true
  pub short : lists_short p ≡ true
  pub parent : or_none (λ x. is_some (among done x)) p.parent ≡ true
  pub realms : realms_rise p ≡ true
  pub resolved : provisions_resolved p ≡ true
  pub ruled : by_rule done p ≡ true
  pub begun : begun_once p ≡ true
  pub idle : idle_clean p ≡ true
  pub active : active_whole p ≡ true
  pub queued : queued_within p ≡ true

module _ (from : ℕ) (done : List Plugin) (p : Plugin) (few : length done ≤ max_plugins) where
  pub joins_fits : joins from done p ≡ true → Fits from done p
  unfolding joins
  joins_fits e =
      let e' = rw (ports_standing done few p) at e in
      let a = chained_true (leb from p.id) (leb (sum_rows done + rows_of p) max_rows ∷ lists_short p ∷ ports_among done p ∷ life_fits p ∷ []) e' in
      let asked = realms_rise p ∷ provisions_resolved p ∷ by_rule done p ∷ [] in
      let b = chained_true (or_none (λ x. is_some (among done x)) p.parent) asked a.1.1.1.0 in
      let c = chained_true (begun_once p) (idle_clean p ∷ active_whole p ∷ queued_within p ∷ []) a.1.1.1.1.0 in
      record {
        above = a.0;
        rows = a.1.0;
        short = a.1.1.0;
        parent = b.0;
        realms = b.1.0;
        resolved = b.1.1.0;
        ruled = b.1.1.1.0;
        begun = c.0;
        idle = c.1.0;
        active = c.1.1.0;
        queued = c.1.1.1.0;
      }

  pub fits_joins : Fits from done p → joins from done p ≡ true
  unfolding joins
  fits_joins f =
      rw (
        ports_standing done few p,
        f.above,
        f.rows,
        f.short,
        f.parent,
        f.realms,
        f.resolved,
        f.ruled,
        f.begun,
        f.idle,
        f.active,
        f.queued,
      )

-- A list in two parts.
pub join_all_append : (from : ℕ) (done l m : List Plugin) → join_all from done (l ++ m) ≡ (join_all from done l && join_all (behind_ids from l) (done ++ l) m)
unfolding join_all
join_all_append from done [] m = ap (λ d. join_all from d m) (sym (append-nil done))
join_all_append from done (p ∷ l) m =
    let more = join_all_append (p.id + 1) (done ++ p ∷ []) l m in
    let all = join_all (p.id + 1) (done ++ p ∷ []) l in
    ap (λ b. joins from done p && b) (more ∙ ap (λ d. all && join_all (behind_ids (p.id + 1) l) d m) (append_snoc done p l))
    ∙ sym (and_assoc (joins from done p) _ _)

-- Where all join, each does.
pub all_fit : (from : ℕ) (done : List Plugin) (p : Plugin) (rest : List Plugin) → length (done ++ p ∷ rest) ≤ max_plugins
    → join_all from [] (done ++ p ∷ rest) ≡ true → Fits (behind_ids from done) done p
unfolding join_all
all_fit from done p rest few e =
    let n = length-append done (p ∷ rest) in
    let w = both (join_all from [] done) (join_all (behind_ids from done) done (p ∷ rest)) (sym (join_all_append from [] done (p ∷ rest)) ∙ e) in
    joins_fits (behind_ids from done) done p (omega arith)
    (both (joins (behind_ids from done) done p) (join_all (p.id + 1) (done ++ p ∷ []) rest) w.1).0

-- Ids rise, and rows sum up.
pub all_rise : (from n : ℕ) (done l : List Plugin) → length (done ++ l) ≤ max_plugins → join_all from done l ≡ true
    → leb (behind_ids from l) n ≡ true → ids_rise from n l ≡ true
unfolding join_all
all_rise from n done [] few e h = h
all_rise from n done (p ∷ l) few e h =
    let w = both (joins from done p) (join_all (p.id + 1) (done ++ p ∷ []) l) e in
    let k = length-append done (p ∷ l) in
    rw (joins_fits from done p (omega arith) w.0).above (all_rise (p.id + 1) n (done ++ p ∷ []) l (rw (append_snoc done p l) few) w.1 h)

pub all_rows : (from : ℕ) (done l : List Plugin) → length (done ++ l) ≤ max_plugins → join_all from done l ≡ true
    → leb (sum_rows done) max_rows ≡ true → leb (sum_rows (done ++ l)) max_rows ≡ true
unfolding join_all
all_rows from done [] few e rows = rw (append-nil done) rows
all_rows from done (p ∷ l) few e rows =
    let w = both (joins from done p) (join_all (p.id + 1) (done ++ p ∷ []) l) e in
    let k = length-append done (p ∷ l) in
    let f = joins_fits from done p (omega arith) w.0 in
    let i : sum_rows (done ++ p ∷ []) ≡ sum_rows done + rows_of p = omega (arith, rows_append done (p ∷ [])) in
    rw (append_snoc done p l) at (all_rows (p.id + 1) (done ++ p ∷ []) l (rw (append_snoc done p l) few) w.1 (rw i f.rows))

-- Everyone of a list has those before it.
split_at : (l : List Plugin) (a : Plugin) → In a l → (done : List Plugin) × (rest : List Plugin) × (l ≡ done ++ a ∷ rest)
split_at [] a h = elim h [ ]
split_at (p ∷ l) a (inl i) = ([], l, ap (λ v. v ∷ l) i)
split_at (p ∷ l) a (inr m) = let s = split_at l a m in (p ∷ s.0, s.1, ap (λ v. p ∷ v) s.2)

pub in_middle : (done : List Plugin) (p : Plugin) (rest : List Plugin) → In p (done ++ p ∷ rest)
in_middle [] p rest = inl refl
in_middle (q ∷ done) p rest = inr (in_middle done p rest)

-- A test that each passes with those before it and those behind.
pub each_passes : (f n : ℕ) (ps : List Plugin) → length ps ≤ max_plugins → join_all f [] ps ≡ true → ids_rise f n ps ≡ true
    → (t : List Plugin → Plugin → Bool)
    → ((done : List Plugin) (p : Plugin) (rest : List Plugin) → ids_rise f n (done ++ p ∷ rest) ≡ true → Fits (behind_ids f done) done p
    → t (done ++ p ∷ rest) p ≡ true)
    → all (t ps) ps ≡ true
each_passes f n ps few e rise t h = all_intro (t ps) ps λ a m.
    let d = split_at ps a m in
    rw d.2 (h d.0 a d.1 (rw d.2 at rise) (all_fit f d.0 a d.1 (rw d.2 at few) (rw d.2 at e)))
