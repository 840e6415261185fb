-- The ports so far, with their word, and the candidates from turn c on inherit the finished list; the inner loop looks for one candidate in the ports so far.
use Rattle.std.proofs.Common.{ℕ, ◌+◌, ◌-◌, ◌*◌, ◌/◌, ◌≤◌, ◌<◌, arith, ◌≡◌, refl, sym, ap, ◌∙◌, true, false, List, [], ◌∷◌, ◌++◌, length, get_or, take, drop, length-append, length-take}
use Rattle.std.proofs.lemmas.List.{length-map}
use Rattle.rules_types.specs.declared.Port.{Port}
use Rattle.rules.specs.Basics.{pick}
use Rattle.rules.specs.Holds.{port, is_in}
use Rattle.rules.specs.Ports.{pairs, resolve, resolve_in}
use Rattle.rules.specs.Dependencies.{candidates, own_ports, skipped, inherit, dependency_list}
use Rattle.rules.specs.Limits.{max_dependency_keys, max_dependencies}
use Rattle.rules_laws.specs.Laws.Tests.{by_test}
use Rattle.ports.specs.Places.{in_hit, in_miss}
use Rattle.ports_realms.specs.Halving.{reached, reached_with}
use Rattle.ports_bits.specs.Bits.{has_bit}
use Rattle.ports_bits.specs.Keys.{Covers, covers_word, covers_more, lacks_not_in}
use Rattle.ports_inherited.specs.Blocks.{fitted}
use Rattle.ports_inherited.specs.Answers.{fitted_lists, fitted_longer}
use Rattle.ports_inherited.proofs.Turns.{candidate_at, candidates_end, some_turns, turns_taken, skip_own, skip_listed, append_new, in_last, grows}
use Rattle.ports_resolved.specs.Filled.{Lists, listed, lists_own, lists_at, lists_end, lists_within, lists_more}
use Rattle.ports_resolved.specs.Stored.{declared_lists}
use Rattle.ports_resolved.specs.Keys.{list_room}
use Rattle.ports_inherited.proofs.dependency_list.Invariants.{so_far, finished, Drawn, Compared}
use Rattle.ports_inherited.proofs.dependency_list.Goals as goal
use Rattle.ports_inherited.proofs.dependency_list.Goals.{After-declared-count, After-candidate-turn, else-list-k-via-then-list-k+else-list-k-2, else-list-k-via-else-list-k}

module _ (other : ℕ) (anchor : Port) (rows keys provisions parents : List ℕ) where
  all_taken : (list : List ℕ) (n c : ℕ) → Drawn other anchor rows keys provisions parents list n c → length parents / 2 ≤ c / 2
      → record { count = n; ports = list } ≡ fitted (finished other anchor rows keys provisions parents)
  all_taken list n c d h =
      let e = d.2 ∙ ap (λ (cs : List Port). inherit (own_ports (pairs provisions) anchor) cs (so_far n list)) (candidates_end other rows parents c h) in
      fitted_lists (so_far n list) d.1 d.0 ∙ ap fitted (sym e)

-- a port whose key lacks its bit is not in the list so far: nothing is left to compare
compared_first : {list : List ℕ} {n bits : ℕ} → Lists list_room n list (so_far n list) → Covers bits (so_far n list) → (q : Port) {k : ℕ}
    → k ≡ pick (has_bit bits q.key) 0 n → Compared list n q k
compared_first {list} {n} {bits} r s q e = by_test (has_bit bits q.key)
    (λ t. rw (e, t))
    (λ f. rw (e, f) (lacks_not_in s q f ∙ sym (ap (is_in q) (lists_end r n (omega arith)))))

-- the declared ports come first
declared_first : (c : After-declared-count)
    → let a = c.args in
    Drawn a.other a.anchor a.rows.now a.keys.now a.provisions.now a.parents.now c.declared-count.new.list c.declared-count.result 0
unfolding dependency_list resolve
declared_first c =
    let a = c.args in
    let f = resolve_in a.other (reached (pairs a.rows.now)) in
    let keys = take max_dependency_keys a.keys.now in
    let r = declared_lists a.other (reached (pairs a.rows.now)) a.keys.now c.declared-count.ensures.0 c.declared-count.ensures.1 in
    let h : c.declared-count.result ≤ max_dependencies = omega (arith, r.counted, length-map keys f, length-take max_dependency_keys a.keys.now) in (
      h,
      lists_own r,
      ap (λ (l : List Port). inherit (own_ports (pairs a.provisions.now) a.anchor)
          (candidates (reached_with a.other a.rows.now) (pairs a.parents.now)) l) (sym (listed r)),
    )

-- the list so far, the plugin's own ports, the candidates from turn c on, and the one of this turn
abbrev list : After-candidate-turn → List Port
list t = so_far t.next.count t.next.list

abbrev own : After-candidate-turn → List Port
own t = own_ports (pairs t.args.provisions.now) t.args.anchor

abbrev rest : After-candidate-turn → ℕ → List Port
rest t c = drop c (candidates (reached_with t.args.other t.args.rows.now) (pairs t.args.parents.now))

abbrev drawn : After-candidate-turn → Port
drawn t = port (get_or t.args.parents.now (t.next.c / 2 * 2) 0) t.candidate-turn.result.realm

abbrev turns : After-candidate-turn → ℕ
turns t = t.candidate-turn.result.turns

split : (t : After-candidate-turn) → rest t t.next.c ≡ drawn t ∷ rest t (t.next.c + 1)
split t =
    let a = t.args in
    candidate_at a.other a.rows.now a.parents.now t.next.c t.next-test.true t.candidate-turn.ensures

few_turns : (t : After-candidate-turn) → (1 ≤ turns t) × (turns t ≤ 2)
few_turns t =
    let a = t.args in
    some_turns a.other a.rows.now a.parents.now t.next.c t.next-test.true t.candidate-turn.ensures

less : (t : After-candidate-turn)
    → let end = length t.args.parents.now / 2 * 2 in
    end - (t.next.c + turns t) < end - t.next.c
less t = omega (arith, t.next-test.true, (few_turns t).0)

-- a candidate that is skipped from here on is dealt with, in both its turns where they are taken at once
dealt : (t : After-candidate-turn) (l : List Port) → skipped (own t) l (drawn t) ≡ true
    → inherit (own t) (rest t (t.next.c + 1)) l ≡ inherit (own t) (rest t (t.next.c + turns t)) l
dealt t l k =
    let a = t.args in
    turns_taken a.other a.rows.now a.parents.now t.next.c t.next-test.true t.candidate-turn.ensures (own t) l k

pub returns-then-parents-lt2 : goal.returns-then-parents-lt2
returns-then-parents-lt2 c =
    let a = c.args in
    all_taken a.other a.anchor a.rows.now a.keys.now a.provisions.now a.parents.now _ _ 0
    (declared_first (goal.at.returns-then-parents-lt2 c).After-declared-count) (omega arith)

pub overflow_mul-list : goal.overflow_mul-list
overflow_mul-list c = omega (arith, (declared_first (goal.at.overflow_mul-list c).After-declared-count).0)

pub slice_bounds-list-end : goal.slice_bounds-list-end
slice_bounds-list-end c = omega (arith, lists_within (declared_first (goal.at.slice_bounds-list-end c).After-declared-count).1)

pub slice_bounds-key_word-end : goal.slice_bounds-key_word-end
slice_bounds-key_word-end c =
    simp length-take (omega (arith, lists_within (declared_first (goal.at.slice_bounds-key_word-end c).After-declared-count).1))

pub next-init : goal.next-init
next-init c = (rw c.key_word-bits.ensures (covers_word 0 _), declared_first (goal.at.next-init c).After-declared-count)

pub overflow_add-c : goal.overflow_add-c
overflow_add-c c = omega (arith, c.next-test.true, (few_turns (goal.at.overflow_add-c c).After-candidate-turn).1)

pub next-smaller-then-is_own : goal.next-smaller-then-is_own
next-smaller-then-is_own c = less (goal.at.next-smaller-then-is_own c).After-candidate-turn

-- it is one of its own
pub next-preserved-then-is_own : goal.next-preserved-then-is_own
next-preserved-then-is_own c =
    let t = (goal.at.next-preserved-then-is_own c).After-candidate-turn in
    let v = c.next.invariant in
    let owned : is_in (drawn t) (own t) ≡ true = sym c.is_own.ensures ∙ c.if-is_own.true in
    (v.0, (v.1.0, v.1.1, v.1.2 ∙ skip_own (split t) (own t) (list t) owned ∙ dealt t (list t) (rw owned)))

pub loop-k-init : goal.loop-k-init
loop-k-init c =
    let t = (goal.at.loop-k-init c).After-candidate-turn in
    let v = c.next.invariant in
    compared_first v.1.1 v.0 (drawn t) c.compared_from-k.ensures

pub next-smaller-then-list-k-2 : goal.next-smaller-then-list-k-2
next-smaller-then-list-k-2 c = less (goal.at.next-smaller-then-list-k-2 c).After-candidate-turn

-- it is in the list so far
pub next-preserved-then-list-k-2 : goal.next-preserved-then-list-k-2
next-preserved-then-list-k-2 c =
    let t = (goal.at.next-preserved-then-list-k-2 c).After-candidate-turn in
    let v = c.next.invariant in
    let free = sym c.is_own.ensures ∙ c.if-is_own.false in
    let s = lists_at v.1.1 c.loop-k.k c.loop-k-test.true in
    let there = c.loop-k.invariant ∙ in_hit s (drawn t) c.if-list-k.true c.if-list-k-2.true in
    (v.0, (v.1.0, v.1.1, v.1.2 ∙ skip_listed (split t) (own t) (list t) free there ∙ dealt t (list t) (rw (free, there))))

pub loop-k-preserved : goal.loop-k-preserved
loop-k-preserved c =
    let t = (goal.at.loop-k-preserved c).After-candidate-turn in
    let s = lists_at c.next.invariant.1.1 c.loop-k.k c.loop-k-test.true in
    c.loop-k.invariant ∙ in_miss s (drawn t) (elim c.else-list-k.branch [
      | else-list-k-via-then-list-k+else-list-k-2 w ↦ λ e f. w.if-list-k-2.false f
      | else-list-k-via-else-list-k w ↦ λ e f. w.if-list-k.false e
    ])

-- it is none of its own, nor in the list so far: it is appended
appended : (t : After-candidate-turn) → is_in (drawn t) (own t) ≡ false → is_in (drawn t) (list t) ≡ false
    → inherit (own t) (rest t t.next.c) (list t) ≡ inherit (own t) (rest t (t.next.c + 1)) (list t ++ drawn t ∷ [])
appended t free absent = append_new (split t) (own t) (list t) free absent

pub returns-then-count-eq-DEPENDENCIES : goal.returns-then-count-eq-DEPENDENCIES
returns-then-count-eq-DEPENDENCIES c =
    let t = (goal.at.returns-then-count-eq-DEPENDENCIES c).After-candidate-turn in
    let v = c.next.invariant in
    let l = list t ++ drawn t ∷ [] in
    let absent = c.loop-k.invariant ∙ ap (is_in (drawn t)) (lists_end v.1.1 c.loop-k.k c.loop-k-test.false) in
    let e = v.1.2 ∙ appended t (sym c.is_own.ensures ∙ c.if-is_own.false) absent in
    let n : max_dependencies < length (inherit (own t) (rest t (t.next.c + 1)) l) =
    omega (arith, grows (own t) (rest t (t.next.c + 1)) l, length-append (list t) (drawn t ∷ []), v.1.1.counted, c.if-count-eq-DEPENDENCIES.true) in
    fitted_longer (inherit (own t) (rest t (t.next.c + 1)) l) n c.longer.ensures.0 c.longer.ensures.1 ∙ ap fitted (sym e)

pub next-smaller : goal.next-smaller
next-smaller c = less (goal.at.next-smaller c).After-candidate-turn

pub next-preserved : goal.next-preserved
next-preserved c =
    let t = (goal.at.next-preserved c).After-candidate-turn in
    let v = c.next.invariant in
    let n = c.next.count in
    let free = sym c.is_own.ensures ∙ c.if-is_own.false in
    let absent = c.loop-k.invariant ∙ ap (is_in (drawn t)) (lists_end v.1.1 c.loop-k.k c.loop-k-test.false) in
    let r = lists_more v.1.1 (drawn t) {a = n * 2} {b = n * 2 + 1} refl refl (omega (arith, c.if-count-eq-DEPENDENCIES.false)) in
    let there = dealt t (list t ++ drawn t ∷ []) (rw (free, in_last (drawn t) (list t))) in
    let more = ap (λ (l : List Port). inherit (own t) (rest t (t.next.c + turns t)) l) (sym (listed r)) in (
      rw (c.with_bit-bits.ensures, listed r) (covers_more v.0 (drawn t)),
      (omega (arith, c.if-count-eq-DEPENDENCIES.false), lists_own r, v.1.2 ∙ appended t free absent ∙ there ∙ more),
    )

pub returns : goal.returns
returns c =
    let a = c.args in
    all_taken a.other a.anchor a.rows.now a.keys.now a.provisions.now a.parents.now _ _ c.next.c c.next.invariant.1 c.next-test.false
