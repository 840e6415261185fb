-- Document 02 [6]: a start order for a pier, planned and checked. Neither changes the registry.
use Rattle.std.specs.Prelude.{ℕ, zero, suc, Bool, true, false, not, ◌&&◌, ◌||◌, List, [], ◌∷◌, ◌++◌, eqb, ltb, length, Option, Some, None}
use Rattle.rules.specs.Basics.{pick, any, all, is_none, holds, twice, yes_no, last}
use Rattle.rules.specs.Holds.{Port, Plugin, Registry, lookup, provider, is_idle, is_active}
use Rattle.rules.specs.Refusals.{Repeated, Unknown, Retired, InvalidState, Exhausted, ShortBuffer}
use Rattle.rules.specs.Outcomes.{Outcome, answers, writes, Check, ◌⇒◌, checked}
use Rattle.rules.specs.Queries.{lower}

-- the id is one of these
abbrev pub named : ℕ → List ℕ → Bool
named x ids = any (eqb x) ids

-- "Ids are checked one by one in list order: 27 if repeated, then 1, 2, 3, 16."
abbrev pub id_checks : Registry → (earlier : List ℕ) (id : ℕ) → List Check
id_checks r earlier id =
    let plugin = lookup r id in
    (named id earlier ⇒ Repeated)
    ∷ (is_none plugin ⇒ Unknown)
    ∷ (holds (λ (p : Plugin). p.retired) plugin ⇒ Retired)
    ∷ (holds (λ (p : Plugin). not (is_idle p.phase)) plugin ⇒ InvalidState)
    ∷ (holds (λ (p : Plugin). eqb p.generation last) plugin ⇒ Exhausted)
    ∷ []

abbrev pub checks_behind : Registry → (earlier ids : List ℕ) → List Check
checks_behind r earlier [] = []
checks_behind r earlier (id ∷ ids) = id_checks r earlier id ++ checks_behind r (earlier ++ id ∷ []) ids

abbrev pub set_checks : Registry → (set : List ℕ) → List Check
set_checks r set = checks_behind r [] set

-- "those orders that name the set's ids, each once,"
abbrev pub each_once : (set order : List ℕ) → Bool
each_once set order = eqb (length order) (length set) && (all (λ x. named x set) order && not (twice order))

-- "and where every dependency is provided by a plugin already Active or by one earlier in the order, taking each to become Active
-- before the next begins."
abbrev pub in_time : Registry → (before : List ℕ) → Port → Bool
in_time r before q = holds (λ (p : Plugin). is_active p.phase || named p.id before) (provider r q)

unfoldable pub supplied : Registry → (before : List ℕ) → ℕ → Bool
supplied r before x = holds (λ (p : Plugin). all (in_time r before) p.dependencies) (lookup r x)

abbrev pub each_supplied : Registry → (before order : List ℕ) → Bool
each_supplied r before [] = true
each_supplied r before (x ∷ order) = supplied r before x && each_supplied r (before ++ x ∷ []) order

unfoldable pub passes : Registry → (set order : List ℕ) → Bool
passes r set order = each_once set order && each_supplied r [] order

-- "the passing order that has the lowest id at the first place where two differ": at each place the lowest id that can come next, and
-- none where none can. That it is this order, and none exactly if no order passes, is proved (crates/rules_orders: Planned).
abbrev pub lowest : (ℕ → Bool) → List ℕ → Option ℕ
lowest f [] = None
lowest f (x ∷ ids) = pick (f x) (lower x (lowest f ids)) (lowest f ids)

abbrev pub can_come : Registry → (before : List ℕ) → ℕ → Bool
can_come r before x = not (named x before) && supplied r before x

abbrev pub and_then : Option ℕ → (ℕ → Option (List ℕ)) → Option (List ℕ)
and_then None f = None
and_then (Some x) f = f x

-- so many more places
unfoldable pub plan_behind : Registry → (set : List ℕ) → ℕ → (before : List ℕ) → Option (List ℕ)
plan_behind r set zero before = Some before
plan_behind r set (suc n) before = and_then (lowest (can_come r before) set) (λ x. plan_behind r set n (before ++ x ∷ []))

abbrev pub plan : Registry → (set : List ℕ) → Option (List ℕ)
plan r set = plan_behind r set (length set) []

-- the first has the lower id at the first place where two orders differ
abbrev pub lower_first : List ℕ → List ℕ → Bool
lower_first [] l = false
lower_first (x ∷ k) [] = false
lower_first (x ∷ k) (y ∷ l) = pick (eqb x y) (lower_first k l) (ltb x y)

-- The checker: the set's refusals, else yes or no.
unfoldable pub check_order : Registry → (set order : List ℕ) → Outcome
check_order r set order = checked (set_checks r set) (answers (yes_no (passes r set order) ∷ []))

abbrev pub planned : Option (List ℕ) → Outcome
planned None = answers []
planned (Some order) = writes 0 order (length order ∷ [])

-- The planner: the set's refusals, then 23 for too few places; else the order to the front of the buffer, with its length for an
-- answer, or none.
unfoldable pub plan_order : Registry → (set buffer : List ℕ) → Outcome
plan_order r set buffer =
    checked (set_checks r set ++ (ltb (length buffer) (length set) ⇒ ShortBuffer) ∷ []) (planned (plan r set))
