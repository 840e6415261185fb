-- How an operation changes the words: what it does with them where its outcome stores a plugin, adds one or removes one. Any other
-- outcome, a refusal first of all, leaves them.
use Rattle.std.specs.Prelude.{ℕ, ◌≡◌, refl, List, length}
use Rattle.rules.specs.Holds.{Plugin}
use Rattle.rules.specs.Refusals.{Refusal, number}
use Rattle.rules.specs.Outcomes.{Refused, Outcome, tells, refuses, writes, stores, adds, removes, Meets}

pub record Way : Type 0 where
  pub stored : List ℕ → Plugin → List ℕ
  pub added : List ℕ → Plugin → List ℕ
  pub removed : List ℕ → ℕ → List ℕ

unfoldable pub left_by : Way → List ℕ → Outcome → List ℕ
left_by w m (tells a) = m
left_by w m (writes place l vs) = m
left_by w m (stores q vs) = w.stored m q
left_by w m (adds q vs) = w.added m q
left_by w m (removes id vs) = w.removed m id

-- Each way knows one outcome alone.
abbrev pub by_storing : (List ℕ → Plugin → List ℕ) → Way
by_storing f = record { stored = f; added = λ m q. m; removed = λ m id. m }

abbrev pub by_adding : (List ℕ → Plugin → List ℕ) → Way
by_adding f = record { stored = λ m q. m; added = f; removed = λ m id. m }

abbrev pub by_removing : (List ℕ → ℕ → List ℕ) → Way
by_removing f = record { stored = λ m q. m; added = λ m q. m; removed = f }

-- On any words, there are as many afterwards.
pub record Sized (w : Way) : Type 0 where
  pub stored : (m : List ℕ) (q : Plugin) → length (w.stored m q) ≡ length m
  pub added : (m : List ℕ) (q : Plugin) → length (w.added m q) ≡ length m
  pub removed : (m : List ℕ) (id : ℕ) → length (w.removed m id) ≡ length m

pub left_size : (w : Way) → Sized w → (m : List ℕ) (o : Outcome) → length (left_by w m o) ≡ length m
unfolding left_by
left_size w s m (tells a) = refl
left_size w s m (writes place l vs) = refl
left_size w s m (stores q vs) = s.stored m q
left_size w s m (adds q vs) = s.added m q
left_size w s m (removes id vs) = s.removed m id

pub storing_sized : (f : List ℕ → Plugin → List ℕ) → ((m : List ℕ) (q : Plugin) → length (f m q) ≡ length m) → Sized (by_storing f)
storing_sized f h = record { stored = h; added = λ m q. refl; removed = λ m id. refl }

pub adding_sized : (f : List ℕ → Plugin → List ℕ) → ((m : List ℕ) (q : Plugin) → length (f m q) ≡ length m) → Sized (by_adding f)
adding_sized f h = record { stored = λ m q. refl; added = h; removed = λ m id. refl }

pub removing_sized : (f : List ℕ → ℕ → List ℕ) → ((m : List ℕ) (id : ℕ) → length (f m id) ≡ length m) → Sized (by_removing f)
removing_sized f h = record { stored = λ m q. refl; added = λ m q. refl; removed = h }

-- What is refused leaves the words, whatever the way.
pub meets_refused : (w : Way) (o : Outcome) (m : List ℕ) (x : Refusal) (vs : List ℕ) → o ≡ refuses x vs → Meets (left_by w) o m (Refused (number x) vs) m
unfolding left_by
meets_refused w o m x vs e = (rw e, rw e)
