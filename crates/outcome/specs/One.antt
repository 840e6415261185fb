-- Any two outcomes that a promise allows are equal. An outcome is the answer, and what each lent memory holds afterwards.
-- For each public function a theorem says so of its own promise: of `ended`, its signature, and of `Learnt`, which is what its
-- contract tells whoever calls it. A promise that is silent on its answer or on a lent memory has no such theorem.
use Rattle.std.specs.Prelude.{ℕ, ◌≡◌, List, [], ◌∷◌}
use contract.Lifetimes.{Lfts}
use denote.Exit.{Exit, unchanged, leaves, Last}
use denote.RattleType.{RattleType, Denots}
use denote.Param.Laws.{Laws}
use mir.Syntax.{Dict}
use denote.Signature.{Slot, types_at}
use denote.Triple.End.{Kepts, Fins}
use denote.Triple.Entry.{Args, Res}
use denote.Triple.Clauses.{Ended, Lasts, AtExit, at_exit}
use borrow.Fn.Claims.{AllOf}

-- An equation for a parameter that is lent to be changed; of another there is nothing to say.
abbrev changed : {D : Type 0} (e : Exit D) (x : D) → Last e x → Last e x → List (Type 0) → List (Type 0)
changed unchanged x m n rest = rest
changed (leaves L l S s f) x m n rest = (m ≡ n) ∷ rest

module _ {k : ℕ} (κs : Lfts k) where
  abbrev lent : (ss : List (Slot k)) (ks : Kepts ss) (a : Denots (types_at ss κs)) → Fins κs ss ks a → Fins κs ss ks a → List (Type 0)
  lent [] ks a ms ns = []
  lent (s ∷ ss) ks a ms ns = changed ((s.row κs).exit ks.0) a.0 ms.0 ns.0 (lent ss ks.1 a.1 ms.1 ns.1)

module _ (T : Ended) where
  abbrev Lifetimes : Type 0
  Lifetimes = Lfts T.signature.lifetimes

  -- What is said of the arguments, the answer and the parameters at exit.
  abbrev pub Promise : Type 1
  Promise = (κs : Lifetimes) → Args T.signature κs → Res T.signature κs → AtExit T κs → Type 0

  -- From the same arguments two answers, each with what it leaves of the lent memories: what is seen of the answers is equal, and
  -- so is each memory.
  abbrev pub OneSeen : {X : Lifetimes → Type 0} → ((κs : Lifetimes) → Res T.signature κs → X κs) → Promise → Type 0
  OneSeen see P =
      (κs : Lifetimes) (a : Args T.signature κs) (r s : Res T.signature κs) (ms ns : Lasts T κs a)
      → P κs a r (at_exit T κs a ms) → P κs a s (at_exit T κs a ns)
      → AllOf ((see κs r ≡ see κs s) ∷ lent κs T.signature.params T.kept a ms ns)

  -- All of the answer is seen. Of a part of a lent list it is what the part holds, `now`.
  abbrev pub One : Promise → Type 0
  One = OneSeen (λ κs r. r)

-- Of a function over a type with a bound: so it is at every type that meets the bound.
abbrev pub OneAtEach : (Bound : Type 0 → Type 1) (T : (E : RattleType) → Bound E.Denot → Dict → Ended)
    → ((E : RattleType) → Laws E → (b : Bound E.Denot) (d : Dict) → Promise (T E b d)) → Type 2
OneAtEach Bound T P = (E : RattleType) (l : Laws E) (b : Bound E.Denot) (d : Dict) → One (T E b d) (P E l b d)
