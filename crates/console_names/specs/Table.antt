-- The console's operations: one table, a row for each. The code's table has the same rows in the same order.
use Rattle.std.specs.Prelude.{ℕ, suc, ◌≡◌, refl, Bool, List, [], ◌∷◌, eqb, leb, get_or, drop}
use Prim.Native.String.{String}
use Rattle.rules.specs.Holds.{port}
use Rattle.rules.specs.Queries.{RowsInUse, Registered, NextId, EditionOf}
use Rattle.rules.specs.Steps.{Op, Begin, Ready, Fail, Unload, Finish, Replace, Admit, Call, Retire, RetireChild, Remove, Offer, Ask}
use Rattle.rules.specs.Questions.{ResolveKey, DependencyPort, Fits, ChildIdentity, Read, Visible, FirstMissing, Matching, Declares}
use Rattle.rules.specs.Questions.{AskPlugin, AskRegistry}
use Rattle.text_form.specs.Bytes.{bytes}
use Rattle.console_names.specs.declared.Count.{Count}
use Rattle.console_names.specs.declared.Count.TheVariants.{Exactly, AtLeast}
use Rattle.console_names.specs.declared.Values.{Values}
use Rattle.console_names.specs.declared.Values.TheVariants.{None, Numbers, NumbersOrNone, YesOrNo}
use Rattle.console_names.specs.declared.Held.TheVariants.{Deps, Provs, Realms}
use Rattle.console_names.specs.declared.Request.{Request}
use Rattle.console_names.specs.declared.Request.TheVariants as request
use Rattle.console_names.specs.declared.Kind.TheVariants.{Show, Buffer, Lists, Registry, Text, Load, Plan}
use Rattle.console_names.specs.declared.Row.{Row}
use Rattle.console_names.specs.declared.Row.TheVariants.{Slot, Register, Check, Takes, Unknown}
use Rattle.console_names.specs.Names.{place_among}

-- What the registry is asked for: nothing that there is; a fresh registry; an operation whose status says all, or one that tells
-- numbers.
pub data Asked : Type 0 where
  Bad : Asked
  Open : (domain first : ℕ) → Asked
  Stated Told : Op → Asked

-- An operation: its name, and what stands behind it.
pub record Operation : Type 0 where
  pub name : String
  pub row : Row

-- So many numbers are what is due.
abbrev pub takes : Count → ℕ → Bool
takes (Exactly due) given = eqb given due
takes (AtLeast due) given = leb due given

-- The numbers behind a name, one by one; one that is missing is 0.
abbrev pub first : List ℕ → ℕ
first l = get_or l 0 0

abbrev pub second : List ℕ → ℕ
second l = get_or l 1 0

abbrev pub third : List ℕ → ℕ
third l = get_or l 2 0

abbrev pub fourth : List ℕ → ℕ
fourth l = get_or l 3 0

abbrev pub fifth : List ℕ → ℕ
fifth l = get_or l 4 0

abbrev pub rest : List ℕ → List ℕ
rest l = drop 1 l

-- What a request of the numbers l asks the registry for. A question changes nothing.
abbrev pub asked : Request → List ℕ → Asked
asked request.Open l = Open (first l) (second l)
asked request.Begin l = Told (Begin (first l))
asked request.Ready l = Stated (Ready (first l))
asked request.Fail l = Stated (Fail (first l))
asked request.Unload l = Stated (Unload (first l))
asked request.Finish l = Stated (Finish (first l))
asked request.Replace l = Told (Replace (first l) (second l))
asked request.Fits l = Told (Ask (Fits (first l) (second l)))
asked request.Admit l = Told (Admit (record { domain = first l; id = second l; generation = third l; kind = fourth l }) (fifth l))
asked request.Call l = Told (Call (record { domain = first l; id = second l; generation = third l; revision = fourth l; argument = fifth l }))
asked request.Retire l = Stated (Retire (first l))
asked request.RetireChild l = Stated (RetireChild (record { domain = first l; parent = second l; id = third l }))
asked request.Remove l = Stated (Remove (first l))
asked request.Child l = Told (Ask (ChildIdentity (first l)))
asked request.Offer l = Stated (Offer (first l) (port (second l) (third l)) (fourth l))
asked request.Read l = Told (Ask (Read (first l) (port (second l) (third l))))
asked request.Visible l = Told (Ask (Visible (port (first l) (second l))))
asked request.Missing l = Told (Ask (FirstMissing (first l)))
asked request.Matches l = Told (Ask (Matching (first l) (rest l)))
asked request.Declares l = Told (Ask (Declares (first l) (port (second l) (third l))))
asked request.Lookup l = Told (Ask (DependencyPort (first l) (second l)))
asked request.Resolve l = Told (Ask (ResolveKey (rest l) (first l)))
asked request.Rows l = Told (Ask (AskRegistry RowsInUse))
asked request.Count l = Told (Ask (AskRegistry Registered))
asked request.Next l = Told (Ask (AskRegistry NextId))
asked request.Edition l = Told (Ask (AskPlugin EditionOf (first l)))

-- An operation that is not the registry's alone.
abbrev pub other : String → Row → Operation
other name r = record { name = name; row = r }

-- An operation of so many numbers, which the registry is asked for, and the values of its answer.
abbrev pub ask : String → Count → Request → Values → Operation
ask name n r v = other name (Takes n (Registry r v))

-- Name, count of numbers, what is asked for, and kind of values.
abbrev pub operations : List Operation
operations =
    ask "open" (Exactly 2) request.Open None
    ∷ other "register" Register
    ∷ ask "begin" (Exactly 1) request.Begin Numbers
    ∷ ask "ready" (Exactly 1) request.Ready None
    ∷ ask "fail" (Exactly 1) request.Fail None
    ∷ ask "unload" (Exactly 1) request.Unload None
    ∷ ask "finish" (Exactly 1) request.Finish None
    ∷ ask "replace" (Exactly 2) request.Replace Numbers
    ∷ ask "fits" (Exactly 2) request.Fits YesOrNo
    ∷ ask "admit" (Exactly 5) request.Admit Numbers
    ∷ ask "call" (Exactly 5) request.Call Numbers
    ∷ ask "retire" (Exactly 1) request.Retire None
    ∷ ask "retire_child" (Exactly 3) request.RetireChild None
    ∷ ask "remove" (Exactly 1) request.Remove None
    ∷ ask "child" (Exactly 1) request.Child NumbersOrNone
    ∷ ask "offer" (Exactly 4) request.Offer None
    ∷ ask "read" (Exactly 3) request.Read Numbers
    ∷ ask "visible" (Exactly 2) request.Visible NumbersOrNone
    ∷ ask "missing" (Exactly 1) request.Missing NumbersOrNone
    ∷ ask "matches" (AtLeast 1) request.Matches YesOrNo
    ∷ ask "declares" (Exactly 3) request.Declares YesOrNo
    ∷ ask "lookup" (Exactly 2) request.Lookup NumbersOrNone
    ∷ ask "resolve" (AtLeast 3) request.Resolve Numbers
    ∷ other "deps" (Takes (Exactly 2) (Lists Deps))
    ∷ other "provs" (Takes (Exactly 2) (Lists Provs))
    ∷ other "realms" (Takes (Exactly 2) (Lists Realms))
    ∷ other "buffer" (Takes (Exactly 2) Buffer)
    ∷ ask "rows" (Exactly 0) request.Rows Numbers
    ∷ ask "count" (Exactly 0) request.Count Numbers
    ∷ ask "next" (Exactly 0) request.Next Numbers
    ∷ other "show" (Takes (Exactly 1) Show)
    ∷ other "slot" Slot
    ∷ other "write" (Takes (Exactly 1) Text)
    ∷ other "load" (Takes (Exactly 2) Load)
    ∷ ask "edition" (Exactly 1) request.Edition Numbers
    ∷ other "plan" (Takes (AtLeast 1) Plan)
    ∷ other "check" Check
    ∷ []

-- What no name is.
abbrev pub unknown : Operation
unknown = other "" Unknown

-- The operation at a place among the names.
unfoldable pub operation_at : ℕ → Operation
operation_at place = get_or operations place unknown

abbrev pub row_at : ℕ → Row
row_at place = (operation_at place).row

-- What an operation's numbers ask the registry for.
abbrev pub asked_by : Row → List ℕ → Asked
asked_by (Takes n (Registry r v)) l = asked r l
asked_by (Takes n Show) l = Bad
asked_by (Takes n Buffer) l = Bad
asked_by (Takes n (Lists held)) l = Bad
asked_by (Takes n Text) l = Bad
asked_by (Takes n Load) l = Bad
asked_by (Takes n Plan) l = Bad
asked_by Slot l = Bad
asked_by Register l = Bad
asked_by Check l = Bad
asked_by Unknown l = Bad

abbrev pub asked_at : ℕ → List ℕ → Asked
asked_at place l = asked_by (row_at place) l

abbrev pub names_of : List Operation → List (List ℕ)
names_of [] = []
names_of (o ∷ os) = bytes o.name ∷ names_of os

abbrev pub names : List (List ℕ)
names = names_of operations

abbrev pub place_of : String → ℕ
place_of name = place_among (bytes name) names

-- No two names are the same.
abbrev pub places : List Operation → List ℕ
places [] = []
places (o ∷ os) = place_of o.name ∷ places os

abbrev pub counting : ℕ → List Operation → List ℕ
counting i [] = []
counting i (o ∷ os) = i ∷ counting (suc i) os

pub named : places operations ≡ counting 0 operations
unfolding place_among
named = refl
