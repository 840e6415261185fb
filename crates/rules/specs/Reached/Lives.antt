-- Transcripts of lives: phases and values, a family, questions, and numbers at their end.
use Rattle.std.specs.Prelude.{◌^◌, ◌-◌, List, [], ◌∷◌, Some, None}
use Rattle.rules.specs.Holds.{port}
use Rattle.rules.specs.Refusals.{number, Unknown, Retired, InvalidState, BadRealms, BadEdition}
use Rattle.rules.specs.Refusals.{Stale, Unavailable, InUse, Exhausted}
use Rattle.rules.specs.Refusals.{NotRun, HasChildren, Closed, Undeclared, Duplicate, Missing, ShortBuffer}
use Rattle.rules.specs.Outcomes.{Refused}
use Rattle.rules.specs.Lists.{Dependencies, Provisions, RealmRows}
use Rattle.rules.specs.Queries.{Parent, Anchor, EditionOf, PhaseOf, RetiredMark, Generation, Revision, Payload, RootOf}
use Rattle.rules.specs.Queries.{Domain, FirstId}
use Rattle.rules.specs.Steps.{Begin, Ready, Fail, Unload, Finish, Replace, Admit, Call, Ask, Retire, RetireChild, Remove, Offer, Write}
use Rattle.rules.specs.Questions.{ResolveKey, DependencyPort, Fits, Admits, ChildIdentity, Read, Visible, Own, FirstMissing, Matching, Declares, Listed}
use Rattle.rules.specs.Questions.{AskPlugin, AskRegistry, IdFrom, CheckOrder, Text, Order}
use Rattle.rules.specs.Examples.{in_first, registers, plain, ticket, invocation}
use Rattle.rules.specs.Reached.Transcripts.{Line, ◌↝◌, ok, refused, child, keys}

-- A life: a provider (1) of (5,0) and (6,0), and a reader (2) that depends on (5,0) and on its anchor (100,0).
abbrev pub life : List Line
life =
    registers None (port 100 0) (6 ∷ 3 ∷ []) [] (5 ∷ 6 ∷ []) ↝ ok (1 ∷ [])
    ∷ registers None (port 101 0) [] (5 ∷ 100 ∷ []) [] ↝ ok (2 ∷ [])
    ∷ Ask (ResolveKey (3 ∷ 0 ∷ 2 ∷ []) 6) ↝ refused BadEdition
    ∷ Ask (ResolveKey (2 ∷ []) 6) ↝ refused BadEdition
    ∷ Ask (ResolveKey (in_first (2 ∷ [])) 6) ↝ refused BadRealms
    ∷ Ask (ResolveKey (in_first (6 ∷ 3 ∷ [])) 6) ↝ ok (6 ∷ 3 ∷ [])
    ∷ Ask (DependencyPort 9 5) ↝ refused Unknown
    ∷ Ask (DependencyPort 2 100) ↝ ok (100 ∷ 0 ∷ [])
    ∷ Ask (DependencyPort 2 6) ↝ ok []
    ∷ Begin 9 ↝ refused Unknown
    ∷ Begin 2 ↝ refused Unavailable
    ∷ Ready 9 ↝ refused Unknown
    ∷ Ready 1 ↝ refused InvalidState
    ∷ Fail 9 ↝ refused Unknown
    ∷ Fail 1 ↝ refused InvalidState
    ∷ Unload 9 ↝ refused Unknown
    ∷ Unload 1 ↝ refused InvalidState
    ∷ Finish 9 ↝ refused Unknown
    ∷ Finish 1 ↝ refused InvalidState
    ∷ Offer 9 (port 5 0) 50 ↝ refused Unknown
    ∷ Offer 1 (port 7 0) 50 ↝ refused Closed
    ∷ Ask (Read 9 (port 5 0)) ↝ refused Unknown
    ∷ Ask (Read 2 (port 7 0)) ↝ refused Closed
    ∷ Ask (Declares 9 (port 5 0)) ↝ refused Unknown
    ∷ Ask (Declares 1 (port 5 0)) ↝ ok (1 ∷ [])
    ∷ Ask (Declares 2 (port 5 0)) ↝ ok (0 ∷ [])
    ∷ Ask (Admits (ticket 1 1)) ↝ ok (0 ∷ [])
    ∷ Begin 1 ↝ ok (7 ∷ 1 ∷ 1 ∷ 1 ∷ [])
    ∷ Begin 1 ↝ refused InvalidState
    ∷ Ready 1 ↝ refused NotRun
    ∷ Ask (Admits (ticket 1 1)) ↝ ok (1 ∷ [])
    ∷ Admit (record { domain = 8; id = 9; generation = 1; kind = 1 }) 24 ↝ refused InvalidState
    ∷ Admit (record { domain = 7; id = 9; generation = 1; kind = 2 }) 24 ↝ refused InvalidState
    ∷ Admit (ticket 9 1) 24 ↝ refused Unknown
    ∷ Admit (ticket 1 2) 24 ↝ refused Stale
    ∷ Call (invocation 1 1 0 24) ↝ refused Stale
    ∷ Admit (ticket 1 1) 24 ↝ ok (7 ∷ 1 ∷ 1 ∷ 0 ∷ 24 ∷ [])
    ∷ Admit (ticket 1 2) 24 ↝ refused Stale
    ∷ Admit (ticket 1 1) 24 ↝ refused InvalidState
    ∷ Ask (Admits (ticket 1 1)) ↝ ok (0 ∷ [])
    ∷ Ask (AskPlugin RootOf 1) ↝ ok (1 ∷ 0 ∷ 24 ∷ [])
    ∷ Ready 1 ↝ refused NotRun
    ∷ Call (record { domain = 8; id = 9; generation = 1; revision = 0; argument = 24 }) ↝ refused InvalidState
    ∷ Call (invocation 9 1 0 24) ↝ refused Unknown
    ∷ Call (invocation 1 2 0 24) ↝ refused Stale
    ∷ Call (invocation 1 1 1 24) ↝ refused Stale
    ∷ Call (invocation 1 1 0 25) ↝ refused Stale
    ∷ Call (invocation 1 1 0 24) ↝ ok (7 ∷ 1 ∷ 1 ∷ 0 ∷ 40 ∷ 24 ∷ [])
    ∷ Ready 1 ↝ refused Missing
    ∷ Ask (FirstMissing 9) ↝ refused Unknown
    ∷ Ask (FirstMissing 1) ↝ ok (5 ∷ 0 ∷ [])
    ∷ Offer 1 (port 100 0) 50 ↝ refused Undeclared
    ∷ Offer 1 (port 5 0) 50 ↝ ok []
    ∷ Offer 1 (port 5 0) 51 ↝ refused Duplicate
    ∷ Ask (FirstMissing 1) ↝ ok (6 ∷ 3 ∷ [])
    ∷ Ask (Visible (port 5 0)) ↝ ok []
    ∷ Offer 1 (port 6 3) 60 ↝ ok []
    ∷ Ask (FirstMissing 1) ↝ ok []
    ∷ Ask (Own 9 (port 5 0)) ↝ refused Unknown
    ∷ Ask (Own 1 (port 6 3)) ↝ ok (60 ∷ [])
    ∷ Ask (Own 1 (port 6 0)) ↝ ok []
    ∷ Begin 2 ↝ refused Unavailable
    ∷ Ready 1 ↝ ok []
    ∷ Ask (Visible (port 5 0)) ↝ ok (50 ∷ [])
    ∷ Ask (Visible (port 100 0)) ↝ ok []
    ∷ Ask (Visible (port 7 0)) ↝ ok []
    ∷ Offer 1 (port 5 0) 52 ↝ refused Closed
    ∷ Begin 2 ↝ ok (7 ∷ 2 ∷ 1 ∷ 1 ∷ [])
    ∷ Ask (Read 2 (port 6 3)) ↝ refused Undeclared
    ∷ Ask (Read 2 (port 7 0)) ↝ refused Undeclared
    ∷ Ask (Read 2 (port 100 0)) ↝ refused Missing
    ∷ Ask (Read 2 (port 5 0)) ↝ ok (50 ∷ 1 ∷ [])
    ∷ Ask (Declares 2 (port 5 0)) ↝ ok (1 ∷ [])
    ∷ Unload 1 ↝ refused InUse
    ∷ Ask (Matching 9 (5 ∷ [])) ↝ refused Unknown
    ∷ Ask (Matching 1 (5 ∷ 0 ∷ 6 ∷ 3 ∷ [])) ↝ ok (1 ∷ [])
    ∷ Ask (Matching 1 (6 ∷ 3 ∷ 5 ∷ 0 ∷ [])) ↝ ok (0 ∷ [])
    ∷ Ask (Matching 1 (5 ∷ 0 ∷ 6 ∷ 3 ∷ 7 ∷ [])) ↝ ok (0 ∷ [])
    ∷ Fail 2 ↝ ok []
    ∷ Unload 1 ↝ ok []
    ∷ Ask (Own 1 (port 5 0)) ↝ ok (50 ∷ [])
    ∷ Ask (AskPlugin RootOf 1) ↝ ok (2 ∷ [])
    ∷ Finish 1 ↝ ok []
    ∷ Ask (Own 1 (port 5 0)) ↝ ok []
    ∷ Ask (AskPlugin RootOf 1) ↝ ok (0 ∷ [])
    ∷ Begin 1 ↝ ok (7 ∷ 1 ∷ 2 ∷ 1 ∷ [])
    ∷ Call (invocation 1 1 0 24) ↝ refused Stale
    ∷ []

-- Replacement, retirement, removal: a parent (1) and its child (2).
abbrev pub family : List Line
family =
    plain ↝ ok (1 ∷ [])
    ∷ registers (Some 1) (port 101 0) [] [] [] ↝ ok (2 ∷ [])
    ∷ Replace 9 41 ↝ Refused (number Unknown) (41 ∷ [])
    ∷ Replace 1 41 ↝ ok (40 ∷ [])
    ∷ Ask (Fits 9 1) ↝ refused Unknown
    ∷ Ask (Fits 1 (2 ^ 64 - 2)) ↝ ok (1 ∷ [])
    ∷ Ask (Fits 1 (2 ^ 64 - 1)) ↝ ok (0 ∷ [])
    ∷ Ask (ChildIdentity 9) ↝ refused Unknown
    ∷ Ask (ChildIdentity 1) ↝ ok []
    ∷ Ask (ChildIdentity 2) ↝ ok (7 ∷ 1 ∷ 2 ∷ [])
    ∷ Remove 9 ↝ refused Unknown
    ∷ Remove 1 ↝ refused InvalidState
    ∷ Retire 9 ↝ refused Unknown
    ∷ Retire 1 ↝ ok []
    ∷ Retire 1 ↝ refused Retired
    ∷ Begin 1 ↝ refused Retired
    ∷ Ready 1 ↝ refused Retired
    ∷ Admit (ticket 1 1) 24 ↝ refused Retired
    ∷ Call (invocation 1 1 0 24) ↝ refused Retired
    ∷ Remove 1 ↝ refused HasChildren
    ∷ RetireChild (child 8 1 9) ↝ refused InvalidState
    ∷ RetireChild (child 7 1 0) ↝ refused Unknown
    ∷ RetireChild (child 7 1 3) ↝ refused Unknown
    ∷ RetireChild (child 7 3 1) ↝ refused InvalidState
    ∷ RetireChild (child 7 3 2) ↝ refused InvalidState
    ∷ Begin 2 ↝ ok (7 ∷ 2 ∷ 1 ∷ 1 ∷ [])
    ∷ RetireChild (child 7 1 2) ↝ ok []
    ∷ RetireChild (child 7 1 2) ↝ refused Retired
    ∷ Offer 2 (port 7 0) 50 ↝ refused Closed
    ∷ Begin 2 ↝ refused Retired
    ∷ Remove 2 ↝ refused InvalidState
    ∷ Fail 2 ↝ ok []
    ∷ Finish 2 ↝ ok []
    ∷ Remove 2 ↝ ok []
    ∷ RetireChild (child 7 3 2) ↝ ok []
    ∷ Ask (AskPlugin PhaseOf 2) ↝ refused Unknown
    ∷ Remove 1 ↝ ok []
    ∷ registers (Some 2) (port 101 0) [] [] [] ↝ refused Unknown
    ∷ registers None (port 101 0) [] [] [] ↝ ok (3 ∷ [])
    ∷ Ask (IdFrom 0) ↝ ok (3 ∷ [])
    ∷ Ask (IdFrom 3) ↝ ok (3 ∷ [])
    ∷ Ask (IdFrom 4) ↝ ok []
    ∷ []

-- The text of an empty registry has 34 bytes; then queries and lists of one plugin.
abbrev pub questions : List Line
questions =
    Write Text (keys 33 0) ↝ refused ShortBuffer
    ∷ Write Text (keys 34 0) ↝ ok (34 ∷ [])
    ∷ registers None (port 100 4) (2 ∷ 5 ∷ []) (9 ∷ []) (2 ∷ []) ↝ ok (1 ∷ [])
    ∷ registers (Some 1) (port 101 0) [] [] [] ↝ ok (2 ∷ [])
    ∷ Ask (AskPlugin Parent 1) ↝ ok []
    ∷ Ask (AskPlugin Parent 2) ↝ ok (1 ∷ [])
    ∷ Ask (AskPlugin Anchor 1) ↝ ok (100 ∷ 4 ∷ [])
    ∷ Ask (AskPlugin EditionOf 1) ↝ ok (1 ∷ 0 ∷ [])
    ∷ Ask (AskPlugin PhaseOf 1) ↝ ok (0 ∷ [])
    ∷ Ask (AskPlugin RetiredMark 1) ↝ ok (0 ∷ [])
    ∷ Ask (AskPlugin Generation 1) ↝ ok (0 ∷ [])
    ∷ Ask (AskPlugin Revision 1) ↝ ok (0 ∷ [])
    ∷ Ask (AskPlugin Payload 1) ↝ ok (40 ∷ [])
    ∷ Ask (AskPlugin RootOf 1) ↝ ok (0 ∷ [])
    ∷ Ask (AskPlugin Payload 9) ↝ refused Unknown
    ∷ Ask (AskRegistry Domain) ↝ ok (7 ∷ [])
    ∷ Ask (AskRegistry FirstId) ↝ ok (1 ∷ [])
    ∷ Ask (IdFrom 2) ↝ ok (2 ∷ [])
    ∷ Write (Listed Dependencies 9 4) (1 ∷ 1 ∷ 1 ∷ []) ↝ refused Unknown
    ∷ Write (Listed Dependencies 1 4) (1 ∷ 1 ∷ 1 ∷ []) ↝ refused ShortBuffer
    ∷ Write (Listed Provisions 1 2) (1 ∷ 1 ∷ 1 ∷ []) ↝ refused ShortBuffer
    ∷ Write (Listed RealmRows 1 1) (1 ∷ 1 ∷ 1 ∷ []) ↝ ok (1 ∷ [])
    ∷ Write (Listed RealmRows 2 3) (1 ∷ 1 ∷ 1 ∷ []) ↝ ok (0 ∷ [])
    ∷ []

-- Numbers at their end: an Idle plugin with the last revision and generation that depends on a port without provider.
abbrev pub exhausted : List Line
exhausted =
    Replace 1 41 ↝ Refused (number Exhausted) (41 ∷ [])
    ∷ Ask (Fits 1 0) ↝ ok (1 ∷ [])
    ∷ Begin 1 ↝ refused Exhausted
    ∷ Write (Order (1 ∷ [])) [] ↝ refused Exhausted
    ∷ []

-- The same, Loading; it also depends on its own anchor, so it is in use.
abbrev pub exhausted_loading : List Line
exhausted_loading =
    Begin 1 ↝ refused InvalidState
    ∷ Unload 1 ↝ refused InvalidState
    ∷ Ask (CheckOrder (1 ∷ []) []) ↝ refused InvalidState
    ∷ []

-- A registered id that was never issued, and has no parent.
abbrev pub unissued : List Line
unissued = RetireChild (child 7 3 1) ↝ refused Unknown ∷ []
