-- Transcripts of registration: its checks, the last id, and crowds.
use Rattle.std.specs.Prelude.{ℕ, zero, suc, ◌+◌, ◌*◌, ◌^◌, ◌-◌, List, [], ◌∷◌, ◌++◌, Some, None}
use Rattle.rules.specs.Holds.{port}
use Rattle.rules.specs.Refusals.{Unknown, Retired, InvalidState, BadEdition, BadRealms, TooManyKeys, DuplicateDependency, DuplicateProvision, Taken}
use Rattle.rules.specs.Refusals.{NoId, Full, TooLong, NoRows}
use Rattle.rules.specs.Queries.{NextId, Registered, RowsInUse}
use Rattle.rules.specs.Steps.{Begin, Fail, Retire, RetireChild, Ask}
use Rattle.rules.specs.Questions.{AskRegistry}
use Rattle.rules.specs.Examples.{registers_by, registers, plain}
use Rattle.rules.specs.Reached.Transcripts.{Line, ◌↝◌, ok, refused, keys, realm_rows, child}

-- Registration, as far as its checks go without a crowd.
abbrev pub registrations : List Line
registrations =
    registers_by (3 ∷ 0 ∷ 2 ∷ []) None (port 100 0) [] [] ↝ refused BadEdition
    ∷ registers None (port 100 0) (2 ∷ []) (keys 17 1) [] ↝ refused BadRealms
    ∷ registers None (port 100 0) (realm_rows 17 1 5) [] [] ↝ refused BadRealms
    ∷ registers (Some 9) (port 100 0) [] (keys 17 1) [] ↝ refused TooManyKeys
    ∷ registers (Some 9) (port 100 0) [] [] (keys 16 1) ↝ refused TooManyKeys
    ∷ registers (Some 9) (port 100 0) [] (3 ∷ 3 ∷ []) [] ↝ refused Unknown
    ∷ registers None (port 3 0) [] (2 ∷ 2 ∷ []) (3 ∷ []) ↝ refused DuplicateDependency
    ∷ registers None (port 3 0) [] [] (3 ∷ []) ↝ refused DuplicateProvision
    ∷ registers None (port 100 0) (realm_rows 16 1 5) (keys 16 1) (keys 15 1) ↝ ok (1 ∷ [])
    ∷ registers None (port 100 0) [] [] (3 ∷ 3 ∷ []) ↝ refused DuplicateProvision
    ∷ registers None (port 100 0) [] [] [] ↝ refused Taken
    ∷ registers None (port 1 5) [] [] [] ↝ refused Taken
    ∷ registers None (port 101 0) [] [] (100 ∷ []) ↝ refused Taken
    ∷ registers None (port 101 0) [] [] [] ↝ ok (2 ∷ [])
    ∷ Begin 2 ↝ ok (7 ∷ 2 ∷ 1 ∷ 1 ∷ [])
    ∷ Fail 2 ↝ ok []
    ∷ registers (Some 2) (port 102 0) [] (3 ∷ 3 ∷ []) [] ↝ refused InvalidState
    ∷ Retire 2 ↝ ok []
    ∷ registers (Some 2) (port 102 0) [] [] [] ↝ refused Retired
    ∷ registers (Some 1) (port 102 0) [] [] [] ↝ ok (3 ∷ [])
    ∷ Ask (AskRegistry Registered) ↝ ok (3 ∷ [])
    ∷ Ask (AskRegistry RowsInUse) ↝ ok ((32 + 1 + 33) ∷ [])
    ∷ []

-- The last id, and it is taken before it is out of ids.
abbrev pub last_id : List Line
last_id =
    plain ↝ ok ((2 ^ 64 - 2) ∷ [])
    ∷ plain ↝ refused Taken
    ∷ registers None (port 101 0) [] [] [] ↝ refused NoId
    ∷ RetireChild (child 7 0 (2 ^ 64 - 1)) ↝ refused Unknown
    ∷ Ask (AskRegistry NextId) ↝ ok ((2 ^ 64 - 1) ∷ [])
    ∷ []

-- n plugins with anchors from k on and nothing else, ids from i on
abbrev pub bare : ℕ → ℕ → ℕ → List Line
bare zero k i = []
bare (suc n) k i = registers None (port k 0) [] [] [] ↝ ok (i ∷ []) ∷ bare n (k + 1) (i + 1)

-- 32 plugins and out of ids: 9 comes before 10.
abbrev pub full_and_last : List Line
full_and_last = bare 32 1000 (2 ^ 64 - 33) ++ registers None (port 999 0) [] [] [] ↝ refused NoId ∷ []

-- A parent (1) with 16 dependencies and a child (2) with 32; n of its children with 48 each and 64 rows each.
abbrev pub grandchildren : ℕ → ℕ → ℕ → List Line
grandchildren zero k i = []
grandchildren (suc n) k i = registers (Some 2) (port k 0) (realm_rows 16 1 6) [] (keys 15 (k * 100)) ↝ ok (i ∷ []) ∷ grandchildren n (k + 1) (i + 1)

-- 32 + 48 + 14 × 64 + 48 = 1,024 rows
abbrev pub crowd : List Line
crowd =
    registers None (port 1001 0) [] (keys 16 1) (keys 15 2000) ↝ ok (1 ∷ [])
    ∷ registers (Some 1) (port 1002 0) (realm_rows 16 1 5) [] (keys 15 2100) ↝ ok (2 ∷ [])
    ∷ grandchildren 14 3000 3
    ++ registers (Some 1) (port 1003 0) (realm_rows 16 1 7) [] (keys 15 2200) ↝ ok (17 ∷ [])
    ∷ Ask (AskRegistry RowsInUse) ↝ ok (1024 ∷ [])
    ∷ registers (Some 2) (port 999 0) (realm_rows 16 1 6) (40 ∷ []) [] ↝ refused TooLong
    ∷ registers None (port 999 0) [] [] [] ↝ refused NoRows
    ∷ []

-- 32 plugins, one of them with a long list: 10 comes before 11.
abbrev pub full_and_long : List Line
full_and_long =
    registers None (port 1001 0) [] (keys 16 1) [] ↝ ok (1 ∷ [])
    ∷ registers (Some 1) (port 1002 0) (realm_rows 16 1 5) [] [] ↝ ok (2 ∷ [])
    ∷ registers (Some 2) (port 1003 0) (realm_rows 16 1 6) [] [] ↝ ok (3 ∷ [])
    ∷ registers (Some 3) (port 1004 0) (realm_rows 16 1 7) [] [] ↝ refused TooLong
    ∷ bare 29 2000 4
    ++ registers (Some 3) (port 1004 0) (realm_rows 16 1 7) [] [] ↝ refused Full
    ∷ []
