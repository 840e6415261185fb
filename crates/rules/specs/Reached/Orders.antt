-- A start order, checked and planned: 1 needs what 2 gives, 3 and 4 need each other, 5 needs its own anchor.
use Rattle.std.specs.Prelude.{ℕ, List, [], ◌∷◌, None}
use Rattle.rules.specs.Holds.{port}
use Rattle.rules.specs.Refusals.{Repeated, Unknown, Retired, InvalidState, ShortBuffer}
use Rattle.rules.specs.Steps.{Op, Begin, Retire, Ask, Write}
use Rattle.rules.specs.Questions.{CheckOrder, Order}
use Rattle.rules.specs.Examples.{registers}
use Rattle.rules.specs.Reached.Transcripts.{Line, ◌↝◌, ok, refused}

abbrev checks : (set order : List ℕ) → Op
checks set order = Ask (CheckOrder set order)

-- planned into a buffer of three zeros
abbrev plans : (set : List ℕ) → Op
plans set = Write (Order set) (0 ∷ 0 ∷ 0 ∷ [])

abbrev pub pier : List Line
pier =
    registers None (port 100 0) [] (11 ∷ []) [] ↝ ok (1 ∷ [])
    ∷ registers None (port 101 0) [] [] (11 ∷ []) ↝ ok (2 ∷ [])
    ∷ registers None (port 102 0) [] (22 ∷ []) (23 ∷ []) ↝ ok (3 ∷ [])
    ∷ registers None (port 103 0) [] (23 ∷ []) (22 ∷ []) ↝ ok (4 ∷ [])
    ∷ registers None (port 104 0) [] (104 ∷ []) [] ↝ ok (5 ∷ [])
    ∷ []

abbrev pub orders : List Line
orders =
    checks (1 ∷ 2 ∷ []) (2 ∷ 1 ∷ []) ↝ ok (1 ∷ [])
    ∷ checks (1 ∷ 2 ∷ []) (1 ∷ 2 ∷ []) ↝ ok (0 ∷ [])
    ∷ checks (1 ∷ 2 ∷ []) (2 ∷ []) ↝ ok (0 ∷ [])
    ∷ checks (1 ∷ 2 ∷ []) (2 ∷ 2 ∷ []) ↝ ok (0 ∷ [])
    ∷ checks (1 ∷ 2 ∷ []) (2 ∷ 9 ∷ []) ↝ ok (0 ∷ [])
    ∷ checks [] [] ↝ ok (1 ∷ [])
    ∷ plans (1 ∷ 2 ∷ []) ↝ ok (2 ∷ [])
    ∷ plans (1 ∷ []) ↝ ok []
    ∷ plans (3 ∷ 4 ∷ []) ↝ ok []
    ∷ plans (5 ∷ []) ↝ ok []
    ∷ Write (Order []) [] ↝ ok (0 ∷ [])
    -- 27 is told of the second of two, so 1 of the first and of what stands between
    ∷ plans (1 ∷ 1 ∷ 9 ∷ []) ↝ refused Repeated
    ∷ plans (9 ∷ 9 ∷ []) ↝ refused Unknown
    ∷ plans (1 ∷ 9 ∷ 1 ∷ []) ↝ refused Unknown
    -- the ids before the room, and the room before the order
    ∷ Write (Order (1 ∷ 9 ∷ [])) (0 ∷ []) ↝ refused Unknown
    ∷ Write (Order (3 ∷ 4 ∷ [])) (0 ∷ []) ↝ refused ShortBuffer
    ∷ Begin 2 ↝ ok (7 ∷ 2 ∷ 1 ∷ 1 ∷ [])
    ∷ checks (1 ∷ 2 ∷ []) [] ↝ refused InvalidState
    ∷ plans (1 ∷ []) ↝ ok []
    ∷ Retire 2 ↝ ok []
    ∷ checks (1 ∷ 2 ∷ []) [] ↝ refused Retired
    ∷ []
