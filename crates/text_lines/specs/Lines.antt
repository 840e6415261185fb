-- The lines of the registry's text, as bytes. A value carries the byte that ends it: 10 ends a line, and a comma parts two numbers.
use Rattle.std.specs.Prelude.{ℕ, List, [], ◌∷◌, ◌++◌, Option, Some, None}
use Rattle.rules_types.specs.declared.Port.{Port}
use Rattle.rules_types.specs.declared.Root.{Root}
use Rattle.rules_types.specs.declared.Root.TheVariants.{Unissued, Queued, Spent}
use Rattle.text_form.specs.Bytes.{bytes}
use Rattle.text_form.specs.Digits.{decimal_of}

-- A number, and the byte that ends it.
abbrev pub ended : ℕ → ℕ → List ℕ
ended n end = decimal_of n ++ end ∷ []

-- number or none
abbrev pub or_none : Option ℕ → List ℕ
or_none (Some n) = ended n 10
or_none None = bytes "none\n"

-- key,realm
abbrev pub pair : ℕ → ℕ → List ℕ
pair a b = ended a 44 ++ ended b 10

-- key,realm,value or none
abbrev pub triple : ℕ → ℕ → Option ℕ → List ℕ
triple a b value = ended a 44 ++ (ended b 44 ++ or_none value)

-- root (0 Unissued, 1 Queued, 2 Spent), queued (revision,argument while root is 1, else none)
abbrev pub root_lines : Root → List ℕ
root_lines Unissued = bytes "root=0\nqueued=none\n"
root_lines (Queued revision argument) = bytes "root=1\nqueued=" ++ pair revision argument
root_lines Spent = bytes "root=2\nqueued=none\n"

-- A line for each port.
abbrev pub port_lines : List ℕ → List Port → List ℕ
port_lines name [] = []
port_lines name (p ∷ ps) = (name ++ pair p.key p.realm) ++ port_lines name ps
