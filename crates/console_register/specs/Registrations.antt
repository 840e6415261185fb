-- What a line's registration asks for.
use Rattle.std.specs.Prelude.{Option, Some, None}
use Rattle.rules.specs.Registration.{Definition}
use Rattle.rules.specs.Steps.{Register}
use Rattle.console_names.specs.Table as asked
use Rattle.console_names.specs.Table.{Asked, Told}

abbrev pub registration : Option Definition → Asked
registration None = asked.Bad
registration (Some d) = Told (Register d)
