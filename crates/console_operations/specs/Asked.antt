-- The rules' list that the code's names.
use Rattle.rules.specs.Lists.{Which, Dependencies, Provisions, RealmRows}
use Rattle.console_names.specs.declared.Held.{Held}
use Rattle.console_names.specs.declared.Held.TheVariants.{Deps, Provs, Realms}

abbrev pub which_of : Held → Which
which_of Deps = Dependencies
which_of Provs = Provisions
which_of Realms = RealmRows
