-- Where each step of the table leads from.
use Rattle.std.specs.Prelude.{◌≡◌, refl, true, false}
use Rattle.rules.specs.Basics.{is_none}
use Rattle.rules_types.specs.declared.Phase.{Phase}
use Rattle.rules_types.specs.declared.Phase.TheVariants.{Idle, Loading, Active, Unloading}
use Rattle.rules.specs.Holds.{is_idle, is_loading, is_active}
use Rattle.rules.specs.Phases.{Begin, Ready, Fail, Unload, Finish, cell}

pub begins : (ph : Phase) → is_none (cell ph Begin) ≡ false → ph ≡ Idle
begins Idle e = refl
begins Loading e = cc
begins Active e = cc
begins Unloading e = cc

pub readies : (ph : Phase) → is_none (cell ph Ready) ≡ false → ph ≡ Loading
readies Idle e = cc
readies Loading e = refl
readies Active e = cc
readies Unloading e = cc

pub fails : (ph : Phase) → is_none (cell ph Fail) ≡ false → ph ≡ Loading
fails Idle e = cc
fails Loading e = refl
fails Active e = cc
fails Unloading e = cc

pub unloads : (ph : Phase) → is_none (cell ph Unload) ≡ false → ph ≡ Active
unloads Idle e = cc
unloads Loading e = cc
unloads Active e = refl
unloads Unloading e = cc

pub finishes : (ph : Phase) → is_none (cell ph Finish) ≡ false → ph ≡ Unloading
finishes Idle e = cc
finishes Loading e = cc
finishes Active e = cc
finishes Unloading e = refl

pub is_idle_lem : (ph : Phase) → is_idle ph ≡ true → ph ≡ Idle
is_idle_lem Idle e = refl
is_idle_lem Loading e = cc
is_idle_lem Active e = cc
is_idle_lem Unloading e = cc

pub is_loading_lem : (ph : Phase) → is_loading ph ≡ true → ph ≡ Loading
is_loading_lem Idle e = cc
is_loading_lem Loading e = refl
is_loading_lem Active e = cc
is_loading_lem Unloading e = cc

pub is_active_lem : (ph : Phase) → is_active ph ≡ true → ph ≡ Active
is_active_lem Idle e = cc
is_active_lem Loading e = cc
is_active_lem Active e = refl
is_active_lem Unloading e = cc
