-- Every memory begins with a start.
use Rattle.std.specs.Prelude.{ℕ, List}
use Rattle.std.proofs.Common.{sym, subst}
use Rattle.rules_laws.specs.Demand3 as three
use Rattle.rules_laws.specs.Built.{Built}
use Rattle.rules_laws.specs.Kept.{opened_built}
use Rattle.rules_load.proofs.Loaded.{opens_built, opens_start}
use Rattle.registry_remove.specs.Refines.{open_refines}
use Rattle.memory_rows.specs.Opened.{opened_dense}
use Rattle.demands.specs.Starts.{Start, blank, load_view, load_words_lem, Begun, opened, loaded}

-- It is a start.
pub begun_start : (m : List ℕ) → Begun m → Start m
begun_start _ (opened m size domain first h) =
    let e = sym (open_refines m domain first size) in
    record {
      sound = record { dense = opened_dense m domain first first size; built = subst Built e (opened_built domain first h) };
      unqueued = (subst three.Start e (three.fresh_start domain first)).unqueued;
    }
begun_start _ (loaded domain text r h) =
    let e = sym (load_view domain text r h) in
    record {
      sound = record { dense = (load_words_lem domain text r h).0; built = subst Built e (opens_built domain text r h) };
      unqueued = (subst three.Start e (opens_start domain text r h)).unqueued;
    }
