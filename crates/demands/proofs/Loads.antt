-- Demand 3's sequences begin with a load as with an opening, and every made memory's text loads.
use Rattle.std.specs.Prelude.{ℕ, ◌≡◌, refl, true, List, ◌≢◌}
use Rattle.std.proofs.Common.{sym, subst}
use Rattle.rules.specs.Holds.{Registry}
use Rattle.rules.specs.Refusals.{SameDomain}
use Rattle.rules.specs.Admission.{Invocation}
use Rattle.rules.specs.Steps.{Op, Call, answer_to}
use Rattle.rules.specs.Text.{said, text, text_of}
use Rattle.rules.proofs.Text.{read_written}
use Rattle.rules.specs.Conditions.{loadable}
use Rattle.rules.specs.Load.{loaded, refused, opens, load}
use Rattle.rules_laws.specs.History.{story, Demand3}
use Rattle.rules_load.specs.Loaded.{load_same, load_fits}
use Rattle.rules_load.specs.Twin.{built_loadable}
use Rattle.memory.specs.View.{view}
use Rattle.memory_load.specs.Loading.{words_of}
use Rattle.text_write.specs.Numbers.{Small, words_fit}
use Rattle.demands.specs.Starts.{load_view}
use Rattle.demands.proofs.Starts.{begun_start}
use Rattle.demands.specs.Demand2.{Made}
use Rattle.demands.proofs.Demand2.{made_sound}
use Rattle.demands.specs.Demand3.{Night, night}
use Rattle.demands.proofs.Demand3.{demand_3}
use Rattle.demands.specs.Loads.{loads_begun, loads_domain}

module _ (d : ℕ) (t : List ℕ) (r : Registry) (e : load d t ≡ opens r) where
  -- Demand 3: its sequence starts anew at the load, with the loaded registry.
  module _ (ops : List Op) where
    abbrev n : Night
    n = night (words_of r) ops

    pub demand_3_loaded : (v : Invocation) → Demand3 d v (story r v.id n.events) (answer_to (view n.words) (Call v))
    demand_3_loaded v =
        subst (λ (x : ℕ). Demand3 x v (story r v.id n.events) (answer_to (view n.words) (Call v))) (loads_domain d t r e)
        (subst (λ (q : Registry). Demand3 (view (words_of r)).domain v (story q v.id n.events) (answer_to (view n.words) (Call v)))
        (load_view d t r e) (demand_3 (words_of r) (begun_start (words_of r) (loads_begun d t r e)) ops v))

-- A made memory's text meets the conditions,
pub made_loadable : (m : List ℕ) → Made m → loadable (said (view m)) ≡ true
made_loadable m w = built_loadable (view m) (made_sound m w).built

-- so it loads under every domain but its own.
module _ (m : List ℕ) (w : Made m) (h : Small m) where
  pub made_loads : (d : ℕ) → d ≢ (view m).domain → load d (text_of (view m)) ≡ opens (loaded d (said (view m)))
  made_loads d n =
      load_fits d (text_of (view m)) (said (view m)) (read_written (view m) (words_fit m h)) (made_loadable m w) (λ i. n (sym i))

  pub made_loads_same : load (view m).domain (text_of (view m)) ≡ refused SameDomain
  made_loads_same =
      load_same (view m).domain (text_of (view m)) (said (view m)) (read_written (view m) (words_fit m h)) (made_loadable m w) refl
