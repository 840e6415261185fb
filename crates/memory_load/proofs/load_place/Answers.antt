-- `load_place` meets its contract: each step is the definition's, in its order.
use Rattle.std.proofs.Common.{ℕ, ◌≡◌, List}
use Rattle.memory.specs.Writes.{put_life}
use Rattle.memory.specs.declared.Life.{Life}
use Rattle.memory_entry.specs.Entries.{filled_place}
use Rattle.memory_entry.specs.declared.Entry.{Entry}
use Rattle.memory_values.specs.Values.{put_values}
use Rattle.memory_load.specs.Loading.{loaded_place}
use Rattle.memory_load.proofs.load_place.Goals as goal

load_steps : (m m₁ m₂ m₃ : List ℕ) (i : ℕ) (e : Entry) (life : Life) (realms dependencies claims : List ℕ) (mask : ℕ) (values : List ℕ)
    → m₁ ≡ filled_place m i e dependencies claims realms → m₂ ≡ put_life m₁ i life → m₃ ≡ put_values m₂ i mask values
    → m₃ ≡ loaded_place m i e life realms dependencies claims mask values
unfolding loaded_place
load_steps m m₁ m₂ m₃ i e life realms dependencies claims mask values e₁ e₂ e₃ = rw (e₃, e₂, e₁)

pub returns : goal.returns
returns c =
    load_steps _ _ _ _ _ _ _ _ _ _ _ _ c.fill_place.ensures c.store.ensures
    c.put_values.ensures
