-- `provision_words` meets its contract.
use Rattle.memory_lists.proofs.Lists.{prov_words}
use Rattle.memory_lists.proofs.provision_words.Goals as goal

pub returns : goal.returns
returns c = prov_words _ _ _ _ _ c.start.ensures
    c.dependencies.ensures _ c.provisions-count.ensures c.some_words.ensures
