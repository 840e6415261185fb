-- `offered_words` meets its contract.
use Rattle.memory_providers.proofs.Claims.{offered_words_lem}
use Rattle.memory_providers.proofs.offered_words.Goals as goal

pub returns : goal.returns
returns c =
    offered_words_lem _ _ _ _ _ _ c.start.ensures c.dependencies.ensures c.provisions.ensures c.some_words.ensures
