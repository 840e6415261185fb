-- What a lookup by the index finds is what a search of all places finds.
use Rattle.std.proofs.Common.{◌∙◌}
use Rattle.memory_index.proofs.lookup.Index.provider.Goals as goal

pub returns : goal.returns
returns c = c.provider_by.ensures ∙ c.args.self.now.finds c.args.port
