-- `entry` meets its contract: field by field, what the calls promise, with the rows in use as the start.
use Rattle.std.proofs.Common.{◌+◌}
use Rattle.registry_register.proofs.entry.Goals as goal

pub returns : goal.returns
returns c =
    λ i. record {
      id = c.next_id-id.ensures i;
      tag = c.parent_tag.ensures i;
      parent = c.parent_word.ensures i;
      payload = c.args.payload;
      start = c.requires.at_end i;
      dependencies = c.args.dependencies;
      provisions = c.args.provisions;
      realms = c.args.realms;
      edition = c.number.ensures i;
      default = c.default.ensures i;
      next = c.next_id-id.ensures i + 1;
    }
