use Rattle.std.proofs.Common.{◌∙◌}
use Rattle.redl_reading.specs.Lists.{is_none_of}
use Rattle.redl_markup.proofs.NearBlocks.{before_after}
use Rattle.redl_markup.proofs.near.near_until_any.Goals as goal

pub returns-clause-front : goal.returns-clause-front
returns-clause-front c = c.before-2.ensures ∙ before_after (is_none_of c.args.a c.args.b c.args.c) c.args.bytes.now c.near_rest-rest.result.now c.near_rest-rest.ensures
