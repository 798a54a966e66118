use Rattle.std.proofs.Common.{◌∙◌}
use Rattle.redl_reading.specs.Lists.{is_none_of}
use Rattle.redl_markup.proofs.NearBlocks.{before_after}
use Rattle.redl_left.proofs.quotes.until_end.Goals as goal

pub returns-clause-front : goal.returns-clause-front
returns-clause-front c = c.before-2.ensures ∙ before_after (is_none_of 34 60 38) c.args.bytes.now c.from_end-rest.result.now c.from_end-rest.ensures
