use Rattle.std.proofs.Common.{◌∙◌}
use Rattle.redl_reading.specs.Lists.{is_other}
use Rattle.redl_markup.proofs.NearBlocks.{before_after}
use Rattle.redl_left.proofs.quotes.until_quote.Goals as goal

pub returns-clause-front : goal.returns-clause-front
returns-clause-front c = c.before-2.ensures ∙ before_after (is_other 34) c.args.bytes.now c.from_quote-rest.result.now c.from_quote-rest.ensures
