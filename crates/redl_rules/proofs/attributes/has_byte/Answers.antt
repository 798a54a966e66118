use Rattle.std.proofs.Common.{◌∙◌}
use Rattle.redl_reading.proofs.Runs.{finds}
use Rattle.redl_rules.proofs.attributes.has_byte.Goals as goal

pub returns : goal.returns
returns c = c.is_some.ensures ∙ finds c.args.byte c.args.tail.now c.find_byte.result c.find_byte.ensures
