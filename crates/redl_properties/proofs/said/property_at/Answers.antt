-- The table is opened here alone.
use Rattle.std.proofs.Common.{◌∙◌}
use Rattle.redl_properties.specs.Said.{property_at}
use Rattle.redl_properties.proofs.said.property_at.Goals as goal

pub returns : goal.returns
unfolding property_at
returns c = c.copied.ensures ∙ c.first_at.ensures
