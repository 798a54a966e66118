use Rattle.redl_markup.specs.Views.{attribute_view}
use Rattle.redl_bare.proofs.StampLaws.{stamp_then}
use Rattle.redl_bare.proofs.stamps.Values.with.Goals as goal

pub returns : goal.returns
returns c = λ rest. stamp_then c.args.self _ (attribute_view c.args.attribute.now) rest c.first_of.ensures c.first_of-2.ensures
