use Rattle.redl_markup.proofs.BareLaws.{tail_gives}
use Rattle.redl_markup.proofs.bare.known_tail.Goals as goal

pub returns : goal.returns
returns c = tail_gives c.args.bytes.now c.attributes_end.result c.requires c.attributes_end.ensures
