use Rattle.std.proofs.Common.{leb}
use Rattle.redl_markup.proofs.Blocks.{lanes_from, none_set, twice}
use Rattle.redl_markup.proofs.character.is_low_block.Goals as goal

pub returns : goal.returns
returns c =
    let v = c.args.block in
    let long = c.fits-block.0 in
    twice _ _ (none_set _ v _ long (lanes_from leb 64 128 v long))
