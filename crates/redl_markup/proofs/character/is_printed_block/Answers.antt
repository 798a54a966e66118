use Rattle.std.proofs.Common.{ltb, leb}
use Rattle.redl_markup.proofs.Blocks.{lanes_compared, lanes_from, lanes_either, none_set, twice}
use Rattle.redl_markup.proofs.character.is_printed_block.Goals as goal

pub returns : goal.returns
returns c =
    let v = c.args.block in
    let long = c.fits-block.0 in
    twice _ _ (none_set _ v _ long (lanes_either _ _ v _ _ (lanes_compared ltb 64 32 v long) (lanes_from leb 64 128 v long)))
