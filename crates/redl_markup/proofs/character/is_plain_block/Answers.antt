use Rattle.std.proofs.Common.{not, ltb, eqb, Bool, ℕ}
use Rattle.redl_markup.proofs.Blocks.{lanes_compared, lanes_both, lanes_either, plain_lanes, twice}
use Rattle.redl_markup.proofs.character.is_plain_block.Goals as goal

pub returns : goal.returns
returns c =
    let v = c.args.block in
    let long = c.fits-block.0 in
    let differ : ℕ → ℕ → Bool = λ a b. not (eqb a b) in
    let low = lanes_both _ _ v _ _ (lanes_both _ _ v _ _ (lanes_both _ _ v _ _ (lanes_compared ltb 64 32 v long) (lanes_compared differ 64 9 v long)) (lanes_compared differ 64 10 v long)) (lanes_compared differ 64 13 v long) in
    twice _ _ (plain_lanes v _ long (lanes_either _ _ v _ _ low (lanes_compared eqb 64 239 v long)))
