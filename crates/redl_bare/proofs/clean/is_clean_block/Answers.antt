use Rattle.std.proofs.Common.{ltb, eqb, arith, ap, ◌∙◌}
use Rattle.redl_markup.proofs.Blocks.{lanes_compared, lanes_either}
use Rattle.redl_markup.proofs.NearBlocks.{marks_of}
use Rattle.redl_bare.proofs.CleanLaws.{is_met, none_met}
use Rattle.redl_bare.proofs.clean.is_clean_block.Goals as goal

pub returns : goal.returns
returns c =
    let v = c.args.block in
    let long = c.fits-block.0 in
    let met = lanes_either _ _ v _ _ (lanes_either _ _ v _ _ (lanes_either _ _ v _ _ (lanes_compared ltb 16 14 v long) (lanes_compared eqb 16 38 v long)) (lanes_compared eqb 16 60 v long)) (lanes_compared eqb 16 92 v long) in
    ap (λ m. eqb m 0) (marks_of is_met v _ 16 long (omega arith) met) ∙ none_met is_met v
