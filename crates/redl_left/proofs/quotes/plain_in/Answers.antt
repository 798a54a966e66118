use Rattle.std.proofs.Common.{ℕ, Bool, eqb, arith}
use Rattle.std.specs.Prelude.{◌||◌}
use Rattle.redl_markup.proofs.Blocks.{lanes_compared, lanes_either}
use Rattle.redl_markup.proofs.NearBlocks.{marks_of, when_none, when_some}
use Rattle.redl_left.proofs.quotes.plain_in.Goals as goal

abbrev is_end : ℕ → Bool
is_end x = eqb x 34 || eqb x 60 || eqb x 38

pub returns-then-marks-eq0 : goal.returns-then-marks-eq0
returns-then-marks-eq0 c =
    let v = c.args.block in
    let long = c.fits-block.0 in
    let e = marks_of is_end v _ 16 long (omega arith) (lanes_either _ _ v _ _ (lanes_either _ _ v _ _ (lanes_compared eqb 16 34 v long) (lanes_compared eqb 16 60 v long)) (lanes_compared eqb 16 38 v long)) in
    when_none is_end v _ 16 e c.if-marks-eq0.true long (omega arith)

pub returns-else-marks-eq0 : goal.returns-else-marks-eq0
returns-else-marks-eq0 c =
    let v = c.args.block in
    let long = c.fits-block.0 in
    let e = marks_of is_end v _ 16 long (omega arith) (lanes_either _ _ v _ _ (lanes_either _ _ v _ _ (lanes_compared eqb 16 34 v long) (lanes_compared eqb 16 60 v long)) (lanes_compared eqb 16 38 v long)) in
    when_some is_end v _ 16 e c.if-marks-eq0.false long (omega arith)
