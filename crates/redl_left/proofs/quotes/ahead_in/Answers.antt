use Rattle.std.proofs.Common.{ℕ, Bool, eqb, arith}
use Rattle.redl_markup.proofs.Blocks.{lanes_compared}
use Rattle.redl_markup.proofs.NearBlocks.{marks_of, when_none, when_some}
use Rattle.redl_left.proofs.quotes.ahead_in.Goals as goal

abbrev is_quote : ℕ → Bool
is_quote x = eqb x 34

pub returns-then-marks-eq0 : goal.returns-then-marks-eq0
returns-then-marks-eq0 c =
    let block = c.args.block in
    let long = c.fits-block.0 in
    let e = marks_of is_quote block _ 16 long (omega arith) (lanes_compared eqb 16 34 block long) in
    when_none is_quote block _ 16 e c.if-marks-eq0.true long (omega arith)

pub returns-else-marks-eq0 : goal.returns-else-marks-eq0
returns-else-marks-eq0 c =
    let block = c.args.block in
    let long = c.fits-block.0 in
    let e = marks_of is_quote block _ 16 long (omega arith) (lanes_compared eqb 16 34 block long) in
    when_some is_quote block _ 16 e c.if-marks-eq0.false long (omega arith)
