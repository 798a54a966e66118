use Rattle.std.proofs.Common.{ℕ, Bool, eqb, arith}
use Rattle.std.specs.Prelude.{◌||◌}
use Rattle.redl_markup.proofs.Blocks.{lanes_compared, lanes_either}
use Rattle.redl_markup.proofs.NearBlocks.{marks_of, when_none, when_some}
use Rattle.redl_markup.proofs.near.plain_front.Goals as goal

pub returns-then-marks-eq0 : goal.returns-then-marks-eq0
returns-then-marks-eq0 c =
    let v = c.args.block in
    let long = c.fits-block.0 in
    let q : ℕ → Bool = λ x. eqb x c.args.a || eqb x c.args.b || eqb x c.args.c in
    let e = marks_of q v _ 16 long (omega arith) (lanes_either _ _ v _ _ (lanes_either _ _ v _ _ (lanes_compared eqb 16 c.args.a v long) (lanes_compared eqb 16 c.args.b v long)) (lanes_compared eqb 16 c.args.c v long)) in
    when_none q v _ 16 e c.if-marks-eq0.true long (omega arith)

pub returns-else-marks-eq0 : goal.returns-else-marks-eq0
returns-else-marks-eq0 c =
    let v = c.args.block in
    let long = c.fits-block.0 in
    let q : ℕ → Bool = λ x. eqb x c.args.a || eqb x c.args.b || eqb x c.args.c in
    let e = marks_of q v _ 16 long (omega arith) (lanes_either _ _ v _ _ (lanes_either _ _ v _ _ (lanes_compared eqb 16 c.args.a v long) (lanes_compared eqb 16 c.args.b v long)) (lanes_compared eqb 16 c.args.c v long)) in
    when_some q v _ 16 e c.if-marks-eq0.false long (omega arith)
