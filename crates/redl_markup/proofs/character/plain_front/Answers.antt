use Rattle.std.proofs.Common.{not, ltb, eqb, Bool, ℕ, ◌∙◌, arith}
use Rattle.redl_grammar.specs.Characters.{is_plain_byte}
use Rattle.redl_markup.proofs.Blocks.{lanes_compared, lanes_both, lanes_either, is_rare, rare_is_not_plain}
use Rattle.redl_markup.proofs.NearBlocks.{marks_of, when_none, when_some, front_alike}
use Rattle.redl_markup.proofs.character.plain_front.Goals as goal

pub returns-then-marks-eq0 : goal.returns-then-marks-eq0
returns-then-marks-eq0 c =
    let v = c.args.block in
    let long = c.fits-block.0 in
    let differ : ℕ → ℕ → Bool = λ a b. not (eqb a b) in
    let low = lanes_both _ _ v _ _ (lanes_both _ _ v _ _ (lanes_both _ _ v _ _ (lanes_compared ltb 16 32 v long) (lanes_compared differ 16 9 v long)) (lanes_compared differ 16 10 v long)) (lanes_compared differ 16 13 v long) in
    let marks = marks_of is_rare v _ 16 long (omega arith) (lanes_either _ _ v _ _ low (lanes_compared eqb 16 239 v long)) in
    when_none is_rare v _ 16 marks c.if-marks-eq0.true long (omega arith) ∙ front_alike (λ b. not (is_rare b)) is_plain_byte v rare_is_not_plain

pub returns-else-marks-eq0 : goal.returns-else-marks-eq0
returns-else-marks-eq0 c =
    let v = c.args.block in
    let long = c.fits-block.0 in
    let differ : ℕ → ℕ → Bool = λ a b. not (eqb a b) in
    let low = lanes_both _ _ v _ _ (lanes_both _ _ v _ _ (lanes_both _ _ v _ _ (lanes_compared ltb 16 32 v long) (lanes_compared differ 16 9 v long)) (lanes_compared differ 16 10 v long)) (lanes_compared differ 16 13 v long) in
    let marks = marks_of is_rare v _ 16 long (omega arith) (lanes_either _ _ v _ _ low (lanes_compared eqb 16 239 v long)) in
    when_some is_rare v _ 16 marks c.if-marks-eq0.false long (omega arith) ∙ front_alike (λ b. not (is_rare b)) is_plain_byte v rare_is_not_plain
