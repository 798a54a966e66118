use Rattle.std.proofs.Common.{◌∙◌, rules, arith}
use Rattle.redl_grammar.specs.Characters.{is_plain_byte}
use Rattle.redl_markup.proofs.NearBlocks.{hit_in, miss_in}
use Rattle.redl_markup.proofs.character.after_plain.Goals as goal

pub returns-then-n-lt16 : goal.returns-then-n-lt16
returns-then-n-lt16 c =
    let found = c.in-Some.ensures.cases in
    c.split_at.ensures.back
    ∙ hit_in is_plain_byte c.loop-block.rest.now c.in-Some.block.now c.in-Some.next.now c.plain_front-n.result found.0 found.1 found.2 c.plain_front-n.ensures (omega (arith, c.if-n-lt16.true))
    ∙ c.loop-block.invariant

pub loop-block-preserved : goal.loop-block-preserved
loop-block-preserved c =
    let found = c.in-Some.ensures.cases in
    miss_in is_plain_byte c.loop-block.rest.now c.in-Some.block.now c.in-Some.next.now c.plain_front-n.result found.0 found.1 found.2 c.plain_front-n.ensures (omega (arith, c.if-n-lt16.false))
    ∙ c.loop-block.invariant

pub returns : goal.returns
returns c = c.run.ensures.rest is_plain_byte (λ b t low k. search rules) ∙ c.loop-block.invariant
