use Rattle.std.proofs.Common.{◌∙◌, arith}
use Rattle.redl_reading.specs.Lists.{is_none_of}
use Rattle.redl_markup.proofs.NearBlocks.{hit_in, miss_in}
use Rattle.redl_left.proofs.quotes.from_end.Goals as goal

pub returns-then-n-lt16 : goal.returns-then-n-lt16
returns-then-n-lt16 c =
    let found = c.in-Some.ensures.cases in
    c.split_at.ensures.back
    ∙ hit_in (is_none_of 34 60 38) c.loop-block.rest.now c.in-Some.block.now c.in-Some.next.now c.plain_in-n.result found.0 found.1 found.2 c.plain_in-n.ensures (omega (arith, c.if-n-lt16.true))
    ∙ c.loop-block.invariant

pub loop-block-preserved : goal.loop-block-preserved
loop-block-preserved c =
    let found = c.in-Some.ensures.cases in
    miss_in (is_none_of 34 60 38) c.loop-block.rest.now c.in-Some.block.now c.in-Some.next.now c.plain_in-n.result found.0 found.1 found.2 c.plain_in-n.ensures (omega (arith, c.if-n-lt16.false))
    ∙ c.loop-block.invariant
