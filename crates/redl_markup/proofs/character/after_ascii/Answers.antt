use Rattle.std.proofs.Common.{◌∙◌, sym}
use Rattle.redl_markup.proofs.LeadingAscii.{text_ahead, text_behind}
use Rattle.redl_markup.proofs.character.after_ascii.Goals as goal

pub loop-block-init : goal.loop-block-init
loop-block-init c = record { ahead = λ h. h; behind = λ h. h }

pub loop-block-preserved : goal.loop-block-preserved
loop-block-preserved c =
    let found = c.in-Some.ensures.cases in
    let ascii = c.is_ascii_block.ensures c.if-not-is_ascii_block.false in
    let l = c.loop-block in
    record {
      ahead = λ h. l.invariant.ahead (text_ahead l.rest.now c.in-Some.block.now c.in-Some.next.now found.0 found.1 ascii h);
      behind = λ h. text_behind l.rest.now c.in-Some.block.now c.in-Some.next.now found.0 found.1 ascii (l.invariant.behind h);
    }
