use Rattle.std.proofs.Common.{◌∙◌, sym}
use Rattle.redl_markup.proofs.LeadingAscii.{printed_ascii, low_ascii}
use Rattle.redl_markup.proofs.character.is_ascii_block.Goals as goal

pub returns-then-is_printed_block : goal.returns-then-is_printed_block
returns-then-is_printed_block c = λ t. printed_ascii c.args.block (sym c.is_printed_block.ensures ∙ c.if-is_printed_block.true)

pub returns : goal.returns
returns c = λ t. low_ascii c.args.block (sym c.is_plain_block.ensures ∙ c.if-not-is_plain_block.false) (sym c.is_low_block.ensures ∙ t)
