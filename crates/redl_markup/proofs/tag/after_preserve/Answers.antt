use Rattle.std.proofs.Common.{◌∙◌, sym}
use Rattle.redl_markup.proofs.Preserving.{preserves}
use Rattle.redl_markup.proofs.tag.after_preserve.Goals as goal

pub returns-then-is_at_end : goal.returns-then-is_at_end
returns-then-is_at_end c = preserves c.args.bytes.now c.in_ok-end.end.now c.in_ok-end.ensures (sym c.is_at_end.ensures ∙ c.if-is_at_end.true)
