use Rattle.std.proofs.Common.{refl}
use Rattle.redl_page_stories.proofs.sign.mark_after_author.Goals as goal

pub returns-in-Ins : goal.returns-in-Ins
returns-in-Ins c = rw c.in-Ins.is refl

pub returns-in-Del : goal.returns-in-Del
returns-in-Del c = rw c.in-Del.is refl

pub returns-in-To : goal.returns-in-To
returns-in-To c = rw c.in-To.is refl

pub returns-in-From : goal.returns-in-From
returns-in-From c = rw c.in-From.is refl
