use Rattle.std.proofs.Common.{codes}
use Rattle.redl_left.specs.Usual.{named}
use Rattle.redl_left.proofs.UsualLaws.{behind_both, para_front, text_front}
use Rattle.redl_left.proofs.usual.behind_ids.Goals as goal

pub returns : goal.returns
returns c = behind_both _ _ _ _ _ (c.in_ok-rest.ensures (named (codes "w14") (codes "paraId")) para_front) (c.in_ok-rest-2.ensures (named (codes "w14") (codes "textId")) text_front)
