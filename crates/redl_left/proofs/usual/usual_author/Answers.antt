use Rattle.std.proofs.Common.{codes}
use Rattle.redl_left.specs.Usual.{named}
use Rattle.redl_left.proofs.UsualLaws.{author_front, behind_id, id_front}
use Rattle.redl_left.proofs.usual.usual_author.Goals as goal

pub returns : goal.returns
returns c = behind_id _ _ _ _ _ (c.in_ok-rest.ensures (named (codes "w") (codes "id")) id_front) (c.in_ok-author.ensures (named (codes "w") (codes "author")) author_front)
