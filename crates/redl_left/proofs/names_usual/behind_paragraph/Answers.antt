use Rattle.std.proofs.Common.{◌∙◌, codes}
use Rattle.redl_left.specs.Usual.{named}
use Rattle.redl_left.proofs.UsualLaws.{default_front, para_front, rsid_front, text_front}
use Rattle.redl_left.proofs.names_usual.behind_paragraph.Goals as goal

pub returns : goal.returns
returns c = λ part.
    c.in_ok-rest.ensures (named (codes "w14") (codes "paraId")) para_front part
    ∙ c.in_ok-rest-2.ensures (named (codes "w14") (codes "textId")) text_front part
    ∙ c.in_ok-rest-3.ensures (named (codes "w") (codes "rsidR")) rsid_front part
    ∙ c.in_ok-rest-4.ensures (named (codes "w") (codes "rsidRDefault")) default_front part
