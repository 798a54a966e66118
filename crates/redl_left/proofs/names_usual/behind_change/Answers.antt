use Rattle.std.proofs.Common.{◌∙◌, codes}
use Rattle.redl_left.specs.Search.{table_of}
use Rattle.redl_left.specs.Usual.{named}
use Rattle.redl_left.proofs.UsualLaws.{date_front, id_front}
use Rattle.redl_left.proofs.names_usual.behind_change.Goals as goal

pub returns : goal.returns
returns c = λ part.
    c.in_ok-rest.ensures (named (codes "w") (codes "id")) id_front part
    ∙ c.in_ok-rest-2.ensures (table_of c.args.search.now) part
    ∙ c.in_ok-rest-3.ensures (named (codes "w") (codes "date")) date_front part
