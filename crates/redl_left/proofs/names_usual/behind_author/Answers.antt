use Rattle.std.proofs.Common.{codes, inl, refl}
use Rattle.redl_left.specs.Usual.{named}
use Rattle.redl_left.proofs.UsualLaws.{author_front, names_behind}
use Rattle.redl_left.proofs.names_usual.behind_author.Goals as goal

pub returns : goal.returns
returns c = λ table. λ part.
    let author = named (codes "w") (codes "author") in
    names_behind table part _ _ _ author (c.in_ok-rest.ensures author author_front) (inl refl)
