-- A name that is too short is that of no reference.
use Rattle.std.proofs.Common.{◌<◌, ◌∙◌, ap, sym, arith, codes, length}
use Rattle.redl_reading.specs.Lists.{lacks}
use Rattle.redl_tree.specs.Model.View.{tag_of, kids_of}
use Rattle.redl_left.proofs.NamingLaws.{short_names_nothing}
use Rattle.redl_left.proofs.gather.names_nothing.Goals as goal

pub returns-then-local-lt-SHORTEST : goal.returns-then-local-lt-SHORTEST
returns-then-local-lt-SHORTEST c = λ lacking. λ part. λ parent.
    let tag = tag_of c.args.elem.now in
    let short : length tag.local < 7 = omega (arith, ap length c.local.ensures) in
    short_names_nothing part parent tag (kids_of c.args.elem.now) (sym c.space.ensures ∙ c.in-W.is) short
    (ap (lacks (codes "author")) (sym c.tail.ensures) ∙ c.lacks_author.ensures lacking)
