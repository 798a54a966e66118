use Rattle.redl_tree.specs.Model.View.{tag_of, kids_of}
use Rattle.redl_views.proofs.WayLaws.{living-inside}
use Rattle.redl_views.proofs.known.Known.living_inside.Goals as goal

pub returns-in-Some : goal.returns-in-Some
returns-in-Some c = λ says rest f h.
    living-inside says c.args.self c.args.passed c.inside.result c.in-Some.way (tag_of c.args.elem.now) (kids_of c.args.elem.now) rest f c.inside.ensures
    c.in-Some.ensures.0 c.in-Some.ensures.1.0 c.in-Some.ensures.1.1 h

pub returns-in-None : goal.returns-in-None
returns-in-None c = λ says rest f h. c.nothing.ensures says (kids_of c.args.elem.now)
