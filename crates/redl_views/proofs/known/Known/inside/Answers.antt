use Rattle.redl_tree.specs.Model.View.{kids_of}
use Rattle.redl_views.proofs.known.Known.inside.Goals as goal

pub returns-in-Some-Gone : goal.returns-in-Some-Gone
returns-in-Some-Gone c = λ says rest h. c.nothing.ensures says (kids_of c.args.elem.now)
