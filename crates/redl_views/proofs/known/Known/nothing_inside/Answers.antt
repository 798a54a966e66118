use Rattle.std.proofs.Common.{◌∙◌, sym}
use Rattle.redl_tree.specs.Model.View.{tag_of, kids_of}
use Rattle.redl_views.proofs.WayLaws.{none-inside}
use Rattle.redl_views.proofs.known.Known.nothing_inside.Goals as goal

pub returns : goal.returns
returns c = λ says passed rest f h.
    none-inside says c.args.self passed c.inside.result _ (tag_of c.args.elem.now) (kids_of c.args.elem.now) rest f c.inside.ensures (sym c.is_answered_by.ensures ∙ c.if-is_answered_by.false) h
