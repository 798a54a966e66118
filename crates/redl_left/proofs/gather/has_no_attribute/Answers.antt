use Rattle.std.proofs.Common.{◌∙◌, sym}
use Rattle.redl_tree.specs.Model.View.{tag_of, kids_of}
use Rattle.redl_left.proofs.FrontLaws.{nil_by_length}
use Rattle.redl_left.proofs.NamingLaws.{empty_names_nothing}
use Rattle.redl_left.proofs.gather.has_no_attribute.Goals as goal

pub returns-in-W : goal.returns-in-W
returns-in-W c = λ empty. λ part. λ parent.
    empty_names_nothing part parent (tag_of c.args.elem.now) (kids_of c.args.elem.now) (sym c.space.ensures ∙ c.in-W.is)
    (sym c.tail.ensures ∙ nil_by_length c.tail.result.now (sym c.is_empty.ensures ∙ empty))
