use Rattle.std.proofs.Common.{◌∙◌, sym}
use Rattle.redl_tree.specs.Model.View.{close_of}
use Rattle.redl_lists.specs.Parts.{laid_element}
use Rattle.redl_lists.proofs.NamedLaws.{yes-named, not-named}
use Rattle.redl_lists.proofs.part.elem_if_named.Goals as goal

pub returns-then-is_tag_named : goal.returns-then-is_tag_named
returns-then-is_tag_named c =
    let e = laid_element c.args.elem in
    yes-named c.args.name.now e.tag e.kids (sym (c.is_tag_named.ensures (close_of c.args.elem.close)) ∙ c.if-is_tag_named.true)

pub returns : goal.returns
returns c =
    let e = laid_element c.args.elem in
    not-named c.args.name.now e.tag e.kids (sym (c.is_tag_named.ensures (close_of c.args.elem.close)) ∙ c.if-is_tag_named.false)
