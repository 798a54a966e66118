use Rattle.std.proofs.Common.{◌∙◌, sym, ap, subst, Option}
use Rattle.redl_reading.specs.Steps.{Gives, or_else}
use Rattle.redl_tree.specs.Model.View.{Element, close_of}
use Rattle.redl_lists.specs.Named.{first_within}
use Rattle.redl_lists.specs.Parts.{laid_element, part_element}
use Rattle.redl_lists.proofs.NamedLaws.{yes-named, not-named}
use Rattle.redl_lists.proofs.within.+within_laid.Goals as goal

pub within_laid_elem-returns-then-is_tag_named : goal.within_laid_elem-returns-then-is_tag_named
within_laid_elem-returns-then-is_tag_named t c =
    let e = laid_element c.args.elem in
    ap (λ o. or_else o (first_within c.args.name.now e.kids))
    (yes-named c.args.name.now e.tag e.kids (sym (c.is_tag_named.ensures (close_of c.args.elem.close)) ∙ c.if-is_tag_named.true))

pub within_laid_elem-returns : goal.within_laid_elem-returns
within_laid_elem-returns t c =
    let e = laid_element c.args.elem in
    let G : Option Element → Type 0 = λ o. Gives part_element c.within_laid.result o in
    subst G
    (sym (ap (λ o. or_else o (first_within c.args.name.now e.kids))
    (not-named c.args.name.now e.tag e.kids (sym (c.is_tag_named.ensures (close_of c.args.elem.close)) ∙ c.if-is_tag_named.false))))
    c.within_laid.ensures
