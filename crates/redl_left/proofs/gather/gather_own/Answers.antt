-- What names an element is told by its row alone, since no name is known yet.
use Rattle.std.proofs.Common.{◌≡◌, ◌∙◌, ◌++◌, ap, refl, sym, subst, append-nil, [], ℕ, List, OnOk}
use Rattle.redl_markup.specs.Attributes.{attributes_of}
use Rattle.redl_tree.specs.Model.Nodes.{Nodes}
use Rattle.redl_tree.specs.Model.View.{nodes_of, tag_of, kids_of}
use Rattle.redl_tree.specs.declared.kinds.Space.{Space}
use Rattle.redl_left.specs.Alike.{NameAlike}
use Rattle.redl_left.specs.Finds.{Find, found, found_names, found_plain}
use Rattle.redl_left.specs.Lines.{naming, noted_all}
use Rattle.redl_left.specs.Seen.{tables_of}
use Rattle.redl_left.proofs.AlikeLaws.{alike}
use Rattle.redl_left.proofs.NameLaws.{none_among}
use Rattle.redl_left.proofs.gather.gather_own.Goals as goal

pub returns : goal.returns
returns c =
    let part = c.args.part.now in
    let parent = c.args.parent.now in
    let tag = tag_of c.args.elem.now in
    let kids = kids_of c.args.elem.now in
    let Noted : List Find → Type 0 = λ f. OnOk c.gather_plain.result (NameAlike (tables_of c.gather_plain.new.seen) (noted_all (tables_of c.args.seen.now) f)) in
    let own = found_plain naming part parent tag.space tag.local tag.tail kids in
    let none : found_names naming part tag.tail ≡ [] = none_among naming (λ value. refl) part (attributes_of tag.tail) in
    let as_tag : found_plain naming part parent c.space.result c.local.result.now c.tail.result.now (nodes_of c.kids.result.now) ≡ own =
    ap (λ (s : Space). found_plain naming part parent s c.local.result.now c.tail.result.now (nodes_of c.kids.result.now)) c.space.ensures
    ∙ ap (λ (l : List ℕ). found_plain naming part parent tag.space l c.tail.result.now (nodes_of c.kids.result.now)) c.local.ensures
    ∙ ap (λ (tail : List ℕ). found_plain naming part parent tag.space tag.local tail (nodes_of c.kids.result.now)) c.tail.ensures
    ∙ ap (λ (nodes : Nodes). found_plain naming part parent tag.space tag.local tag.tail nodes) c.kids.ensures.kids in
    subst Noted (as_tag ∙ sym (append-nil own) ∙ ap (λ (f : List Find). own ++ f) (sym none)) c.gather_plain.ensures

pub returns-then-names_nothing : goal.returns-then-names_nothing
returns-then-names_nothing c =
    let old = tables_of c.args.seen.now in
    let found_here = found naming c.args.part.now c.args.parent.now (tag_of c.args.elem.now) (kids_of c.args.elem.now) in
    alike old (noted_all old found_here) (ap (noted_all old) (sym (c.names_nothing.ensures c.if-names_nothing.true c.args.part.now c.args.parent.now)))

pub returns-then-names_known : goal.returns-then-names_known
returns-then-names_known c = c.names_known.ensures c.if-names_known.true c.args.part.now c.args.parent.now

pub returns-then-has_no_attribute : goal.returns-then-has_no_attribute
returns-then-has_no_attribute c =
    let old = tables_of c.args.seen.now in
    let found_here = found naming c.args.part.now c.args.parent.now (tag_of c.args.elem.now) (kids_of c.args.elem.now) in
    alike old (noted_all old found_here) (ap (noted_all old) (sym (c.has_no_attribute.ensures c.if-has_no_attribute.true c.args.part.now c.args.parent.now)))
