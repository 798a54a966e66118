use Rattle.std.proofs.Common.{codes, sym, ap, ◌∙◌}
use Rattle.redl_tree.specs.Model.View.{tag_of}
use Rattle.redl_bare.specs.Marks.{value_in}
use Rattle.redl_bare.specs.Units.{in_marks}
use Rattle.redl_bare.specs.Inside.Views.{marks_view}
use Rattle.redl_bare.proofs.LineLaws.{units_by}
use Rattle.redl_bare.proofs.WalkLaws.{start_field, start_short}
use Rattle.redl_bare.proofs.walk.put_start_texts.Goals as goal

pub returns-then-is_named : goal.returns-then-is_named
returns-then-is_named g c =
    let tag = tag_of c.args.elem.now in
    let code = c.value_in.ensures ∙ ap (λ tail. value_in tail (codes "instr")) c.tail.ensures in
    units_by (ap (in_marks (marks_view c.args.writer.now.marks)) (start_field tag c.is_named.result c.value_in.result.now c.is_named.ensures c.if-is_named.true code))
    c.put_field.ensures

pub returns : goal.returns
returns g c =
    let tag = tag_of c.args.elem.now in
    units_by (ap (in_marks (marks_view c.args.writer.now.marks)) (start_short tag c.is_named.result c.is_named.ensures c.if-is_named.false ∙ sym c.start_of_elem.ensures))
    c.put_short.ensures
