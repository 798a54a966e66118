use Rattle.std.proofs.Common.{◌++◌, sym, ap, ◌∙◌, refl, append-nil}
use Rattle.redl_tree.specs.Model.Nodes.{no_nodes, element}
use Rattle.redl_tree.specs.Model.View.{tag_of, kids_of}
use Rattle.redl_bare.specs.Units.{root_units, units_in}
use Rattle.redl_bare.specs.Inside.Items.{element_units}
use Rattle.redl_bare.specs.Inside.UnitLaws.{units_then, units_fail}
use Rattle.redl_bare.specs.Inside.Views.{marks_view}
use Rattle.redl_bare.specs.declared.place.BarePlace.TheVariants.{Open}
use Rattle.redl_bare.proofs.package.put_root.Goals as goal

pub returns-in_err-put_begin : goal.returns-in_err-put_begin
returns-in_err-put_begin g c = units_fail _ refl refl c.from_residual.ensures.1 c.in_err-put_begin.ensures

pub returns : goal.returns
returns g c =
    let tag = tag_of c.args.root.now in
    let kids = kids_of c.args.root.now in
    units_then
    (ap (λ m. root_units tag ++ units_in Open m (element tag kids no_nodes)) (sym (ap marks_view c.in_ok-put_begin.ensures.after.marks ∙ c.requires))
    ∙ ap (λ units. root_units tag ++ units) (append-nil (element_units Open (marks_view c.put_begin.new.writer.marks) tag kids)))
    c.in_ok-put_begin.ensures c.put_elem.ensures
