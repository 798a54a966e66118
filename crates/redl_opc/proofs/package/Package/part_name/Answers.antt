use Rattle.std.proofs.Common.{sym, ap, map, Some, ◌∙◌}
use Rattle.redl_tree.specs.Model.View.{nodes_of}
use Rattle.redl_opc.specs.Inside.PartView.{part_view}
use Rattle.redl_opc.proofs.PartLaws.{gives_none, name-listed}
use Rattle.redl_opc.proofs.package.Package.part_name.Goals as goal

pub returns-in_err-part-clause-value : goal.returns-in_err-part-clause-value
returns-in_err-part-clause-value c =
    gives_none _ _ _ c.from_residual.ensures
    (name-listed (nodes_of c.self.inside.nodes.items) c.args.self.now (map part_view c.self.inside.parts.items) c.args.part _ c.self.view_is c.self.invariant.parts (rw c.deref.ensures.value at c.in_err-part.ensures))

pub returns-clause-value : goal.returns-clause-value
returns-clause-value c =
    name-listed (nodes_of c.self.inside.nodes.items) c.args.self.now (map part_view c.self.inside.parts.items) c.args.part _ c.self.view_is c.self.invariant.parts (rw c.deref.ensures.value at c.in_ok-part.ensures)
    ∙ ap Some (sym c.name.ensures.value)
