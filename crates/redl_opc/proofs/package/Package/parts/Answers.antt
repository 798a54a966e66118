use Rattle.std.proofs.Common.{◌≡◌, arith, ap, length, map, ◌∙◌}
use Rattle.std.proofs.lemmas.List.{length-map}
use Rattle.redl_tree.specs.Model.View.{nodes_of}
use Rattle.redl_opc.specs.Parts.{places_of}
use Rattle.redl_opc.specs.Shape.{parts_of}
use Rattle.redl_opc.specs.Inside.PartView.{part_view}
use Rattle.redl_opc.proofs.PartLaws.{length-places_of, few-places_of}
use Rattle.redl_opc.proofs.package.Package.parts.Goals as goal

pub overflow_cast-result : goal.overflow_cast-result
overflow_cast-result c =
    let nodes = nodes_of c.self.inside.nodes.items in
    let listed : length (map part_view c.self.inside.parts.items) ≡ length (places_of nodes) = ap length c.self.invariant.parts in
    omega (arith, c.len.ensures, simp length-map at listed, few-places_of nodes, c.self.invariant.few)

pub returns-clause-value : goal.returns-clause-value
returns-clause-value c =
    let listed : length (map part_view c.self.inside.parts.items) ≡ length (parts_of c.args.self.now) =
    ap length c.self.invariant.parts ∙ length-places_of (nodes_of c.self.inside.nodes.items) ∙ ap (λ nodes. length (parts_of nodes)) c.self.view_is in
    c.len.ensures ∙ omega (arith, simp length-map at listed)
