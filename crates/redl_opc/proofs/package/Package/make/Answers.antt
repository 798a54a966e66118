use Rattle.std.proofs.Common.{◌≡◌, ap, map, ◌∙◌}
use Rattle.redl_tree.specs.Model.View.{nodes_of}
use Rattle.redl_opc.specs.Inside.PartView.{part_view}
use Rattle.redl_opc.specs.Parts.{places_of}
use Rattle.redl_opc.proofs.package.Package.make.Goals as goal

pub invariant_of-result : goal.invariant_of-result
invariant_of-result c =
    let listed : map part_view c.in_ok-parts.parts.items ≡ places_of (nodes_of c.args.nodes.items) =
    c.in_ok-parts.ensures.parts ∙ ap (λ nodes. places_of (nodes_of nodes)) c.deref.ensures.value in
    record {
      shape = rw c.deref.ensures.value at c.in_ok-parts.ensures.shape;
      parts = listed;
      tails = c.requires.tails;
      few = c.requires.few;
    }
