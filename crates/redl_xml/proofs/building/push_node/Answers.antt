use Rattle.std.proofs.Common.{◌≡◌, ◌∙◌, ◌++◌, ◌∷◌, [], List, ap, refl}
use Rattle.std.specs.Global.{Vec}
use Rattle.redl_tree.specs.declared.node.Node.{Node}
use Rattle.redl_xml.proofs.Buildings.{pushed}
use Rattle.redl_xml.proofs.building.push_node.Goals.{then-len-lt3+in_ok-reserve_exact, else-len-lt3}
use Rattle.redl_xml.proofs.building.push_node.Goals as goal

pub returns : goal.returns
returns c =
    let same : c.if-len-lt3.nodes.items ≡ c.args.nodes.now.items = elim c.if-len-lt3.branch [
      | then-len-lt3+in_ok-reserve_exact w ↦ ap (λ (v : Vec Node). v.items) w.nodes-is ∙ w.reserve_exact.ensures.items
      | else-len-lt3 w ↦ ap (λ (v : Vec Node). v.items) w.nodes-is
    ] in
    pushed c.args.nodes.now.items c.push.new.self.items c.args.node _ (c.in_ok-push.ensures.items ∙ ap (λ (xs : List Node). xs ++ c.args.node ∷ []) same) refl
