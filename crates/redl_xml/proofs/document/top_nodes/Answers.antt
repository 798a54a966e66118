use Rattle.std.proofs.Common.{◌≡◌, ◌∙◌, ◌++◌, ap, List}
use Rattle.redl_tree.specs.Model.Nodes.{Nodes, ◌⊕◌}
use Rattle.redl_tree.specs.Model.View.{nodes_of}
use Rattle.redl_tree.specs.declared.node.Node.{Node}
use Rattle.redl_tree.proofs.Model.Laws.{nodes_of-append, ⊕_assoc}
use Rattle.redl_xml.specs.Inside.Documents.{bytes_or_none}
use Rattle.redl_xml.proofs.document.top_nodes.Goals as goal

pub returns : goal.returns
returns c =
    let old = c.push_bytes.new.nodes.items in
    let root = c.args.root.items in
    let before = bytes_or_none c.args.before.now in
    let after = bytes_or_none c.args.after.now in
    let made = c.in_ok-push_bytes.ensures ∙ ap (λ (items : List Node). nodes_of items ⊕ before) c.new-nodes.ensures.items in
    let joined : c.append.new.self.items ≡ old ++ root = rw c.in_ok-append.was at c.append.ensures.items in
    let front = ap nodes_of joined ∙ nodes_of-append old root ∙ ap (λ (x : Nodes). x ⊕ nodes_of root) made in
    c.in_ok-push_bytes-2.ensures ∙ ap (λ (x : Nodes). x ⊕ after) front ∙ ⊕_assoc before (nodes_of root) after
