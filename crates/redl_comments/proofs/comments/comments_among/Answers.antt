-- Node by node.
use Rattle.std.proofs.Common.{◌+◌, ◌++◌, ap, sym, ◌∙◌, arith, drop, List, append_assoc, append-nil}
use Rattle.redl_tree.specs.Model.Nodes.{Nodes}
use Rattle.redl_tree.specs.Model.View.{nodes_of, item_of}
use Rattle.redl_tree.proofs.Model.Laws.{nodes_here, nodes_end}
use Rattle.redl_comments.specs.Comments.{comments_among}
use Rattle.redl_comments.specs.Inside.Items.{item_comments}
use Rattle.redl_comments.specs.declared.comment.Comment.{Comment}
use Rattle.redl_comments.proofs.ItemLaws.{comments-in_front}
use Rattle.redl_comments.proofs.comments.comments_among.Goals as goal

pub loop-node-preserved : goal.loop-node-preserved
loop-node-preserved c =
    let items = c.args.kids.now in
    let i = c.loop-node.node-index in
    let x = c.node-item.result in
    let more = nodes_of (drop (i + 1) items) in
    let old = c.loop-node.comments.items in
    let here = nodes_here items i x (omega arith) c.node-item.is in
    ap (λ (cs : List Comment). cs ++ comments_among more) c.in_ok-add_node.ensures
    ∙ append_assoc old (item_comments (item_of x)) (comments_among more)
    ∙ ap (λ (cs : List Comment). old ++ cs) (sym (ap comments_among here ∙ comments-in_front (item_of x) more))
    ∙ c.loop-node.invariant

pub returns : goal.returns
returns c =
    let end = nodes_end c.args.kids.now c.loop-node.node-index (omega arith) in
    let now = c.loop-node.comments.items in
    sym (ap (λ (ns : Nodes). now ++ comments_among ns) end ∙ append-nil now)
    ∙ c.loop-node.invariant
