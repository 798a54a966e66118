-- Node by node.
use Rattle.std.proofs.Common.{◌+◌, ap, sym, ◌∙◌, arith, drop, List, ℕ}
use Rattle.redl_tree.specs.Model.View.{nodes_of, item_of}
use Rattle.redl_tree.proofs.Model.Laws.{nodes_here}
use Rattle.redl_comments.specs.Comments.{last_paragraph_or}
use Rattle.redl_comments.proofs.ItemLaws.{last-in_front}
use Rattle.redl_comments.proofs.comment.last_paragraph.Goals as goal

pub loop-node-preserved : goal.loop-node-preserved
loop-node-preserved c =
    let items = c.args.kids.now in
    let i = c.loop-node.node-index in
    let x = c.node-item.result in
    let more = nodes_of (drop (i + 1) items) in
    let id = c.loop-node.id.now in
    ap (λ (found : List ℕ). last_paragraph_or found more) c.last_paragraph_in-id.ensures
    ∙ sym (ap (last_paragraph_or id) (nodes_here items i x (omega arith) c.node-item.is) ∙ last-in_front id (item_of x) more)
    ∙ c.loop-node.invariant
