use Rattle.std.proofs.Common.{◌≡◌, [], drop}
use Rattle.redl_tree.specs.Model.View.{nodes_of}
use Rattle.redl_comments.specs.Comments.{last_paragraph_or}
use Rattle.redl_comments.proofs.comment.last_paragraph.Given as goal

-- the answer is that of the nodes that are left, after what was found
abbrev pub invariant-loop-node : goal.invariant-loop-node
invariant-loop-node l = last_paragraph_or l.id (nodes_of (drop l.node-index l.kids)) ≡ last_paragraph_or [] (nodes_of l.kids)
