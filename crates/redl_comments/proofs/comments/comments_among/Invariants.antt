use Rattle.std.proofs.Common.{◌≡◌, ◌++◌, drop}
use Rattle.redl_tree.specs.Model.View.{nodes_of}
use Rattle.redl_comments.specs.Comments.{comments_among}
use Rattle.redl_comments.proofs.comments.comments_among.Given as goal

-- the comments so far, and then those among the nodes that are left
abbrev pub invariant-loop-node : goal.invariant-loop-node
invariant-loop-node l = l.comments.items ++ comments_among (nodes_of (drop l.node-index l.kids)) ≡ comments_among (nodes_of l.kids)
