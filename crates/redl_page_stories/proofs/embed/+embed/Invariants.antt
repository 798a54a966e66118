use Rattle.std.proofs.Common.{◌≡◌, drop}
use Rattle.redl_tree.specs.Model.View.{nodes_of}
use Rattle.redl_page_stories.specs.Values.{embed_in}
use Rattle.redl_page_stories.proofs.embed.+embed.Given as goal

-- the answer is that of the nodes that are left
abbrev pub invariant-embed_in-loop-node : goal.invariant-embed_in-loop-node
invariant-embed_in-loop-node l = embed_in (nodes_of (drop l.node-index l.nodes)) ≡ embed_in (nodes_of l.nodes)
