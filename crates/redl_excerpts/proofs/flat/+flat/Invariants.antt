use Rattle.std.proofs.Common.{◌≡◌, drop}
use Rattle.redl_tree.specs.Model.View.{nodes_of}
use Rattle.redl_excerpts.specs.Inside.Flat.{are_flat}
use Rattle.redl_excerpts.proofs.flat.+flat.Given as goal

-- all are flat where those that are left are
abbrev pub invariant-are_flat-loop-node : goal.invariant-are_flat-loop-node
invariant-are_flat-loop-node l = are_flat l.excerpts (nodes_of (drop l.node-index l.nodes)) ≡ are_flat l.excerpts (nodes_of l.nodes)
