use Rattle.std.proofs.Common.{◌≡◌, drop}
use Rattle.redl_tree.specs.Model.Kids.{without}
use Rattle.redl_tree.specs.Model.Nodes.{◌⊕◌}
use Rattle.redl_tree.specs.Decisions.Restored.{is_uncovered as is_uncovered_tag}
use Rattle.redl_tree.specs.Model.View.{nodes_of}
use Rattle.redl_props.proofs.uncovered.copied.Given as goal

abbrev pub invariant-loop-node : goal.invariant-loop-node
invariant-loop-node l =
    nodes_of l.copied.items ⊕ without (is_uncovered_tag l.what) (nodes_of (drop l.node-index l.former))
    ≡ without (is_uncovered_tag l.what) (nodes_of l.former)
