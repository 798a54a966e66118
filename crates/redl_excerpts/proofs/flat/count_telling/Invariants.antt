use Rattle.std.proofs.Common.{◌≡◌, ◌≤◌, ℕ, Bool, length, take, true}
use Rattle.redl_tree.specs.Model.View.{nodes_of}
use Rattle.redl_excerpts.specs.Excerpts.{is_made}
use Rattle.redl_excerpts.specs.Mentions.{Where, mentions}
use Rattle.redl_excerpts.proofs.flat.count_telling.Given as goal

-- the nodes up to this one tell what all tell
abbrev pub invariant-loop-end : goal.invariant-loop-end
invariant-loop-end l = record {
  within : l.end ≤ length l.nodes;
  same : (moved : Bool) (v : ℕ) (here : Where) → is_made l.excerpts v ≡ true → mentions moved v here (nodes_of (take l.end l.nodes)) ≡ mentions moved v here (nodes_of l.nodes);
}

abbrev pub decreases-loop-end : goal.decreases-loop-end
decreases-loop-end l = l.end
