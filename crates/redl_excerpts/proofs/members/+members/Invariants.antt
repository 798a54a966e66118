use Rattle.std.proofs.Common.{◌≡◌, drop, true}
use Rattle.redl_tree.specs.Model.View.{nodes_of}
use Rattle.redl_excerpts.specs.Excerpts.{is_moved}
use Rattle.redl_said.specs.Lines.{along}
use Rattle.redl_excerpts.specs.Mentions.{mentions}
use Rattle.redl_said.specs.Said.{said}
use Rattle.redl_excerpts.specs.Inside.Views.{where_of}
use Rattle.redl_excerpts.proofs.MemberLaws.{TellsSoFar}
use Rattle.redl_excerpts.proofs.members.+members.Given as goal

-- the excerpts are told of the nodes so far, and what the nodes that are left tell comes after that
abbrev pub invariant-tell_members-loop-node : goal.invariant-tell_members-loop-node
invariant-tell_members-loop-node l = record {
  told : TellsSoFar l.initial.excerpts.items l.excerpts.items
      (λ v. mentions (is_moved l.revisions v) v (where_of l.here l.initial.place) (nodes_of l.nodes))
      (λ v. mentions (is_moved l.revisions v) v (where_of l.here l.place) (nodes_of (drop l.node-index l.nodes)));
  place : along l.place (said true l.here.in_text (nodes_of (drop l.node-index l.nodes))) ≡ along l.initial.place (said true l.here.in_text (nodes_of l.nodes));
}
