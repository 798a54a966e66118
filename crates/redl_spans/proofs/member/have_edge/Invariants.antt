use Rattle.std.proofs.Common.{◌≡◌, drop}
use Rattle.std.specs.List.{list_any}
use Rattle.redl_spans.specs.Members.{has_own_edge}
use Rattle.redl_spans.proofs.member.have_edge.Given as goal

-- the answer is that of the members that are left
abbrev pub invariant-loop-member : goal.invariant-loop-member
invariant-loop-member l = list_any has_own_edge (drop l.member-index l.members) ≡ list_any has_own_edge l.members
