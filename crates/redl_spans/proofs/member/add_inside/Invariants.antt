use Rattle.std.proofs.Common.{◌≡◌, ◌++◌, drop}
use Rattle.std.specs.List.{flat_map}
use Rattle.redl_tree.specs.Model.View.{tag_of}
use Rattle.redl_spans.specs.Members.{member_span}
use Rattle.redl_spans.proofs.member.add_inside.Given as goal

-- what was added so far, and then what the members that are left hold
abbrev pub invariant-loop-member : goal.invariant-loop-member
invariant-loop-member l =
    l.spans.items ++ flat_map (member_span (tag_of l.owner) l.from l.to) (drop l.member-index l.members)
    ≡ l.initial.spans.items ++ flat_map (member_span (tag_of l.owner) l.from l.to) l.members
