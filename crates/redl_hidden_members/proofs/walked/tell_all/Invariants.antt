use Rattle.std.proofs.Common.{◌≡◌, drop}
use Rattle.redl_hidden_members.specs.Walks.{tell_all}
use Rattle.redl_hidden_members.proofs.walked.tell_all.Given as goal

-- those that are left come to the same as all of them
abbrev pub invariant-loop-revision : goal.invariant-loop-revision
invariant-loop-revision l = tell_all (drop l.revision-index l.revisions) l.hidden.items ≡ tell_all l.revisions l.initial.hidden.items
