use Rattle.std.proofs.Common.{◌≡◌, drop}
use Rattle.redl_clauses.specs.Walks.{tell_all}
use Rattle.redl_clauses.proofs.told.tell_all.Given as goal

-- those that are left are told
abbrev pub invariant-loop-revision : goal.invariant-loop-revision
invariant-loop-revision l = tell_all l.clause (drop l.revision-index l.revisions) l.told.items ≡ tell_all l.clause l.revisions l.initial.told.items
