use Rattle.std.proofs.Common.{◌≡◌, map, take}
use Rattle.redl_commands_shown.specs.Page.{is_locked}
use Rattle.redl_commands_show.proofs.page.locked_revisions.Given as goal

-- those of the first revisions
abbrev pub invariant-loop-revision : goal.invariant-loop-revision
invariant-loop-revision l = l.locked.items ≡ map (is_locked l.locks) (take l.revision-index l.revisions)
