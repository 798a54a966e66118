use Rattle.std.proofs.Common.{◌≡◌, ◌++◌, drop}
use Rattle.redl_commands_shown.specs.Shown.{shown_revisions}
use Rattle.redl_words.specs.Views.{onlys_view}
use Rattle.redl_commands_list.proofs.shown.shown_revisions.Given as goal

-- the answers so far and those of the rest are all of them
abbrev pub invariant-loop-place : goal.invariant-loop-place
invariant-loop-place l =
    l.shown.items ++ shown_revisions l.edits (onlys_view l.wanted) (drop l.place l.revisions) (drop l.place l.verdicts) ≡ shown_revisions l.edits (onlys_view l.wanted) l.revisions l.verdicts
