use Rattle.std.proofs.Common.{◌≡◌, ◌++◌, map, drop}
use Rattle.std.specs.List.{range_with_len}
use Rattle.redl_editor.specs.Changes.{setting_of}
use Rattle.redl_join.specs.Verdicts.{verdict_at}
use Rattle.redl_session.specs.Says.{say_of_verdict}
use Rattle.redl_tree.specs.Leaves.Settings.{set_each}
use Rattle.redl_live_session.proofs.turning.changes_to.Given as goal

-- the changes so far make the says up to here those of the book
abbrev pub invariant-loop-before : goal.invariant-loop-before
invariant-loop-before l =
    set_each l.says (map setting_of l.changes.items)
    ≡ map (λ rev. say_of_verdict (verdict_at l.book rev)) (range_with_len 1 l.before) ++ drop l.before l.says
