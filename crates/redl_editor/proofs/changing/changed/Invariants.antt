use Rattle.std.proofs.Common.{◌≡◌, ◌||◌, ℕ, map, drop}
use Rattle.redl_editor.specs.Changes.{setting_of, differ}
use Rattle.redl_editor.specs.Holdings.{is_touched}
use Rattle.redl_editor.proofs.changing.changed.Given as goal

abbrev pub invariant-loop-one : goal.invariant-loop-one
invariant-loop-one l = (rev : ℕ)
    → (is_touched l.revs.items rev || differ l.says (map setting_of (drop l.one-index l.former)) rev) ≡ differ l.says (map setting_of l.former) rev
