use Rattle.std.proofs.Common.{◌≡◌, ◌++◌, map, drop}
use Rattle.redl_editor.specs.Changes.{setting_of, former_of}
use Rattle.redl_editor.proofs.changing.former_says.Given as goal

abbrev pub invariant-loop-change : goal.invariant-loop-change
invariant-loop-change l =
    map setting_of l.former.items ++ former_of l.says (map setting_of (drop l.change-index l.changes)) ≡ former_of l.says (map setting_of l.changes)
