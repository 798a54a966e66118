use Rattle.std.proofs.Common.{◌≡◌, map, take}
use Rattle.redl_commands_shown.specs.Page.{item_words}
use Rattle.redl_commands_show.specs.Known.{known_view}
use Rattle.redl_commands_show.proofs.items.items_with.Given as goal

-- those of the first revisions
abbrev pub invariant-loop-revision : goal.invariant-loop-revision
invariant-loop-revision l = l.items.items ≡ map (item_words (known_view l.known)) (take l.revision-index l.revisions)
