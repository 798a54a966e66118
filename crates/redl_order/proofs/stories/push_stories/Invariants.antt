use Rattle.std.proofs.Common.{◌≡◌, ◌++◌, filter}
use Rattle.redl_tree.specs.Roles.Words.{name_of}
use Rattle.redl_opc.specs.Stories.{stories_from}
use Rattle.redl_order.specs.Order.{has_name, stories_named}
use Rattle.redl_order.specs.Borrowed.{all_borrowed}
use Rattle.redl_order.proofs.stories.push_stories.Given as goal

-- the roots so far, and then those of the parts that are left
abbrev pub invariant-loop-part : goal.invariant-loop-part
invariant-loop-part l =
    all_borrowed l.roots.items ++ filter (has_name (name_of l.word)) (stories_from l.part l.pkg)
    ≡ all_borrowed l.initial.roots.items ++ stories_named (name_of l.word) l.pkg
