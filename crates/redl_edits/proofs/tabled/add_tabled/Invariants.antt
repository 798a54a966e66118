use Rattle.std.proofs.Common.{◌≡◌, ◌++◌}
use Rattle.redl_opc.specs.Stories.{stories_from}
use Rattle.redl_tree.specs.Decisions.Packages.{stories}
use Rattle.redl_edits.specs.Tabled.{tabled_pairs}
use Rattle.redl_edits.proofs.tabled.add_tabled.Given as goal

-- what was found so far, and then what is in the stories that are left
abbrev pub invariant-loop-part : goal.invariant-loop-part
invariant-loop-part l = l.pairs.items ++ tabled_pairs l.index (stories_from l.part l.pkg) ≡ l.initial.pairs.items ++ tabled_pairs l.index (stories l.pkg)
