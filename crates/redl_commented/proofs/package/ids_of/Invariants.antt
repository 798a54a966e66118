use Rattle.std.proofs.Common.{◌≡◌, take}
use Rattle.redl_commented.specs.Package.{ids_of}
use Rattle.redl_commented.proofs.package.ids_of.Given as goal

abbrev pub invariant-loop-comment : goal.invariant-loop-comment
invariant-loop-comment l = l.ids.items ≡ ids_of (take l.comment-index l.comments)
