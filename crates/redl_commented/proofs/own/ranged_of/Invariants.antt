use Rattle.std.proofs.Common.{◌≡◌, ◌++◌, drop}
use Rattle.redl_commented.specs.Ranges.{ranged_from, ranged_of}
use Rattle.redl_commented.proofs.own.ranged_of.Given as goal

-- those so far, and then those of the comments that are left
abbrev pub invariant-loop-comment : goal.invariant-loop-comment
invariant-loop-comment l = l.ranged.items ++ ranged_from l.own l.threads l.comment (drop l.comment l.own) ≡ ranged_of l.own l.threads
