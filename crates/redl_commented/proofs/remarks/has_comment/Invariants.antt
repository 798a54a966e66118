use Rattle.std.proofs.Common.{◌≡◌, drop}
use Rattle.redl_commented.specs.On.{has_comment}
use Rattle.redl_commented.proofs.remarks.has_comment.Given as goal

-- the answer is that of the comments that are left
abbrev pub invariant-loop-other : goal.invariant-loop-other
invariant-loop-other l = has_comment (drop l.other-index l.kept) l.comment ≡ has_comment l.kept l.comment
