use Rattle.std.proofs.Common.{◌≡◌, take}
use Rattle.redl_excerpts.proofs.remark.copies.Given as goal

abbrev pub invariant-loop-remark : goal.invariant-loop-remark
invariant-loop-remark l = l.copies.items ≡ take l.remark-index l.remarks
