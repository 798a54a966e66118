use Rattle.std.proofs.Common.{◌≡◌, ◌++◌, take}
use Rattle.std.specs.List.{flat_map}
use Rattle.redl_listing.specs.Remarks.{remark_tokens}
use Rattle.redl_listing.proofs.remark_rows.put_each.Given as goal

-- the comments so far
abbrev pub invariant-loop-remark : goal.invariant-loop-remark
invariant-loop-remark l = (l.object.tokens ≡ l.fn.object.tokens ++ flat_map remark_tokens (take l.remark-index l.remarks)) × (l.object.before ≡ l.fn.object.before)
