use Rattle.std.proofs.Common.{◌≡◌, take, All}
use Rattle.std.specs.List.{filter_map}
use Rattle.redl_excerpts.specs.Remarks.{IsRemark}
use Rattle.redl_remarks.specs.Remarked.{remark_at}
use Rattle.redl_remarks.proofs.remarks.remarks_among.Given as goal

-- the comments so far
abbrev pub invariant-loop-place : goal.invariant-loop-place
invariant-loop-place l = record {
  value : l.remarks.items ≡ filter_map (remark_at l.comments l.threads) (take l.place-index l.places);
  utf8 : All IsRemark l.remarks.items;
}
