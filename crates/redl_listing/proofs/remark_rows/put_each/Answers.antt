-- What is known of each comment.
use Rattle.std.proofs.Common.{subst, sym, arith}
use Rattle.redl_excerpts.specs.Remarks.{IsRemark}
use Rattle.redl_listing.proofs.remark_rows.put_each.Goals as goal

pub put_remark-requires : goal.put_remark-requires
put_remark-requires c = subst IsRemark (sym c.remark-item.is) (c.requires c.loop-remark.remark-index c.remark-item.result (omega (arith, c.loop-remark-test.true)))
