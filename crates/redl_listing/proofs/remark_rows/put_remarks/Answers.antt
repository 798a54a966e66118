-- The tokens of both members, one after another.
use Rattle.redl_listing.proofs.RemarkLaws.{remarks_more}
use Rattle.redl_listing.proofs.remark_rows.put_remarks.Goals as goal

pub returns-clause-written : goal.returns-clause-written
returns-clause-written c =
    rw (
      c.in_ok-put_count.ensures.written,
      c.in_ok-end_array.ensures.ok,
      c.in_ok-put_each.ensures.written,
      c.in_ok-begin_array.ensures.ok,
      c.in_ok-key.ensures.ok,
      c.more_remarks.ensures,
      c.first.ensures,
    ) (remarks_more c.args.object.now.tokens _ _ _ _ _ _)
