-- The tokens of a comment, one after another.
use Rattle.redl_listing.proofs.RemarkLaws.{remark_more}
use Rattle.redl_listing.proofs.remark_rows.put_remark.Goals as goal

pub returns-clause-written : goal.returns-clause-written
returns-clause-written c =
    rw (
      c.in_ok-end_object.ensures.ok,
      c.in_ok-put_text-3.ensures.written,
      c.in_ok-put_parent.ensures.written,
      c.in_ok-put_text-2.ensures.written,
      c.in_ok-boolean.ensures.ok,
      c.in_ok-key.ensures.ok,
      c.in_ok-put_date.ensures.written,
      c.in_ok-put_text.ensures.written,
      c.in_ok-begin_object.ensures.ok,
      c.as_bytes.ensures,
      c.as_bytes-2.ensures,
      c.as_bytes-3.ensures,
    ) (remark_more c.args.object.now.tokens _ _ _ _ _ _ _ _ _ _ _ _ _ _)
