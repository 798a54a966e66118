-- The tokens of the members, one after another.
use Rattle.redl_listing.proofs.FullLaws.{front_more}
use Rattle.redl_listing.proofs.full_rows.put_front.Goals as goal

pub returns-clause-written : goal.returns-clause-written
returns-clause-written c =
    rw (
      c.in_ok-put_behind.ensures.written,
      c.in_ok-put_remarks.ensures.written,
      c.in_ok-put_clause.ensures.written,
      c.in_ok-put_changed.ensures.written,
      c.in_ok-put_text-3.ensures.written,
      c.in_ok-put_text-2.ensures.written,
      c.in_ok-put_text.ensures.written,
      c.list.ensures,
      c.as_bytes-3.ensures,
      c.as_bytes-2.ensures,
      c.as_bytes.ensures,
    ) (front_more c.args.object.now.tokens _ _ _ _ _ _ _ _ _ _)
