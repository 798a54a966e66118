-- The tokens of a property, one after another.
use Rattle.redl_listing.proofs.ChangedLaws.{change_more}
use Rattle.redl_listing.proofs.changed_rows.put_change.Goals as goal

pub returns-clause-written : goal.returns-clause-written
returns-clause-written c =
    rw (
      c.in_ok-end_object.ensures.ok,
      c.in_ok-put_value-2.ensures.written,
      c.in_ok-put_text-2.ensures.written,
      c.in_ok-put_text.ensures.written,
      c.in_ok-put_value.ensures.written,
      c.in_ok-begin_object.ensures.ok,
      c.as_bytes.ensures.value,
      c.as_bytes-2.ensures.value,
    ) (change_more c.args.object.now.tokens _ _ _ _ _ _ _ _ _ _)
