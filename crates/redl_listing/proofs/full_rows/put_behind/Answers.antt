-- The tokens of the members, one after another.
use Rattle.redl_listing.proofs.FullLaws.{members_more}
use Rattle.redl_listing.proofs.full_rows.put_behind.Goals as goal

pub returns-clause-written : goal.returns-clause-written
returns-clause-written c =
    rw (
      c.in_ok-put_text-2.ensures.written,
      c.in_ok-put_number-2.ensures.written,
      c.in_ok-put_number.ensures.written,
      c.in_ok-put_text.ensures.written,
      c.in_ok-put_if_any.ensures.written,
      c.in_ok-put_facts.ensures.written,
      c.as_bytes-2.ensures,
      c.as_bytes.ensures.value,
      c.name.ensures,
    ) (members_more c.args.object.now.tokens _ _ _ _ _ _ _ _ _ _ _)
