-- The tokens of a last word, one after another.
use Rattle.redl_listing.proofs.FullLaws.{said_more}
use Rattle.redl_listing.proofs.full_rows.put_said.Goals as goal

pub returns-clause-written : goal.returns-clause-written
returns-clause-written c =
    rw (
      c.in_ok-end_object.ensures.ok,
      c.in_ok-put_text-2.ensures.written,
      c.in_ok-put_text.ensures.written,
      c.in_ok-begin_object.ensures.ok,
      c.as_bytes.ensures,
      c.as_bytes-2.ensures.value,
      c.word_name.ensures,
    ) (said_more c.args.object.now.tokens _ _ _ _ _ _)
