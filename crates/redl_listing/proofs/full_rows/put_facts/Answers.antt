-- The tokens of the members, one after another.
use Rattle.redl_listing.proofs.FullLaws.{facts_more}
use Rattle.redl_listing.proofs.full_rows.put_facts.Goals as goal

pub returns-clause-written : goal.returns-clause-written
returns-clause-written c =
    rw (
      c.in_ok-boolean.ensures.ok,
      c.in_ok-key.ensures.ok,
      c.in_ok-put_number.ensures.written,
      c.in_ok-put_date.ensures.written,
    ) (facts_more c.args.object.now.tokens _ _ _ _ _ _)
