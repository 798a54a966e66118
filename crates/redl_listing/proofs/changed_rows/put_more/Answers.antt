-- A number, or null.
use Rattle.redl_listing.proofs.changed_rows.put_more.Goals as goal

pub returns-in-Some-clause-written : goal.returns-in-Some-clause-written
returns-in-Some-clause-written c = rw c.in-Some.is c.put_count.ensures.written

pub returns-in-None-clause-written : goal.returns-in-None-clause-written
returns-in-None-clause-written c = rw c.in-None.is c.put_null.ensures.written
