-- The tokens of the elements, one after another.
use Rattle.redl_listing.proofs.FullLaws.{says_more}
use Rattle.redl_listing.proofs.changed_rows.put_leaves.Goals as goal

pub returns-clause-written : goal.returns-clause-written
returns-clause-written c =
    rw (
      c.in_ok-end_array.ensures.ok,
      c.in_ok-put_each_leaf.ensures.written,
      c.in_ok-begin_array.ensures.ok,
      c.in_ok-key.ensures.ok,
    ) (says_more c.args.object.now.tokens _ _ _ _)
