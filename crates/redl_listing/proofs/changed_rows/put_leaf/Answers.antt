-- The tokens of the attributes, one after another.
use Rattle.redl_listing.proofs.ChangedLaws.{leaf_more}
use Rattle.redl_listing.proofs.changed_rows.put_leaf.Goals as goal

pub returns-clause-written : goal.returns-clause-written
returns-clause-written c =
    rw (
      c.in_ok-end_object.ensures.ok,
      c.in_ok-put_each_attribute.ensures.written,
      c.in_ok-begin_object.ensures.ok,
    ) (leaf_more c.args.object.now.tokens _ _ _)
