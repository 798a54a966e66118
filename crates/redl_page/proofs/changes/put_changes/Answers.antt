use Rattle.redl_page.proofs.changes.put_changes.Goals as goal

pub returns : goal.returns
returns g c = rw c.revisions.ensures.value at c.put_each.ensures
