use Rattle.redl_lines.proofs.causes.write_unread.Goals as goal

pub returns : goal.returns
returns g c = rw c.as_bytes.ensures.value at c.write_named.ensures
