use Rattle.redl_page.proofs.changes.put_edit.Goals as goal

pub returns : goal.returns
returns g c = rw (c.as_slice.ensures, c.as_bytes-digits.ensures.value, c.format.ensures.text) at c.put_pieces.ensures
