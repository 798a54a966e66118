use Rattle.redl_lines.proofs.lines.write_locked.Goals as goal

pub returns : goal.returns
returns g c = rw (c.as_slice.ensures, c.as_bytes.ensures.value) at c.put_pieces.ensures
