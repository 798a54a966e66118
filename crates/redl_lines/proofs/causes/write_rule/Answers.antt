use Rattle.redl_lines.proofs.causes.write_rule.Goals as goal

pub returns : goal.returns
returns g c = rw (c.as_bytes.ensures.value, c.format-rule.ensures.text) at c.put_pieces.ensures
