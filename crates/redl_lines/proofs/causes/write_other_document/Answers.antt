use Rattle.redl_lines.proofs.causes.write_other_document.Goals as goal

pub returns : goal.returns
returns g c = rw (c.as_bytes.ensures.value, c.digest_digits.ensures, (c.digest_digits-2).ensures) at c.write_difference.ensures
