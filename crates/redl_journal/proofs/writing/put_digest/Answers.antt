use Rattle.redl_journal.proofs.writing.put_digest.Goals as goal

pub returns : goal.returns
returns g c = rw c.digest_digits.ensures at c.put_piece.ensures
