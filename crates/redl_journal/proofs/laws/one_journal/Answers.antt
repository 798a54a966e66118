use Rattle.redl_journal.proofs.Lines.{one_reading}
use Rattle.redl_journal.proofs.laws.one_journal.Goals as goal

pub returns : goal.returns
returns c = one_reading
