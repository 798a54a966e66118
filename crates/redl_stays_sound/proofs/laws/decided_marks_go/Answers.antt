use Rattle.redl_stays_sound.proofs.Decided.{decided_go}
use Rattle.redl_stays_sound.proofs.laws.decided_marks_go.Goals as goal

pub returns : goal.returns
returns c = decided_go
