use Rattle.redl_clauses.proofs.HeardLaws.{heard-over}
use Rattle.redl_clauses.proofs.says.HeardEar.is_full.Goals as goal

pub returns : goal.returns
returns c = λ is bytes. heard-over c.args.self.now bytes is
