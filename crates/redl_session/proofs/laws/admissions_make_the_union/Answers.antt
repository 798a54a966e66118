use Rattle.redl_session.proofs.Admissions.{after-union}
use Rattle.redl_session.proofs.laws.admissions_make_the_union.Goals as goal

pub returns : goal.returns
returns c = after-union
