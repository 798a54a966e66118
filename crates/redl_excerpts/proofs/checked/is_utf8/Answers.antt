use Rattle.redl_excerpts.proofs.DetailLaws.{utf8-is, utf8-is_not}
use Rattle.redl_excerpts.proofs.checked.is_utf8.Goals as goal

pub returns-in-Ok : goal.returns-in-Ok
returns-in-Ok c = utf8-is _ c.in-Ok.ensures.cases.1

pub returns-in-Err : goal.returns-in-Err
returns-in-Err c = utf8-is_not _ c.in-Err.ensures.cases.0
