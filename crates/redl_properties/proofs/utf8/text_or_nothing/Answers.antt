use Rattle.redl_properties.proofs.Utf8Laws.{text-is, text-is_not}
use Rattle.redl_properties.proofs.utf8.text_or_nothing.Goals as goal

pub returns-in-Ok-clause-value : goal.returns-in-Ok-clause-value
returns-in-Ok-clause-value c = text-is _ c.in-Ok.ensures.cases.1

pub returns-in-Err-clause-value : goal.returns-in-Err-clause-value
returns-in-Err-clause-value c = text-is_not _ c.in-Err.ensures.cases.0
