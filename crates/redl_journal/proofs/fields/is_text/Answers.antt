use Rattle.std.proofs.Common.{◌∙◌}
use Rattle.redl_journal.proofs.Parts.{utf8_test}
use Rattle.redl_journal.proofs.fields.is_text.Goals as goal

pub returns : goal.returns
returns c = c.is_ok.ensures.value ∙ utf8_test c.args.bytes.now c.from_utf8.result _ _ c.from_utf8.ensures.cases
