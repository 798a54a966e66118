use Rattle.std.proofs.Common.{sym, ◌∙◌}
use Rattle.redl_markup.proofs.Decoding.{decoded_literal}
use Rattle.redl_markup.proofs.decode.is_literal.Goals as goal

pub returns-clause-same : goal.returns-clause-same
returns-clause-same c = λ holds. decoded_literal c.args.value.now (sym c.are_literal.ensures ∙ holds)
