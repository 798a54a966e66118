use Rattle.std.proofs.Common.{rules}
use Rattle.redl_grammar.specs.ScanNames.{is_name_byte}
use Rattle.redl_markup.proofs.name.after_name_bytes.Goals as goal

pub returns : goal.returns
returns c = c.run.ensures.rest (is_name_byte c.args.colons) (λ b t low k. search rules)
