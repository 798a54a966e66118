use Rattle.std.proofs.Common.{sym, ap, ◌∙◌}
use Rattle.redl_kinds.specs.KindNames.{kind_named}
use Rattle.redl_words.proofs.SelectionLaws.{kind_found}
use Rattle.redl_words.proofs.selections.read_kind_name.Goals as goal

pub returns : goal.returns
returns c = sym (ap kind_named (sym c.as_bytes.ensures.value) ∙ kind_found c.as_bytes.result.now c.named.result c.named.ensures)
