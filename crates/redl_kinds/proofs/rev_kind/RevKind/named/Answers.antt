use Rattle.std.proofs.Common.{◌∙◌}
use Rattle.redl_kinds.proofs.KindNameLaws.{exact}
use Rattle.redl_kinds.proofs.rev_kind.RevKind.named.Goals as goal

pub returns : goal.returns
returns c = exact c.args.name.now c.copied.result (c.copied.ensures ∙ c.first_with_name.ensures)
