use Rattle.std.proofs.Common.{◌∙◌, sym, Some, None}
use Rattle.redl_rules.proofs.KeptLaws.{least-at}
use Rattle.redl_rules.proofs.kept.Kept.least_broken.Goals as goal

pub returns-in_err-place : goal.returns-in_err-place
returns-in_err-place c = c.from_residual.ensures ∙ sym (least-at c.args.self.rules None c.in_err-place.ensures.value)

pub returns : goal.returns
returns c = sym (least-at c.args.self.rules (Some c.in_ok-place.place) c.in_ok-place.ensures.value)
