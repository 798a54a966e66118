-- What the walk over the text shows is its signs.
use Rattle.std.proofs.Common.{ap, ◌∙◌}
use Rattle.redl_clauses.proofs.SignLaws.{shown_idle}
use Rattle.redl_clauses.proofs.signs.plain_has_sign.Goals as goal

pub returns : goal.returns
returns c = ap (λ ear. ear.any) c.in-Ok.ensures ∙ shown_idle c.args.plain.now
