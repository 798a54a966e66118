use Rattle.std.proofs.Common.{sym, ap, ◌∙◌}
use Rattle.redl_marked.specs.Inside.Walks.{last_of}
use Rattle.redl_marked.proofs.IdleLaws.{marked-idle}
use Rattle.redl_marked.proofs.idle.last_of_idle.Goals as goal

pub returns : goal.returns
returns c = ap (λ last. last.byte) c.in-Ok.ensures ∙ ap last_of (sym (marked-idle c.args.above c.args.plain.now))
