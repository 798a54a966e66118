use Rattle.std.proofs.Common.{◌∙◌, sym}
use Rattle.redl_bare.proofs.StartLaws.{nothing-starts}
use Rattle.redl_bare.proofs.starts.start_of.Goals as goal

pub returns-then-shows_nothing : goal.returns-then-shows_nothing
returns-then-shows_nothing c = sym (nothing-starts c.args.local.now c.args.tail.now (sym c.shows_nothing.ensures ∙ c.if-shows_nothing.true))
