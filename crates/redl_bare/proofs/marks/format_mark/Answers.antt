use Rattle.std.proofs.Common.{ap}
use Rattle.redl_bare.specs.Marks.{format_mark}
use Rattle.redl_bare.proofs.marks.format_mark.Goals as goal

pub returns-in-Some : goal.returns-in-Some
returns-in-Some c = ap format_mark c.in-Some.ensures

pub returns-in-None : goal.returns-in-None
returns-in-None c = ap format_mark c.in-None.ensures
