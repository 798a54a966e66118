-- The line that is added is one of the lines.
use Rattle.std.proofs.Common.{sym, subst}
use Rattle.redl_report.specs.Counts.{IsLine}
use Rattle.redl_report.proofs.making.add_lines.Goals as goal

pub add_line-requires-clause-line : goal.add_line-requires-clause-line
add_line-requires-clause-line g c = subst IsLine (sym c.line-item.is) (c.requires.names c.loop-line.line-index c.line-item.result c.loop-line-test.true)
