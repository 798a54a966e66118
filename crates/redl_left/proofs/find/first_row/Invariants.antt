use Rattle.std.proofs.Common.{◌≡◌, drop}
use Rattle.redl_left.specs.Named.{named_of}
use Rattle.redl_left.specs.Finds.{first_row}
use Rattle.redl_left.proofs.find.first_row.Given as goal

abbrev pub invariant-loop-row : goal.invariant-loop-row
invariant-loop-row l =
    first_row (named_of l.named) (drop l.row-index l.rows) l.asked.parent.now l.asked.space l.asked.local.now l.asked.tail.now
    ≡ first_row (named_of l.named) l.rows l.asked.parent.now l.asked.space l.asked.local.now l.asked.tail.now
