use Rattle.std.proofs.Common.{take}
use Rattle.redl_edits.specs.Inside.Rounds.{LowersLater}
use Rattle.redl_edits.proofs.enclosed.lowered_by_later.Given as goal

abbrev pub invariant-loop-span : goal.invariant-loop-span
invariant-loop-span l = LowersLater l.index l.change (take l.span-index l.later) l.need
