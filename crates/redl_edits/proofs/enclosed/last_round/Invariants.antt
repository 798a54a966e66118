use Rattle.std.proofs.Common.{◌≡◌, length}
use Rattle.redl_edits.specs.Enclosed.{round_upto}
use Rattle.redl_edits.proofs.enclosed.last_round.Given as goal

abbrev pub invariant-loop-earlier : goal.invariant-loop-earlier
invariant-loop-earlier l = round_upto l.index l.spans l.change l.change.from (length l.spans) ≡ round_upto l.index l.spans l.change l.change.from l.earlier
