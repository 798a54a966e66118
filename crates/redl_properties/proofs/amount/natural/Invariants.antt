use Rattle.std.proofs.Common.{◌≡◌}
use Rattle.redl_properties.specs.Amounts.{read_upto}
use Rattle.redl_properties.proofs.amount.natural.Given as goal

abbrev pub invariant-loop-digit : goal.invariant-loop-digit
invariant-loop-digit l = l.number ≡ read_upto l.digits l.digit-index
