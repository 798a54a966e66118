use Rattle.std.proofs.Common.{◌≡◌, ◌<◌, ◌^◌, drop}
use Rattle.redl_numerals.specs.Numbers.{digits_value}
use Rattle.redl_numerals.proofs.number.digits_value.Given as goal

-- the digits that are left come after the value so far, which has as many digits as were read
abbrev pub invariant-loop-digit : goal.invariant-loop-digit
invariant-loop-digit l = record {
  value : digits_value l.value (drop l.digit-index l.digits) ≡ digits_value 0 l.digits;
  small : l.value < 10 ^ l.digit-index;
}
