-- Steps that went well.
use Rattle.std.proofs.Common.{◌≡◌, Option, Some, Result, Ok, Err, refl}
use Rattle.redl_inputs.specs.Steps.{◌>>=◌}
use Rattle.redl_lines.specs.Failures.{Failure}

-- of two steps that went well, the first gave something, and the second went well with it
pub record BothOk {X Y : Type 0} (made : Result X Failure) (next : X → Result Y Failure) (y : Y) : Type 0 where
  pub x : X
  pub first : made ≡ Ok x
  pub second : next x ≡ Ok y

-- two steps that went well together each went well
pub both_ok : {X Y : Type 0} (made : Result X Failure) (next : X → Result Y Failure) (y : Y) → made >>= next ≡ Ok y → BothOk made next y
both_ok (Ok x) next y is = record { x = x; first = refl; second = is }
both_ok (Err failure) next y is = absurd (cc is)

-- a result has at most one value
pub same_ok : {X : Type 0} {x y : X} → let made : Result X Failure = Ok x in made ≡ Ok y → x ≡ y
same_ok is = cc

-- an option has at most one value
pub same_some : {X : Type 0} {x y : X} → let given : Option X = Some x in given ≡ Some y → x ≡ y
same_some is = cc
