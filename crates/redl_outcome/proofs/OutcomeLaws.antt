-- A call comes to one outcome under all readers.
use Rattle.std.proofs.Common.{◌≡◌, ℕ, List, ap}
use Rattle.redl_outcome.specs.Brought.{Brought}
use Rattle.redl_outcome.specs.Outcome.{outcome}
use Rattle.redl_inputs.proofs.ReaderLaws.{one_reader}
use Rattle.redl_inputs.specs.Readers.{Reader, IsReader}
use Rattle.redl_io.specs.Shelf.{Files}

-- what a call comes to doesn't hang on the reader
pub one_outcome : (reader other : Reader) → IsReader reader → IsReader other → (words : List (List ℕ)) (files : Files) (brought : Brought)
    → outcome reader words files brought ≡ outcome other words files brought
one_outcome reader other is too words files brought = ap (λ r. outcome r words files brought) (one_reader reader other is too)
