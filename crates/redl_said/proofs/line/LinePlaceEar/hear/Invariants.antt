use Rattle.std.proofs.Common.{◌≡◌, drop}
use Rattle.redl_said.specs.Lines.{along}
use Rattle.redl_said.proofs.line.LinePlaceEar.hear.Given as goal

-- the bytes that are left are heard after those so far
abbrev pub invariant-loop-byte : goal.invariant-loop-byte
invariant-loop-byte l = along l.self (drop l.byte-index l.bytes) ≡ along l.initial.self l.bytes
