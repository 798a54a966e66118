use Rattle.std.proofs.Common.{◌≡◌, drop}
use Rattle.redl_said.specs.Lines.{drawn}
use Rattle.redl_said.proofs.line.LineEar.hear.Given as goal

-- the bytes that are left are heard after those so far
abbrev pub invariant-loop-byte : goal.invariant-loop-byte
invariant-loop-byte l = drawn l.self (drop l.byte-index l.bytes) ≡ drawn l.initial.self l.bytes
