use Rattle.std.proofs.Common.{◌≡◌, drop, true}
use Rattle.redl_said.specs.Phrases.{even_from}
use Rattle.redl_said.proofs.phrase.even_end.Given as goal

-- what comes of the bytes that are left, after those so far
abbrev pub invariant-loop-byte : goal.invariant-loop-byte
invariant-loop-byte l = even_from l.even l.last (drop l.byte-index l.bytes) ≡ even_from true l.space l.bytes
