use Rattle.std.proofs.Common.{◌≡◌, drop, true}
use Rattle.redl_said.specs.Said.{all_plain_from}
use Rattle.redl_said.proofs.said.is_all_plain.Given as goal

-- what comes of the bytes that are left, after those so far
abbrev pub invariant-loop-byte : goal.invariant-loop-byte
invariant-loop-byte l = all_plain_from l.plain (drop l.byte-index l.bytes) ≡ all_plain_from true l.bytes
