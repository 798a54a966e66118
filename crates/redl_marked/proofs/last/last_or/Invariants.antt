use Rattle.std.proofs.Common.{◌≡◌, drop}
use Rattle.std.specs.List.{last_or}
use Rattle.redl_marked.proofs.last.last_or.Given as goal

abbrev pub invariant-loop-byte : goal.invariant-loop-byte
invariant-loop-byte l = last_or l.last (drop l.byte-index l.bytes) ≡ last_or l.fn.before l.bytes
