use Rattle.std.proofs.Common.{◌≡◌, ◌+◌, ◌≤◌, drop}
use Rattle.redl_said.specs.Lines.{characters_in}
use Rattle.redl_said.proofs.line.characters_in.Given as goal

-- the characters so far and those that are left are all
abbrev pub invariant-loop-byte : goal.invariant-loop-byte
invariant-loop-byte l = record { all : l.count + characters_in (drop l.byte-index l.bytes) ≡ characters_in l.bytes; few : l.count ≤ l.byte-index }
