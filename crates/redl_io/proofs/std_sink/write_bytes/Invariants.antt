use Rattle.std.proofs.Common.{◌≤◌, length, take}
use Rattle.std.specs.Io.KnownBytes.{Appends}
use Rattle.redl_io.proofs.std_sink.write_bytes.Given as goal

abbrev pub invariant-loop : goal.invariant-loop
invariant-loop g l = (l.taken ≤ length l.bytes) × Appends (g.W.Write.contents l.initial.stream) (g.W.Write.contents l.stream) (take l.taken l.bytes)
