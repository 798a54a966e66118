use Rattle.std.proofs.Common.{◌≡◌, ◌++◌, take}
use Rattle.redl_sample.specs.Blocks.{filled}
use Rattle.redl_sample.proofs.block.push_filled.Given as goal

-- the bytes so far are filled in
abbrev pub invariant-loop-byte : goal.invariant-loop-byte
invariant-loop-byte l = l.text.items ≡ l.initial.text.items ++ filled l.digits (take l.byte-index l.template)
