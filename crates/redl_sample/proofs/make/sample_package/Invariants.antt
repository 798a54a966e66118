use Rattle.std.proofs.Common.{◌≡◌, ◌++◌}
use Rattle.redl_sample.specs.Packages.{opening, blocks_text}
use Rattle.redl_sample.proofs.make.sample_package.Given as goal

-- the blocks so far
abbrev pub invariant-loop-block : goal.invariant-loop-block
invariant-loop-block l = l.text.items ≡ opening ++ blocks_text l.block
