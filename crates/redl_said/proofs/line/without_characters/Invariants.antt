use Rattle.std.proofs.Common.{◌≡◌, length}
use Rattle.redl_said.specs.Lines.{without_characters}
use Rattle.redl_said.proofs.line.without_characters.Given as goal

abbrev pub invariant-loop-first : goal.invariant-loop-first
invariant-loop-first l = without_characters l.more l.left ≡ without_characters l.count l.bytes

abbrev pub decreases-loop-first : goal.decreases-loop-first
decreases-loop-first l = length l.left
