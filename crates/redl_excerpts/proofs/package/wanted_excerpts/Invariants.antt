use Rattle.std.proofs.Common.{◌≡◌, map, take}
use Rattle.redl_excerpts.specs.Excerpts.{wanted_nothing}
use Rattle.redl_excerpts.proofs.package.wanted_excerpts.Given as goal

abbrev pub invariant-loop-revision : goal.invariant-loop-revision
invariant-loop-revision l = l.excerpts.items ≡ map (wanted_nothing l.wanted) (take l.revision-index l.revisions)
