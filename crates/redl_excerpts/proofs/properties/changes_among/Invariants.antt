use Rattle.std.proofs.Common.{◌≡◌, take}
use Rattle.redl_excerpts.specs.Properties.{changes_among}
use Rattle.redl_excerpts.proofs.properties.changes_among.Given as goal

abbrev pub invariant-loop-revision : goal.invariant-loop-revision
invariant-loop-revision l = l.changes.items ≡ changes_among (take l.revision-index l.revisions)
