use Rattle.std.proofs.Common.{◌≡◌, ◌++◌, take}
use Rattle.std.specs.List.{flat_map}
use Rattle.redl_listing.specs.Changed.{change_tokens}
use Rattle.redl_listing.proofs.changed_rows.put_each_change.Given as goal

abbrev pub invariant-loop-change : goal.invariant-loop-change
invariant-loop-change l = (l.object.tokens ≡ l.fn.object.tokens ++ flat_map change_tokens (take l.change-index l.changes)) × (l.object.before ≡ l.fn.object.before)
