use Rattle.std.proofs.Common.{◌≡◌, ◌++◌, take}
use Rattle.std.specs.List.{flat_map}
use Rattle.redl_listing.specs.Full.{said_tokens}
use Rattle.redl_listing.proofs.full_rows.put_each.Given as goal

-- the words so far
abbrev pub invariant-loop-said : goal.invariant-loop-said
invariant-loop-said l = (l.object.tokens ≡ l.fn.object.tokens ++ flat_map said_tokens (take l.said-index l.says)) × (l.object.before ≡ l.fn.object.before)
