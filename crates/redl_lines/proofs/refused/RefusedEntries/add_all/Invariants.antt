use Rattle.std.proofs.Common.{◌≡◌}
use Rattle.std.specs.Vec.Iter.{into_iter_items}
use Rattle.redl_lines.specs.Refused.{with_refusals}
use Rattle.redl_lines.proofs.refused.RefusedEntries.add_all.Given as goal

-- the refused entries so far, and the refusals that are left
abbrev pub invariant-loop-refusal : goal.invariant-loop-refusal
invariant-loop-refusal l = with_refusals l.self (into_iter_items l.refusal-iterator) ≡ with_refusals l.initial.self l.fn.refusals.items
