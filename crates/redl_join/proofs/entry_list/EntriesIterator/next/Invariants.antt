use Rattle.std.proofs.Common.{◌≡◌, ◌++◌, length}
use Rattle.redl_join.specs.Blocks.{entries_in_blocks}
use Rattle.redl_join.proofs.entry_list.EntriesIterator.next.Given as goal

abbrev pub invariant-loop-self : goal.invariant-loop-self
invariant-loop-self l =
    l.self-inside.block.now ++ entries_in_blocks l.self-inside.rest.now ≡ l.initial.self-inside.block.now ++ entries_in_blocks l.initial.self-inside.rest.now

abbrev pub decreases-loop-self : goal.decreases-loop-self
decreases-loop-self l = length l.self-inside.rest.now
