use Rattle.std.proofs.Common.{rules, sym, ◌∙◌}
use Rattle.std.proofs.lemmas.List.Sorted.{IsPartitionPoint-from_clause}
use Rattle.redl_join.specs.Blocks.{ends_before}
use Rattle.redl_join.proofs.BlockLists.{place_found, place_last, partitioned}
use Rattle.redl_join.proofs.blocks.place_of.Goals as goal

pub returns-then-ends_before : goal.returns-then-ends_before
returns-then-ends_before c =
    place_last c.args.blocks.now c.args.entry.now c.index-blocks-count.result c.requires c.if-count-gt0.true c.index-blocks-count.is
    (rw c.deref.ensures.value at (sym c.ends_before.ensures ∙ c.if-ends_before.true))

pub returns : goal.returns
returns c =
    place_found c.args.blocks.now c.args.entry.now c.partition_point.result c.requires c.partition_point.ensures.bound
    (IsPartitionPoint-from_clause (λ block. ends_before c.args.entry.now block.items) c.args.blocks.now c.partition_point.result c.partition_point.ensures.partitioned
    (partitioned c.args.blocks.now c.args.entry.now c.requires) (λ a r f k. search rules))
