-- Those up to a place come first.
use Rattle.std.proofs.Common.{leb, rules, arith}
use Rattle.std.proofs.lemmas.List.Sorted.{IsPartitionPoint-from_clause, IsPartitionedBy-leb}
use Rattle.redl_commented.proofs.EndLaws.{point-counted}
use Rattle.redl_commented.proofs.ends.number_by.Goals as goal

pub returns : goal.returns
returns c =
    let ends = c.args.ends.now in
    let parted = IsPartitionedBy-leb (λ end. end) ends c.args.from c.requires in
    let point = IsPartitionPoint-from_clause (λ end. leb end c.args.from) _ _ c.partition_point.ensures.partitioned parted (λ a r q k. search rules) in
    point-counted c.args.from ends c.partition_point.result c.partition_point.ensures.bound (λ k d less. point.0 k d (omega arith) less) (λ k d less more. point.1 k d less more)
