-- The library's search finds the rank.
use Rattle.std.proofs.Common.{ltb, rules}
use Rattle.std.proofs.lemmas.List.Sorted.{IsPartitionPoint-from_clause}
use Rattle.sorted_keys.proofs.Ranks.{partitioned, rank_partition}
use Rattle.sorted_keys.proofs.search.rank_by_branches.Goals as goal

pub returns : goal.returns
returns c =
    let point = IsPartitionPoint-from_clause (λ y. ltb y c.args.key) c.args.keys.now c.partition_point.result c.partition_point.ensures.partitioned (partitioned c.args.key _ c.requires) (λ a r f k. search rules) in
    rank_partition c.args.key c.partition_point.result c.args.keys.now c.partition_point.ensures.bound point
