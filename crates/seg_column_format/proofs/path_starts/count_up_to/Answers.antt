use Rattle.std.proofs.Common.{rules}
use Rattle.std.proofs.lemmas.List.Sorted.{IsPartitionPoint-from_clause}
use Rattle.seg_column_format.specs.PathStarts.{is_up_to}
use Rattle.seg_column_format.proofs.ByteOrder.{partitioned}
use Rattle.seg_column_format.proofs.path_starts.count_up_to.Goals as goal

pub returns-clause-ends : goal.returns-clause-ends
returns-clause-ends c =
    IsPartitionPoint-from_clause (is_up_to c.args.path.now) c.args.starts.now c.partition_point.result
    c.partition_point.ensures.partitioned (partitioned c.args.path.now c.args.starts.now c.requires)
    (λ a r q k. search rules)
