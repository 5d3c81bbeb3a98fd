use Rattle.std.proofs.Common.{arith}
use Rattle.seg_terms.proofs.PostingGroups.{grouped_few}
use Rattle.seg_terms.proofs.runs.posting_count.Goals as goal

pub overflow_add-count : goal.overflow_add-count
overflow_add-count c =
    omega (arith, grouped_few c.args.hits.now, c.loop-rest.invariant)
