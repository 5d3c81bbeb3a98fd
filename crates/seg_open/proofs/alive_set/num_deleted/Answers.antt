use Rattle.std.proofs.Common.{length, ap, arith}
use Rattle.seg_open.proofs.DocumentMarks.{counts_both}
use Rattle.seg_open.proofs.alive_set.num_deleted.Goals as goal

pub overflow_cast-result : goal.overflow_cast-result
overflow_cast-result c =
    omega (arith, counts_both c.args.alive.now, c.num_alive_docs.ensures, c.max_value.ensures, c.max_value.type_inv, ap length c.bitset.ensures)

pub overflow_sub-result : goal.overflow_sub-result
overflow_sub-result c =
    omega (arith, counts_both c.args.alive.now, c.num_alive_docs.ensures, c.max_value.ensures, ap length c.bitset.ensures)

pub returns : goal.returns
returns c =
    omega (arith, counts_both c.args.alive.now, c.num_alive_docs.ensures, c.max_value.ensures, ap length c.bitset.ensures)
