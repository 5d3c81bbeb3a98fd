use Rattle.std.proofs.Common.{arith}
use Rattle.seg_norms.proofs.PartIds.{have_ids}
use Rattle.seg_norms.proofs.field_norm_readers.parts_have_ids.Goals as goal

pub returns : goal.returns
returns c parts read = have_ids c.args.file.now (λ i. omega (arith, c.type_inv.file i)) parts read
