use Rattle.std.proofs.Common.{arith}
use Rattle.seg_norms.proofs.LengthTable.{length_at}
use Rattle.seg_norms.proofs.field_norm_id.id_to_fieldnorm.Goals as goal

pub returns : goal.returns
returns c = length_at c.args.id (omega arith)
