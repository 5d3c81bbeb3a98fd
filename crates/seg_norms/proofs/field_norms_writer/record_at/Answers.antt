use Rattle.std.proofs.Common.{rules}
use Rattle.seg_norms.proofs.NormsLists.{set_is_at_field}
use Rattle.seg_norms.proofs.field_norms_writer.record_at.Goals as goal

pub returns : goal.returns
returns c = search (rules, set_is_at_field)
