use Rattle.seg_field_metadata.proofs.AlikeEntries.{alike_lists, merged_same}
use Rattle.seg_field_metadata.specs.MergedMetadata.{all_entries}
use Rattle.seg_field_metadata.proofs.laws.merging_in_any_order.Goals as goal

pub returns : goal.returns
returns c = λ lists others moved. merged_same (all_entries lists) (all_entries others) (alike_lists lists others moved)
