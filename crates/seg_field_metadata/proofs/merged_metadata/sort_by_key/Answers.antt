use Rattle.std.proofs.Common.{rules}
use Rattle.seg_field_metadata.specs.MetadataEntries.{key_of}
use Rattle.seg_common.proofs.ByOrder.{sorted_by}
use Rattle.seg_field_metadata.proofs.KeyOrder.{key_cmp_total}
use Rattle.seg_field_metadata.proofs.merged_metadata.sort_by_key.Goals as goal

pub returns-clause-sorted : goal.returns-clause-sorted
returns-clause-sorted c =
    sorted_by key_cmp_total key_of c.sort_unstable_by.new.self.items c.sort_unstable_by.ensures.sorted
    (λ a r q k. search rules)
