-- What calls of an open segment answer.
use Rattle.std.specs.Prelude.{◌≡◌, ◌+◌, ◌*◌, [], Option, Some, if◌then◌else◌}
use Rattle.std.specs.List.{list_all}
use Rattle.seg_bits.specs.BitSets.{member_count, words_for}
use Rattle.seg_postings.specs.OpenedFields.{OpenField}
use Rattle.seg_open.specs.OpenSegment.{OpenSegment}
use Rattle.seg_open.specs.declared.space_usage.SegmentSpaceUsage.{SegmentSpaceUsage}

-- a field that is open is answered; else one without terms
abbrev pub IsIndexOf : Option (Option OpenField) → OpenField → Type 0
IsIndexOf (Some (Some opened)) answered = answered ≡ opened
IsIndexOf _ answered = (answered.terms ≡ []) × (answered.total ≡ 0)

-- the number of documents that are alive, the sizes of the files, and that of the set of these documents in
-- memory, where one is missing from it
pub record IsSpaceOf (s : OpenSegment) (usage : SegmentSpaceUsage) : Type 0 where
  pub num_docs : usage.num_docs ≡ member_count s.alive
  pub termdict : usage.termdict.0 ≡ s.sizes.terms
  pub postings : usage.postings.0 ≡ s.sizes.postings
  pub positions : usage.positions.0 ≡ s.sizes.positions
  pub fast_fields : usage.fast_fields.0 ≡ s.sizes.fast_fields
  pub fieldnorms : usage.fieldnorms.0 ≡ s.sizes.field_norms
  pub store : usage.store.0 ≡ s.sizes.store
  pub deletes : usage.deletes.0 ≡ (if list_all (λ b. b) s.alive then 0 else 4 + 8 * words_for s.documents)
