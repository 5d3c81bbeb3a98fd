-- Files of bytes that were just made.
use Rattle.std.specs.Prelude.{◌≡◌, ℕ, List}
use Rattle.seg_postings.specs.declared.inverted_index_serializer.PostingsFiles.{PostingsFiles}
use Rattle.seg_segment.specs.declared.segment_files.SegmentFiles.{SegmentFiles}

-- six files have the bytes of three files of terms, of a store, of columns and of lengths
pub record AreOfParts (terms : PostingsFiles) (store fast norms : List ℕ) (files : SegmentFiles) : Type 0 where
  pub terms_are : files.terms ≡ terms.terms.items
  pub postings_are : files.postings ≡ terms.postings.items
  pub positions_are : files.positions ≡ terms.positions.items
  pub store_is : files.store ≡ store
  pub fast_is : files.fast_fields ≡ fast
  pub norms_are : files.field_norms ≡ norms
