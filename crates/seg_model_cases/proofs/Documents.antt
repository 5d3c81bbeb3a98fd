-- Cases of the check of documents, and of what is stored of them.
use Rattle.std.proofs.Common.{refl}
use Rattle.seg_common.specs.Varint.{varint_within}
use Rattle.seg_model_cases.specs.Documents.{DocumentCases}

pub document_cases : DocumentCases
unfolding varint_within
document_cases = record {
  refused = refl;
  in_passes = refl;
  empty_arrays = refl;
  counted = refl;
  stored = refl;
  stored_bytes = refl;
  tags = refl;
  object_of_a_list = refl;
  nested = refl;
}
