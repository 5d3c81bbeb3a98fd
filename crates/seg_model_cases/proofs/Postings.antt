-- Cases of the parts of a field, in bytes that were written by hand.
use Rattle.std.proofs.Common.{refl}
use Rattle.seg_common.specs.LittleEndian.{u32_at, u64_at}
use Rattle.seg_common.specs.Varint.{varint_within}
use Rattle.seg_termdict.specs.Dictionary.{ends_of, infos_of, info_of, keys_of, key_of, key_start, postings_start, positions_start, terms_in, terms_of}
use Rattle.seg_postings.specs.Postings.{counts_at, positions_at, with_positions}
use Rattle.seg_model_cases.specs.Postings.{PostingsCases}

pub postings_cases : PostingsCases
unfolding u32_at u64_at varint_within ends_of infos_of info_of keys_of key_of key_start postings_start positions_start
    terms_in terms_of counts_at positions_at with_positions
postings_cases = record {
  terms_read = refl;
  postings_read = refl;
  taken = refl;
  too_high = refl;
  other_option = refl;
  documents = refl;
  counts = refl;
  refused = refl;
  left_over = refl;
  alive = refl;
  beyond = refl;
  spaces = refl;
  json_taken = refl;
}
