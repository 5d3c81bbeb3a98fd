-- Cases of numbers, sets and names as bytes.
use Rattle.std.proofs.Common.{refl}
use Rattle.std.specs.Fmt.{digits}
use Rattle.seg_common.specs.LittleEndian.{u32_at, u64_at}
use Rattle.seg_common.specs.SegmentIds.{hex_text}
use Rattle.seg_common.specs.Varint.{varint_within}
use Rattle.seg_bits.specs.BitSets.{bits_of, is_bit_set, set_of, word_bits, words_of}
use Rattle.seg_model_cases.specs.Bytes.{ByteCases}

pub byte_cases : ByteCases
unfolding digits u32_at u64_at hex_text varint_within bits_of is_bit_set set_of word_bits words_of
byte_cases = record { numbers = refl; none = refl; alive = refl; meet = refl; names = refl }
