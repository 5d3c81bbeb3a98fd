-- Cases of numbers, sets and names as bytes.
use Rattle.std.specs.Prelude.{◌≡◌, ◌+◌, ◌^◌, ◌-◌, ◌++◌, [], ◌∷◌, map, replicate, codes, true, false, Some, None}
use Rattle.seg_common.specs.Marks.{both_marked}
use Rattle.seg_common.specs.Varint.{varint, varint_at}
use Rattle.seg_common.specs.FileNames.{name_text}
use Rattle.seg_common.specs.declared.name.FileName.TheVariants.{Meta, Part, Alive}
use Rattle.seg_common.specs.declared.name.SegmentComponent.TheVariants.{FieldNorms}
use Rattle.seg_bits.specs.BitSets.{set_of}

pub record ByteCases : Type 0 where
  pub numbers : map varint (127 ∷ 300 ∷ 16384 ∷ (2 ^ 64 - 1) ∷ []) ≡
      (127 ∷ [])
      ∷ (172 ∷ 2 ∷ [])
      ∷ (128 ∷ 128 ∷ 1 ∷ [])
      ∷ (replicate 9 255 ++ (1 ∷ [])) ∷ []
  -- a last byte is missing, or the number is longer than need be
  pub none : map varint_at ([] ∷ (128 ∷ []) ∷ (128 ∷ 0 ∷ []) ∷ []) ≡ None ∷ None ∷ None ∷ []
  -- of seven documents 1, 4 and 5 are alive
  pub alive : set_of (7 ∷ 0 ∷ 0 ∷ 0 ∷ 50 ∷ replicate 7 0) ≡
      Some (false ∷ true ∷ false ∷ false ∷ true ∷ true ∷ false ∷ [])
  -- of which 4 alone is alive in another set
  pub meet : both_marked (false ∷ true ∷ false ∷ false ∷ true ∷ true ∷ false ∷ [])
      (replicate 4 false ++ (true ∷ false ∷ false ∷ []))
      ≡ replicate 4 false ++ (true ∷ false ∷ false ∷ [])
  pub names : map name_text (Meta ∷ Part (2 ^ 65 + 255) FieldNorms ∷ Alive 255 17 ∷ []) ≡
      codes "meta.json"
      ∷ codes "000000000000000200000000000000ff.fieldnorm"
      ∷ codes "000000000000000000000000000000ff.17.del" ∷ []
