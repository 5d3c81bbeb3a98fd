-- An entry of a table is read back from its bytes.
use Rattle.std.proofs.Common.{◌≡◌, ℕ, ◌+◌, ◌^◌, ◌<◌, List, [], ◌∷◌, ◌++◌, length, get_or, slice_range, refl, sym, ap, ◌∙◌, arith, append_assoc}
use Rattle.std.specs.Int.{w64, to_le_bytes}
use Rattle.std.proofs.lemmas.List.{length-append, get_or_at}
use Rattle.seg_common.specs.LittleEndian.{u64_at}
use Rattle.seg_common.specs.declared.column_type.ColumnType.{ColumnType}
use Rattle.seg_common.specs.declared.column_type.ColumnType.TheVariants as types
use Rattle.seg_common.proofs.Bytes.{u64_at-written}
use Rattle.seg_column_file.specs.ColumnTable.{code_in, end_in, next_place, path_in, type_of_code}
use Rattle.seg_column_format.specs.FileBytes.{WrittenColumn, code_of, entry_bytes}
use Rattle.seg_column_format.proofs.PartEnds.{range_of}

pub type_read : (type : ColumnType) → type_of_code (code_of type) ≡ type
type_read types.I64 = refl
type_read types.U64 = refl
type_read types.Bytes = refl
type_read types.Str = refl
type_read types.Bool = refl
type_read types.IpAddr = refl
type_read types.DateTime = refl

pub code_known : (type : ColumnType) → code_of type < 7
code_known types.I64 = omega arith
code_known types.U64 = omega arith
code_known types.Bytes = omega arith
code_known types.Str = omega arith
code_known types.Bool = omega arith
code_known types.IpAddr = omega arith
code_known types.DateTime = omega arith

pub length-entry : (end : ℕ) (c : WrittenColumn) → length (entry_bytes end c.path c.type) ≡ 17 + length c.path
length-entry end c =
    let count : length (to_le_bytes w64 (length c.path)) ≡ 8 = refl in
    let last : length (code_of c.type ∷ to_le_bytes w64 end) ≡ 9 = refl in
    omega (
      arith,
      length-append (to_le_bytes w64 (length c.path)) (c.path ++ (code_of c.type ∷ to_le_bytes w64 end)),
      length-append c.path (code_of c.type ∷ to_le_bytes w64 end),
      count,
      last,
    )

module _ (table done rest : List ℕ) (c : WrittenColumn) (end at : ℕ)
    (is : table ≡ done ++ (entry_bytes end c.path c.type ++ rest)) (there : length done ≡ at)
    (short : length c.path < 2 ^ 64) (ends : end < 2 ^ 64) where
  abbrev count : List ℕ
  count = to_le_bytes w64 (length c.path)

  abbrev last : List ℕ
  last = to_le_bytes w64 end ++ rest

  from_count : table ≡ done ++ (count ++ (c.path ++ (code_of c.type ∷ last)))
  from_count =
      is ∙ ap (λ (l : List ℕ). done ++ l)
      (append_assoc count (c.path ++ (code_of c.type ∷ to_le_bytes w64 end)) rest
      ∙ ap (λ (l : List ℕ). count ++ l) (append_assoc c.path (code_of c.type ∷ to_le_bytes w64 end) rest))

  from_path : table ≡ (done ++ count) ++ (c.path ++ (code_of c.type ∷ last))
  from_path = from_count ∙ sym (append_assoc done count (c.path ++ (code_of c.type ∷ last)))

  from_code : table ≡ ((done ++ count) ++ c.path) ++ (code_of c.type ∷ last)
  from_code = from_path ∙ sym (append_assoc (done ++ count) c.path (code_of c.type ∷ last))

  from_end : table ≡ (((done ++ count) ++ c.path) ++ code_of c.type ∷ []) ++ last
  from_end = from_code ∙ sym (append_assoc ((done ++ count) ++ c.path) (code_of c.type ∷ []) last)

  before_path : length (done ++ count) ≡ at + 8
  before_path =
      let eight : length count ≡ 8 = refl in
      omega (arith, length-append done count, eight, there)

  before_code : length ((done ++ count) ++ c.path) ≡ at + 8 + length c.path
  before_code = omega (arith, length-append (done ++ count) c.path, before_path)

  before_end : length (((done ++ count) ++ c.path) ++ code_of c.type ∷ []) ≡ at + 9 + length c.path
  before_end =
      let one : length (code_of c.type ∷ []) ≡ 1 = refl in
      omega (arith, length-append ((done ++ count) ++ c.path) (code_of c.type ∷ []), one, before_code)

  counted : u64_at table at ≡ length c.path
  counted =
      ap (λ (l : List ℕ). u64_at l at) from_count
      ∙ u64_at-written done (c.path ++ (code_of c.type ∷ last)) (length c.path) at short there

  pub path_is : path_in table at ≡ c.path
  unfolding path_in
  path_is =
      (λ j. slice_range (from_path j) (at + 8) (at + 8 + counted j))
      ∙ range_of (done ++ count) c.path (code_of c.type ∷ last) (at + 8) (at + 8 + length c.path) before_path refl

  pub code_is : code_in table at ≡ code_of c.type
  unfolding code_in
  code_is =
      (λ j. get_or (from_code j) (at + 8 + counted j) 0)
      ∙ get_or_at ((done ++ count) ++ c.path) (code_of c.type) last 0 (at + 8 + length c.path) before_code

  pub end_is : end_in table at ≡ end
  unfolding end_in
  end_is =
      (λ j. u64_at (from_end j) (at + 9 + counted j))
      ∙ u64_at-written (((done ++ count) ++ c.path) ++ code_of c.type ∷ []) rest end (at + 9 + length c.path) ends
      before_end

  pub next_is : next_place table at ≡ at + length (entry_bytes end c.path c.type)
  unfolding next_place
  next_is = omega (arith, counted, length-entry end c)
