-- The column of a group of rows, by its type, and the file with it.
use Rattle.std.proofs.Common.{◌≡◌, ℕ, ◌+◌, ◌<◌, Bool, true, false, List, [], ◌∷◌, ◌++◌, length, map, Option, Some, None, inl, inr, refl, sym, ap, subst, ◌∙◌, append_assoc, arith}
use Rattle.std.specs.Prelude.{All, if◌then◌else◌}
use Rattle.std.specs.Int.{w64, to_le_bytes}
use Rattle.std.specs.List.{AllByRecursion, list_all, list_any}
use Rattle.std.proofs.lemmas.Bool.{false≢true}
use Rattle.std.proofs.lemmas.List.{append-nil, length-append}
use Rattle.std.proofs.lemmas.List.Elements.{All-from_recursion, recursion_from_All}
use Rattle.std.proofs.lemmas.Option.{none-some, same_Some}
use Rattle.seg_common.specs.declared.column_type.ColumnType.{ColumnType}
use Rattle.seg_common.specs.declared.column_type.ColumnType.TheVariants.{I64, U64, Bytes, Str, Bool as Boolean, IpAddr, DateTime}
use Rattle.seg_model.specs.Columns.{ColumnValue, fits_i64, free_number_type, is_filled, is_not_negative, is_number}
use Rattle.seg_column_format.specs.FileBytes.{WrittenColumn, data_bytes, entries_bytes, entry_bytes, file_bytes, footer_bytes, table_bytes}
use Rattle.seg_column_writer.proofs.Exports.{data_more}
use Rattle.seg_column_merge.specs.Cells.{is_absent}
use Rattle.seg_column_merge.specs.Decisions.{as_there, merged_type}
use Rattle.seg_column_merge.specs.MergedBytes.{HasNumbers, HasType, HoldsAll, IsNumberType, SuitsType, places_of}
use Rattle.seg_column_merge.specs.MergedFiles.{AddsEntry, IsColumnGroup, IsFileOf, values_of}
use Rattle.seg_column_merge_parts.specs.Tables.{column_in, kind_of, row_of}
use Rattle.seg_column_merge.specs.declared.merge.Merge.{Merge}
use Rattle.seg_column_merge.specs.declared.merged_file.MergedFile.{MergedFile}
use Rattle.seg_column_merge_parts.specs.declared.tables.TableRow.{TableRow}
use Rattle.seg_column_merge.proofs.AgreeingTypes.{type_of_kind}
use Rattle.seg_column_merge.proofs.MergedTypes.{all_numbers, all_kinds as kinds_of}

-- ---- rows of one type

typed_one : (t : ColumnType) (r : TableRow) → HasType r.column_type r.column → r.column_type ≡ t → HasType t r.column
typed_one t r is same = subst (λ (u : ColumnType). HasType u r.column) same is

all_typed : (t : ColumnType) (rows : List TableRow) → AllByRecursion (λ r. HasType r.column_type r.column) rows
    → AllByRecursion (λ r. r.column_type ≡ t) rows → AllByRecursion (λ r. HasType t r.column) rows
all_typed t [] typed same = tt
all_typed t (r ∷ rs) typed same = (typed_one t r typed.0 same.0, all_typed t rs typed.1 same.1)

one_type : (t : ColumnType) → is_number t ≡ false → (rows : List TableRow)
    → AllByRecursion (λ r. kind_of r.column_type ≡ kind_of t) rows → AllByRecursion (λ r. r.column_type ≡ t) rows
one_type t other [] kinds = tt
one_type t other (r ∷ rs) kinds = (type_of_kind r.column_type t kinds.0 other, one_type t other rs kinds.1)

-- the first type that holds all holds them
holds : (values : List (List ColumnValue)) (t : ColumnType) → free_number_type values ≡ Some t → HoldsAll t values
holds values t is = by (list_all (list_all fits_i64) values) (list_all (list_all is_not_negative) values) refl refl is
  where
    by : (a b : Bool) → list_all (list_all fits_i64) values ≡ a → list_all (list_all is_not_negative) values ≡ b
        → (if a then Some I64 else (if b then Some U64 else None)) ≡ Some t → HoldsAll t values
    by true b fit stand e = subst (λ (u : ColumnType). HoldsAll u values) (same_Some I64 t e) fit
    by false true fit stand e = subst (λ (u : ColumnType). HoldsAll u values) (same_Some U64 t e) stand
    by false false fit stand e = absurd (none-some t e)

-- ---- the values of a group suit its type

module _ (merge : Merge) (rows : List TableRow) (group : IsColumnGroup merge rows) (some : 0 < length rows)
    (t : ColumnType) (decided : merged_type (map row_of rows) (values_of merge rows) ≡ Some (Some t)) where
  abbrev values : List (List ColumnValue)
  values = values_of merge rows

  typed : AllByRecursion (λ r. HasType r.column_type r.column) rows
  typed = recursion_from_All (λ (r : TableRow). HasType r.column_type r.column) rows group.decidable.types

  all_kinds : AllByRecursion (λ r. kind_of r.column_type ≡ group.decidable.kinds.0) rows
  all_kinds = recursion_from_All (λ (r : TableRow). kind_of r.column_type ≡ group.decidable.kinds.0) rows
      group.decidable.kinds.1

  by_first : (r : TableRow) (rest : List TableRow) → rows ≡ r ∷ rest → SuitsType t rows (places_of merge)
  by_first r rest is = by (is_absent (column_in r.column)) refl (list_any is_filled values)
      (is_number r.column_type) refl told
    where
      told : merged_type (map row_of (r ∷ rest)) values ≡ Some (Some t)
      told = ap (λ (rs : List TableRow). merged_type (map row_of rs) values) (sym is) ∙ decided

      kinds : AllByRecursion (λ s. kind_of s.column_type ≡ kind_of r.column_type) rows
      kinds =
          kinds_of group.decidable.kinds.0 r.column_type
          (subst (AllByRecursion (λ s. kind_of s.column_type ≡ group.decidable.kinds.0)) is all_kinds).0 rows all_kinds

      same : AllByRecursion (λ s. s.column_type ≡ r.column_type) rows → r.column_type ≡ t
          → SuitsType t rows (places_of merge)
      same all e =
          inl (subst (λ (u : ColumnType). All (λ s. HasType u s.column) rows) e
          (All-from_recursion (λ (s : TableRow). HasType r.column_type s.column) rows
          (all_typed r.column_type rows typed all)))

      by : (a : Bool) → is_absent (column_in r.column) ≡ a → (f n : Bool) → is_number r.column_type ≡ n
          → (if a then Some (Some r.column_type)
          else (if f then (if n then as_there (free_number_type values) else Some (Some r.column_type)) else Some None))
          ≡ Some (Some t) → SuitsType t rows (places_of merge)
      by true absent f n is_n e =
          same (recursion_from_All (λ (s : TableRow). s.column_type ≡ r.column_type) rows
          (group.agree r rest is absent))
          (same_Some r.column_type t (same_Some (Some r.column_type) (Some t) e))
      by false present false n is_n e = absurd (none-some t (same_Some None (Some t) e))
      by false present true true is_n e = by_free (free_number_type values) refl e
        where
          by_free : (free : Option ColumnType) → free_number_type values ≡ free → as_there free ≡ Some (Some t)
              → SuitsType t rows (places_of merge)
          by_free None free e = absurd (none-some (Some t) e)
          by_free (Some x) free e =
              inr (
                All-from_recursion (λ (s : TableRow). HasNumbers s.column) rows
                    (all_numbers r.column_type is_n rows typed kinds),
                holds values t (free ∙ same_Some (Some x) (Some t) e),
              )
      by false present true false is_n e =
          same (one_type r.column_type is_n rows kinds)
          (same_Some r.column_type t (same_Some (Some r.column_type) (Some t) e))

  pub suits : SuitsType t rows (places_of merge)
  suits = by_rows rows refl some
    where
      by_rows : (rs : List TableRow) → rows ≡ rs → 0 < length rs → SuitsType t rows (places_of merge)
      by_rows [] is lt = absurd (omega (arith, lt))
      by_rows (r ∷ rest) is lt = by_first r rest is

  -- where it is none of numbers, all rows have it
  pub of_type : ((vs : List (List ColumnValue)) → HoldsAll t vs → ⊥) → All (λ r. HasType t r.column) rows
  of_type not_held = by suits
    where
      by : SuitsType t rows (places_of merge) → All (λ r. HasType t r.column) rows
      by (inl same) = same
      by (inr other) = absurd (not_held values other.1)

-- a decided type is of the kind of the first row
free_kind : (values : List (List ColumnValue)) (t : ColumnType) → free_number_type values ≡ Some t → kind_of t ≡ 0
free_kind values t is = by (list_all (list_all fits_i64) values) (list_all (list_all is_not_negative) values) is
  where
    by : (a b : Bool) → (if a then Some I64 else (if b then Some U64 else None)) ≡ Some t → kind_of t ≡ 0
    by true b e = ap kind_of (sym (same_Some I64 t e))
    by false true e = ap kind_of (sym (same_Some U64 t e))
    by false false e = absurd (none-some t e)

number_kind : (t : ColumnType) → is_number t ≡ true → kind_of t ≡ 0
number_kind I64 n = refl
number_kind U64 n = refl
number_kind _ n = absurd (false≢true n)

pub kind_decided : (r : TableRow) (rest : List TableRow) (values : List (List ColumnValue)) (t : ColumnType)
    → merged_type (map row_of (r ∷ rest)) values ≡ Some (Some t) → kind_of t ≡ kind_of r.column_type
kind_decided r rest values t told = by (is_absent (column_in r.column)) (list_any is_filled values)
    (is_number r.column_type) refl told
  where
    by : (a f n : Bool) → is_number r.column_type ≡ n
        → (if a then Some (Some r.column_type)
        else (if f then (if n then as_there (free_number_type values) else Some (Some r.column_type)) else Some None))
        ≡ Some (Some t) → kind_of t ≡ kind_of r.column_type
    by true f n is_n e = ap kind_of (sym (same_Some r.column_type t (same_Some (Some r.column_type) (Some t) e)))
    by false false n is_n e = absurd (none-some t (same_Some None (Some t) e))
    by false true true is_n e = by_free (free_number_type values) refl e
      where
        by_free : (free : Option ColumnType) → free_number_type values ≡ free → as_there free ≡ Some (Some t)
            → kind_of t ≡ kind_of r.column_type
        by_free None free e = absurd (none-some (Some t) e)
        by_free (Some y) free e =
            free_kind values t (free ∙ same_Some (Some y) (Some t) e) ∙ sym (number_kind r.column_type is_n)
    by false true false is_n e = ap kind_of (sym
        (same_Some r.column_type t (same_Some (Some r.column_type) (Some t) e)))

pub number_type : (t : ColumnType) → (t ≡ Str → ⊥) → (t ≡ Bytes → ⊥) → (t ≡ IpAddr → ⊥) → IsNumberType t
number_type I64 s b i = tt
number_type U64 s b i = tt
number_type Boolean s b i = tt
number_type DateTime s b i = tt
number_type Str s b i = absurd (s refl)
number_type Bytes s b i = absurd (b refl)
number_type IpAddr s b i = absurd (i refl)

-- ---- the file

entries_more : (before : ℕ) (columns : List WrittenColumn) (c : WrittenColumn)
    → entries_bytes before (columns ++ c ∷ [])
    ≡ entries_bytes before columns ++ entry_bytes (before + length (data_bytes columns) + length c.bytes) c.path c.type
entries_more before [] c =
    append-nil (entry_bytes (before + length c.bytes) c.path c.type)
    ∙ ap (λ (n : ℕ). entry_bytes n c.path c.type) (omega arith)
entries_more before (d ∷ ds) c =
    let sum : before + length d.bytes + length (data_bytes ds) + length c.bytes
    ≡ before + length (data_bytes (d ∷ ds)) + length c.bytes =
    omega (arith, length-append d.bytes (data_bytes ds)) in
    ap (λ (l : List ℕ). entry_bytes (before + length d.bytes) d.path d.type ++ l)
    (entries_more (before + length d.bytes) ds c
    ∙ ap (λ (n : ℕ). entries_bytes (before + length d.bytes) ds ++ entry_bytes n c.path c.type) sum)
    ∙ sym (append_assoc (entry_bytes (before + length d.bytes) d.path d.type)
    (entries_bytes (before + length d.bytes) ds)
    (entry_bytes (before + length (data_bytes (d ∷ ds)) + length c.bytes) c.path c.type))

many_more : (columns : List WrittenColumn) (c : WrittenColumn) → length (columns ++ c ∷ []) ≡ length columns + 1
many_more columns c = length-append columns (c ∷ [])

pub file_more : (columns : List WrittenColumn) (path : List ℕ) (type : ColumnType) (bytes : List ℕ)
    (old middle new : MergedFile) → IsFileOf columns old → middle.bytes.items ≡ old.bytes.items ++ bytes
    → middle.entries.items ≡ old.entries.items → middle.count ≡ old.count → AddsEntry path type middle new
    → IsFileOf (columns ++ record { path = path; type = type; bytes = bytes } ∷ []) new
file_more columns path type bytes old middle new is added same counted adds =
    let c : WrittenColumn = record { path = path; type = type; bytes = bytes } in
    let whole : middle.bytes.items ≡ data_bytes columns ++ bytes = added ∙ ap (λ (l : List ℕ). l ++ bytes) is.bytes in
    let end : length middle.bytes.items ≡ 0 + length (data_bytes columns) + length bytes =
    ap length whole ∙ length-append (data_bytes columns) bytes ∙ omega arith in
    record {
      bytes = adds.bytes ∙ whole ∙ sym (data_more columns c);
      entries = adds.entries
          ∙ (λ j. (same ∙ is.entries) j ++ entry_bytes (end j) path type)
          ∙ sym (entries_more 0 columns c);
      count = adds.count ∙ ap (λ (n : ℕ). n + 1) (counted ∙ is.count) ∙ sym (many_more columns c);
    }

pub whole_file : (columns : List WrittenColumn) (file : MergedFile) (rows : ℕ) (entries new : List ℕ)
    → IsFileOf columns file → entries ≡ file.entries.items
    → new ≡ file.bytes.items ++ ((to_le_bytes w64 file.count ++ entries) ++ footer_bytes (8 + length entries) rows)
    → new ≡ file_bytes rows columns
unfolding file_bytes table_bytes
whole_file columns file rows entries new is same added =
    let listed : entries ≡ entries_bytes 0 columns = same ∙ is.entries in
    let eight : length (to_le_bytes w64 (length columns)) ≡ 8 = refl in
    let long : 8 + length (entries_bytes 0 columns)
    ≡ length (to_le_bytes w64 (length columns) ++ entries_bytes 0 columns) =
    omega (arith, length-append (to_le_bytes w64 (length columns)) (entries_bytes 0 columns), eight) in
    added
    ∙ (λ j. is.bytes j ++ ((to_le_bytes w64 (is.count j) ++ listed j) ++ footer_bytes (8 + length (listed j)) rows))
    ∙ ap (λ (n : ℕ). data_bytes columns
    ++ ((to_le_bytes w64 (length columns) ++ entries_bytes 0 columns) ++ footer_bytes n rows)) long
