-- A file of columns is read back from its bytes.
use Rattle.std.proofs.Common.{◌≡◌, ℕ, ◌+◌, ◌-◌, ◌^◌, ◌<◌, ◌≤◌, List, [], ◌++◌, length, map, take, drop, get_or, slice_range, refl, sym, ap, subst, ◌∙◌, arith, append_assoc}
use Rattle.std.specs.List.{range_with_len}
use Rattle.std.specs.Int.{w32, w64, to_le_bytes}
use Rattle.std.proofs.lemmas.List.{get_or-map, length-append, length-map, take_all}
use Rattle.std.proofs.lemmas.List.FromFn.{fill_by_all}
use Rattle.seg_common.specs.LittleEndian.{u32_at, u64_at}
use Rattle.seg_common.proofs.Bytes.{u32_at-end, u32_at-written, u64_at-written}
use Rattle.seg_common.proofs.Lists.{all_at}
use Rattle.seg_columns.specs.DynamicColumns.{IsColumnOf, stored_column}
use Rattle.seg_column_file.specs.ColumnTable.{AreEntries, code_in, column_start, path_in, place_of, type_of_code}
use Rattle.seg_column_file.specs.ColumnFiles.{HasFooter, HoldsColumns, IsColumnFile, column_bytes, column_count, column_file_of, columns_from, data_length, named_column, row_count, table_length, table_of}
use Rattle.seg_column_format.specs.FileBytes.{AreColumns, IsWritten, WrittenColumn, data_bytes, entries_bytes, file_bytes, footer_bytes, read_column, table_bytes}
use Rattle.seg_column_format.proofs.EntryRoundTrips.{type_read}
use Rattle.seg_column_format.proofs.PartEnds.{range_of}
use Rattle.seg_column_format.proofs.TableRoundTrips.{are_entries, code_at, data_split, end, few_columns, is_table, nothing, path_at, place_at, start, start-next, start_at}

-- ---- the whole

module _ (rows : ℕ) (columns : List WrittenColumn) (are : AreColumns rows columns) (few : rows < 2 ^ 32)
    (short : length (file_bytes rows columns) < 2 ^ 64) where
  abbrev content : List ℕ
  content = data_bytes columns

  abbrev listed : List ℕ
  listed = table_bytes columns

  abbrev footer : List ℕ
  footer = footer_bytes (length listed) rows

  abbrev bytes : List ℕ
  bytes = content ++ (listed ++ footer)

  is_bytes : file_bytes rows columns ≡ bytes
  unfolding file_bytes
  is_bytes = refl

  size : length bytes ≡ length content + length listed + 16
  size =
      let sixteen : length footer ≡ 16 = refl in
      omega (arith, length-append content (listed ++ footer), length-append listed footer, sixteen)

  short_whole : length bytes < 2 ^ 64
  short_whole = subst (λ (l : List ℕ). length l < 2 ^ 64) is_bytes short

  short_table : length listed < 2 ^ 64
  short_table = omega (arith, short_whole, size)

  few_bytes : length content < 2 ^ 64
  few_bytes = omega (arith, short_whole, size)

  from_footer : bytes ≡ (content ++ listed) ++ footer
  from_footer = sym (append_assoc content listed footer)

  before_footer : length (content ++ listed) ≡ length bytes - 16
  before_footer = omega (arith, length-append content listed, size)

  from_rows : bytes
      ≡ ((content ++ listed) ++ to_le_bytes w64 (length listed)) ++ (to_le_bytes w32 rows ++ to_le_bytes w32 1)
  from_rows =
      from_footer ∙ sym (append_assoc (content ++ listed) (to_le_bytes w64 (length listed))
      (to_le_bytes w32 rows ++ to_le_bytes w32 1))

  before_rows : length ((content ++ listed) ++ to_le_bytes w64 (length listed)) ≡ length bytes - 8
  before_rows =
      let eight : length (to_le_bytes w64 (length listed)) ≡ 8 = refl in
      omega (arith, length-append (content ++ listed) (to_le_bytes w64 (length listed)), eight, before_footer, size)

  from_version : bytes
      ≡ (((content ++ listed) ++ to_le_bytes w64 (length listed)) ++ to_le_bytes w32 rows) ++ to_le_bytes w32 1
  from_version =
      from_rows ∙ sym (append_assoc ((content ++ listed) ++ to_le_bytes w64 (length listed)) (to_le_bytes w32 rows)
      (to_le_bytes w32 1))

  before_version : length (((content ++ listed) ++ to_le_bytes w64 (length listed)) ++ to_le_bytes w32 rows)
      ≡ length bytes - 4
  before_version =
      let four : length (to_le_bytes w32 rows) ≡ 4 = refl in
      omega (
        arith,
        length-append ((content ++ listed) ++ to_le_bytes w64 (length listed)) (to_le_bytes w32 rows),
        four,
        before_rows,
        size,
      )

  length_read : table_length bytes ≡ length listed
  length_read =
      ap (λ (l : List ℕ). u64_at l (length bytes - 16)) from_footer
      ∙ u64_at-written (content ++ listed) (to_le_bytes w32 rows ++ to_le_bytes w32 1) (length listed)
      (length bytes - 16)
      short_table before_footer

  rows_at : row_count bytes ≡ rows
  rows_at =
      ap (λ (l : List ℕ). u32_at l (length bytes - 8)) from_rows
      ∙ u32_at-written ((content ++ listed) ++ to_le_bytes w64 (length listed)) (to_le_bytes w32 1) rows
      (length bytes - 8) few before_rows

  version_read : u32_at bytes (length bytes - 4) ≡ 1
  version_read =
      ap (λ (l : List ℕ). u32_at l (length bytes - 4)) from_version
      ∙ u32_at-end (((content ++ listed) ++ to_le_bytes w64 (length listed)) ++ to_le_bytes w32 rows) 1
      (length bytes - 4) (omega arith) before_version

  data_read : data_length bytes ≡ length content
  data_read = omega (arith, length_read, size)

  table_read : table_of bytes ≡ listed
  table_read =
      range_of content listed footer (data_length bytes) (length bytes - 16) (sym data_read)
      (omega (arith, data_read, size))

  table_is : table_of bytes ≡ to_le_bytes w64 (length columns) ++ entries_bytes 0 columns
  table_is = table_read ∙ is_table columns short_table few_bytes

  counted : column_count bytes ≡ length columns
  counted =
      let some : length columns < 2 ^ 64 = few_columns columns short_table few_bytes in
      ap (λ (l : List ℕ). u64_at l 0) table_is
      ∙ u64_at-written [] (entries_bytes 0 columns) (length columns) 0 some refl

  table_counted : 8 ≤ length listed
  table_counted =
      let eight : length (to_le_bytes w64 (length columns)) ≡ 8 = refl in
      omega (
        arith,
        ap length (is_table columns short_table few_bytes),
        eight,
        length-append (to_le_bytes w64 (length columns)) (entries_bytes 0 columns),
      )

  has_footer : HasFooter bytes
  has_footer = record {
    room = omega (arith, size, table_counted);
    version = version_read;
    counted = omega (arith, length_read, table_counted);
    within = omega (arith, length_read, size);
  }

  -- ---- the columns

  start_is : (k : ℕ) → k ≤ length columns → column_start (table_of bytes) k ≡ start columns short_table few_bytes k
  start_is k le =
      ap (λ (l : List ℕ). column_start l k) table_is ∙ start_at columns short_table few_bytes k le

  next_start : (k : ℕ) → k < length columns
      → column_start (table_of bytes) (k + 1) ≡ end columns short_table few_bytes k
  next_start k lt = start_is (k + 1) (omega (arith, lt)) ∙ start-next columns short_table few_bytes k lt

  type_is : (k : ℕ) → k < length columns → type_of_code (code_in (table_of bytes) (place_of (table_of bytes) k))
      ≡ (get_or columns k nothing).type
  type_is k lt =
      (λ j. type_of_code (code_in (table_is j) (place_of (table_is j) k)))
      ∙ ap (λ (n : ℕ). type_of_code (code_in (to_le_bytes w64 (length columns) ++ entries_bytes 0 columns) n))
      (place_at columns short_table few_bytes k (omega (arith, lt)))
      ∙ ap type_of_code (code_at columns short_table few_bytes k lt) ∙ type_read (get_or columns k nothing).type

  path_is : (k : ℕ) → k < length columns → path_in (table_of bytes) (place_of (table_of bytes) k)
      ≡ (get_or columns k nothing).path
  path_is k lt =
      (λ j. path_in (table_is j) (place_of (table_is j) k))
      ∙ ap (path_in (to_le_bytes w64 (length columns) ++ entries_bytes 0 columns))
      (place_at columns short_table few_bytes k (omega (arith, lt)))
      ∙ path_at columns short_table few_bytes k lt

  piece : (k : ℕ) → k < length columns → column_bytes bytes (table_of bytes) k ≡ (get_or columns k nothing).bytes
  unfolding column_bytes
  piece k lt =
      let here : List ℕ = (get_or columns k nothing).bytes in
      let before : List ℕ = data_bytes (take k columns) in
      let after : List ℕ = data_bytes (drop (k + 1) columns) in
      let split : bytes ≡ before ++ (here ++ (after ++ (listed ++ footer))) =
      ap (λ (l : List ℕ). l ++ (listed ++ footer)) (data_split columns short_table few_bytes k lt)
      ∙ append_assoc before (here ++ after) (listed ++ footer)
      ∙ ap (λ (l : List ℕ). before ++ l) (append_assoc here after (listed ++ footer)) in
      (λ j. slice_range (split j) (start_is k (omega (arith, lt)) j) (next_start k lt j))
      ∙ range_of before here (after ++ (listed ++ footer)) (length before) (length before + length here) refl refl

  holds : HoldsColumns bytes (table_of bytes) (column_count bytes) (data_length bytes) (row_count bytes)
  holds = record {
    rise = λ k lt.
        let within : k < length columns = omega (arith, lt, counted) in
        omega (arith, start_is k (omega (arith, within)), next_start k within);
    fill =
        let all : take (length columns) columns ≡ columns = take_all (length columns) columns (omega arith) in
        ap (column_start (table_of bytes)) counted ∙ start_is (length columns) (omega arith)
        ∙ ap (λ (l : List WrittenColumn). length (data_bytes l)) all ∙ sym data_read;
    columns = λ k lt.
        let within : k < length columns = omega (arith, lt, counted) in
        subst (λ (X : Type 0). X) (sym (λ j. IsColumnOf (type_is k within j) (rows_at j) (piece k within j)))
        (all_at (IsWritten rows) columns k nothing are.each within).column;
  }

  pub is_file : IsColumnFile (file_bytes rows columns)
  is_file = subst IsColumnFile (sym is_bytes) (record {
    footer = has_footer;
    entries = subst (λ (X : Type 0). X) (sym (λ j. AreEntries (table_is j) (counted j)))
        (are_entries columns short_table few_bytes rows are);
    columns = holds;
  })

  named : (k : ℕ) → k < length columns → get_or (map (read_column rows) columns) k (read_column rows nothing)
      ≡ named_column bytes (table_of bytes) (row_count bytes) k
  unfolding named_column
  named k lt =
      get_or-map (read_column rows) columns k nothing (read_column rows nothing) lt
      ∙ sym (λ j. record {
        path = path_is k lt j;
        stored = stored_column (type_is k lt j) (rows_at j) (piece k lt j);
      })

  columns_read : columns_from bytes 0 ≡ map (read_column rows) columns
  unfolding columns_from
  columns_read =
      let count : column_count bytes - 0 ≡ length columns = omega (arith, counted) in
      ap (λ (n : ℕ). map (named_column bytes (table_of bytes) (row_count bytes)) (range_with_len 0 n)) count
      ∙ sym (fill_by_all (named_column bytes (table_of bytes) (row_count bytes)) (map (read_column rows) columns)
      (length columns) (read_column rows nothing) (length-map columns (read_column rows)) named)

  -- what a file reads as
  pub file_read : column_file_of (file_bytes rows columns)
      ≡ record { rows = rows; columns = map (read_column rows) columns }
  file_read = ap column_file_of is_bytes ∙ (λ j. record { rows = rows_at j; columns = columns_read j })
