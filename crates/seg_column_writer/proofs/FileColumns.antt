-- A file of columns, one more of them, and the whole.
use Rattle.std.proofs.Common.{◌≡◌, ℕ, ◌+◌, ◌<◌, ◌^◌, List, [], ◌∷◌, ◌++◌, length, map, take, get_or, refl, sym, ap, subst, ◌∙◌, arith, append-nil}
use Rattle.std.specs.Int.{w64, to_le_bytes}
use Rattle.std.specs.List.{AllByRecursion}
use Rattle.std.proofs.lemmas.List.{length-append, length-map, map-append, take_more}
use Rattle.std.proofs.lemmas.List.Concat.{flat_map-append}
use Rattle.seg_common.proofs.Lists.{all_push}
use Rattle.seg_common.specs.declared.column_type.ColumnType.TheVariants as types
use Rattle.seg_model.specs.Columns.{ColumnKey, ColumnValue}
use Rattle.seg_column_file.specs.ColumnFiles.{ColumnFile, IsColumnFile, NamedColumn, columns_from, row_count}
use Rattle.seg_column_format.specs.FileBytes.{AreColumns, AreInOrder, IsWritten, WrittenColumn, data_bytes, entries_bytes, entry_bytes, file_bytes, footer_bytes, read_column, table_bytes}
use Rattle.seg_column_writer.specs.FiledColumns.{AddsEntry, AreFiled, FiledColumn, IsFiled, written}
use Rattle.seg_column_format.specs.ModelColumns.{column_key, column_rows}
use Rattle.seg_column_writer.specs.NamedColumns.{PathKind}
use Rattle.seg_column_writer.specs.ColumnRecords.{Recording}
use Rattle.seg_column_writer.specs.TypedColumns.{AreTyped, IsFileOf, IsTyped, entry_at, in_table, path_in}
use Rattle.seg_column_writer.specs.declared.typed_column.TypedColumn.{TypedColumn}
use Rattle.seg_column_format.proofs.FileRoundTrips.{file_read, is_file}
use Rattle.seg_column_format.proofs.TableRoundTrips.{entries-append}
use Rattle.seg_column_format.proofs.Exports.{type_read}

abbrev typed_of : FiledColumn → TypedColumn
typed_of c = c.typed

abbrev Keyed : Type 0
Keyed = ColumnKey × List (List ColumnValue)

abbrev keyed : NamedColumn → Keyed
keyed c = (column_key c, column_rows c.stored.column)

pub data_more : (columns : List WrittenColumn) (c : WrittenColumn)
    → data_bytes (columns ++ c ∷ []) ≡ data_bytes columns ++ c.bytes
data_more columns c =
    flat_map-append (λ (d : WrittenColumn). d.bytes) columns (c ∷ [])
    ∙ ap (λ (l : List ℕ). data_bytes columns ++ l) (append-nil c.bytes)

module _ (count : ℕ) (names : List PathKind) (columns : List Recording) where
  abbrev all_written : List FiledColumn → List WrittenColumn
  all_written fs = map (written names) fs

  module _ (typed : List TypedColumn) (i : ℕ) (d : TypedColumn) (lt : i < length typed) (out entries new listed : List ℕ)
      (so_far : AreFiled count names columns (take i typed) out entries)
      (adds : AddsEntry count names columns (get_or typed i d) out entries new listed) where
    abbrev next : FiledColumn
    next = record { typed = get_or typed i d; bytes = adds.bytes }

    abbrev before : List WrittenColumn
    before = all_written so_far.filed

    after : all_written (so_far.filed ++ next ∷ []) ≡ before ++ written names next ∷ []
    after = map-append (written names) so_far.filed (next ∷ [])

    new_is : new ≡ data_bytes before ++ adds.bytes
    new_is = adds.bytes_are ∙ ap (λ (l : List ℕ). l ++ adds.bytes) so_far.bytes_are

    listed_is : listed ≡ entries_bytes 0 (before ++ written names next ∷ [])
    listed_is =
        let end : length new ≡ 0 + length (data_bytes before) + length adds.bytes =
        omega (arith, ap length new_is, length-append (data_bytes before) adds.bytes) in
        adds.entry
        ∙ (λ j. so_far.table j
        ++ sym (append-nil (entry_bytes (end j) (path_in names (get_or typed i d).place) (get_or typed i d).column_type)) j)
        ∙ sym (entries-append 0 before (written names next ∷ []))

    pub filed_more : AreFiled count names columns (take (i + 1) typed) new listed
    filed_more = record {
      filed = so_far.filed ++ next ∷ [];
      are = map-append typed_of so_far.filed (next ∷ [])
          ∙ ap (λ (l : List TypedColumn). l ++ get_or typed i d ∷ []) so_far.are ∙ sym (take_more typed i d lt);
      each = all_push (IsFiled count columns) so_far.filed next so_far.each adds.are;
      bytes_are = new_is ∙ sym (data_more before (written names next)) ∙ ap data_bytes (sym after);
      table = listed_is ∙ ap (entries_bytes 0) (sym after);
    }

  -- ---- the whole

  each_written : (fs : List FiledColumn) → AllByRecursion (IsFiled count columns) fs
      → AllByRecursion (IsTyped count names columns) (map typed_of fs)
      → AllByRecursion (IsWritten count) (all_written fs)
  each_written [] filed typed = tt
  each_written (f ∷ fs) filed typed =
      (record { utf8 = typed.0.utf8; column = filed.0.column }, each_written fs filed.1 typed.1)

  in_order : (fs : List FiledColumn) → AreInOrder (map (in_table names) (map typed_of fs))
      → AreInOrder (all_written fs)
  in_order [] order = tt
  in_order (f ∷ []) order = tt
  in_order (f ∷ g ∷ fs) order = (order.0, in_order (g ∷ fs) order.1)

  each_entry : (fs : List FiledColumn) → AllByRecursion (IsFiled count columns) fs
      → map keyed (map (read_column count) (all_written fs)) ≡ map (entry_at count names columns) (map typed_of fs)
  each_entry [] filed = refl
  each_entry (f ∷ fs) filed = λ j. (
    record {
      path = path_in names f.typed.place;
      type = type_read f.typed.column_type count f.bytes j;
    },
    filed.0.rows j,
  )
      ∷ each_entry fs filed.1 j

  module _ (typed : List TypedColumn) (are : AreTyped count names columns typed) (few : count < 2 ^ 32)
      (out entries shown bytes : List ℕ) (short : length bytes < 2 ^ 64)
      (all : AreFiled count names columns typed out entries) (same : shown ≡ entries)
      (put : bytes ≡ out ++ ((to_le_bytes w64 (length typed) ++ shown) ++ footer_bytes (8 + length shown) count)) where
    abbrev columns_written : List WrittenColumn
    columns_written = all_written all.filed

    many : length typed ≡ length columns_written
    many = ap length (sym all.are) ∙ length-map all.filed typed_of ∙ sym (length-map all.filed (written names))

    size : 8 + length shown ≡ length (to_le_bytes w64 (length columns_written) ++ entries_bytes 0 columns_written)
    size =
        let eight : length (to_le_bytes w64 (length columns_written)) ≡ 8 = refl in
        omega (
          arith,
          length-append (to_le_bytes w64 (length columns_written)) (entries_bytes 0 columns_written),
          eight,
          ap length (same ∙ all.table),
        )

    is_bytes : bytes ≡ file_bytes count columns_written
    unfolding file_bytes table_bytes
    is_bytes =
        put
        ∙ (λ j. all.bytes_are j ++ ((to_le_bytes w64 (many j) ++ (same ∙ all.table) j) ++ footer_bytes (size j) count))

    are_columns : AreColumns count columns_written
    are_columns = record {
      each = each_written all.filed all.each (subst (AllByRecursion (IsTyped count names columns)) (sym all.are) are.each);
      order = in_order all.filed
          (subst (λ (l : List TypedColumn). AreInOrder (map (in_table names) l)) (sym all.are) are.order);
    }

    short_file : length (file_bytes count columns_written) < 2 ^ 64
    short_file = subst (λ (l : List ℕ). length l < 2 ^ 64) is_bytes short

    pub filed_file : IsFileOf count (map (entry_at count names columns) typed) bytes
    filed_file =
        let read = file_read count columns_written are_columns few short_file in
        record {
          file = subst IsColumnFile (sym is_bytes)
              (is_file count columns_written are_columns few short_file);
          rows = ap row_count is_bytes ∙ ap (λ (f : ColumnFile). f.rows) read;
          columns = ap (λ (l : List ℕ). map keyed (columns_from l 0)) is_bytes
              ∙ ap (λ (f : ColumnFile). map keyed f.columns) read ∙ each_entry all.filed all.each
              ∙ ap (map (entry_at count names columns)) all.are;
        }
