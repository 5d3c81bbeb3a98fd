-- A file whose groups were all put is the merged one.
use Rattle.std.proofs.Common.{◌≡◌, ℕ, zero, suc, ◌<◌, ◌≤◌, ◌^◌, Bool, true, false, cond, List, [], ◌∷◌, length, map, take, get_or, Some, None, refl, sym, ap, subst, ◌∙◌, arith}
use Rattle.std.specs.FinMap.{from_entries, get, get-from_entries}
use Rattle.std.specs.List.{list_any}
use Rattle.std.proofs.lemmas.Bool.{false≢true}
use Rattle.std.proofs.lemmas.List.{take_all}
use Rattle.std.proofs.lemmas.List.Sorted.{list_any-IsPermutation}
use Rattle.seg_common.proofs.Lists.{list_any-map, filter-none, map-map}
use Rattle.seg_model.proofs.Exports.{column_cmp_total, no_column, not_mixed}
use Rattle.seg_model.specs.Columns.{ColumnKey, ColumnValue, Columns, is_declared, is_filled}
use Rattle.seg_column_file.specs.ColumnFiles.{ColumnFile, IsColumnFile, NamedColumn, column_file_of}
use Rattle.seg_columns.specs.declared.error.ColumnError.{ColumnError}
use Rattle.seg_columns.specs.declared.error.ColumnError.TheVariants.{Mixed, Malformed, OutOfMemory}
use Rattle.seg_column_format.proofs.FileRoundTrips.{file_read, is_file}
use Rattle.seg_column_format.specs.FileBytes.{AreColumns, file_bytes, read_column}
use Rattle.seg_column_format.specs.ModelColumns.{column_key, column_rows, columns_in}
use Rattle.seg_column_merge.specs.Cells.{cells, is_of, is_required, rows_with}
use Rattle.seg_column_merge.specs.MergedBytes.{IsMerge, places_of}
use Rattle.seg_column_merge.specs.MergedColumns.{IsMerged, MergeFails, merged_columns, required_key, rows_at}
use Rattle.seg_column_merge.specs.MergedFiles.{IsFileOf}
use Rattle.seg_column_merge.specs.MergedGroups.{IsCut, IsTableOf, NextFails, SoFar, covers, entries_in, found_at, mixed_at}
use Rattle.seg_column_file.specs.RowOrders.{Place}
use Rattle.seg_column_merge_parts.specs.Tables.{Row, all_rows, kind_of, row_of}
use Rattle.seg_column_merge.specs.declared.merge.Merge.{Merge}
use Rattle.seg_column_merge.specs.declared.merged_file.MergedFile.{MergedFile}
use Rattle.seg_column_merge_parts.specs.declared.tables.TableRow.{TableRow}
use Rattle.seg_column_merge.proofs.MergedCells.{rows_are}
use Rattle.seg_column_merge.proofs.CompletedColumns.{columns_are, columns_undefined}
use Rattle.seg_column_merge.proofs.PutGroups.{key_mixed, their_key}
use Rattle.seg_column_merge.proofs.RequiredColumns.{declared_is}

empty_cells : (places : List Place) → list_any is_filled (cells [] places) ≡ false
empty_cells [] = refl
empty_cells (p ∷ ps) = empty_cells ps

-- a row at a place
pub there_is : (xs : List TableRow) (i : ℕ) → i < length xs → (x : TableRow) × (x ≡ get_or xs i x)
there_is [] i lt = absurd (omega (arith, lt))
there_is (x ∷ xs) zero lt = (x, refl)
there_is (x ∷ xs) (suc i) lt = there_is xs i (omega (arith, lt))

module _ (merge : Merge) (is_merge : IsMerge merge) (table : List TableRow)
    (of : IsTableOf merge.required.now merge.columnars.now table) where
  abbrev all : List Row
  all = all_rows merge.required.now merge.columnars.now

  -- ---- before the first group

  pub nothing_yet : (file : MergedFile) → IsFileOf [] file → SoFar merge table 0 file
  nothing_yet file is = record {
    columns = [];
    is = is;
    each = tt;
    order = tt;
    below = λ d some. tt;
    found = λ q. refl;
    clear = λ q e. absurd (false≢true e);
    cut = record { below = λ k d lt more. absurd (omega (arith, lt)) };
  }

  -- ---- after the last one

  module _ (q : ColumnKey) (uncovered : covers table q ≡ false) where
    no_rows : rows_with q.path (kind_of q.type) all ≡ []
    no_rows = filter-none (is_of q.path (kind_of q.type)) all
        (ap (list_any (is_of q.path (kind_of q.type))) (sym of.rows)
        ∙ list_any-map (is_of q.path (kind_of q.type)) row_of of.old
        ∙ list_any-IsPermutation (λ r. is_of q.path (kind_of q.type) (row_of r)) of.old table of.permutation
        ∙ uncovered)

    undeclared : is_declared (map required_key merge.required.now) q ≡ false
    undeclared = declared_is q merge.required.now merge.columnars.now ∙ ap (list_any (is_required q.type)) no_rows

    empty : list_any is_filled (rows_at merge.columnars.now (places_of merge) q) ≡ false
    empty =
        ap (list_any is_filled) (rows_are q merge.required.now merge.columnars.now (places_of merge)
        ∙ ap (λ (rs : List Row). cells rs (places_of merge)) no_rows)
        ∙ empty_cells (places_of merge)

    none_there : found_at merge q ≡ None
    none_there = no_column (map required_key merge.required.now) q (rows_at merge.columnars.now (places_of merge) q) undeclared empty

    none_mixed : mixed_at merge q ≡ false
    none_mixed = not_mixed (map required_key merge.required.now) q (rows_at merge.columnars.now (places_of merge) q) empty

  module _ (start : ℕ) (past : length table ≤ start) (file : MergedFile) (so_far : SoFar merge table start file) where
    whole : (q : ColumnKey) → covers (take start table) q ≡ covers table q
    whole q = ap (λ (rs : List TableRow). covers rs q) (take_all start table past)

    unmixed : (q : ColumnKey) → mixed_at merge q ≡ false
    unmixed q = by (covers table q) refl
      where
        by : (b : Bool) → covers table q ≡ b → mixed_at merge q ≡ false
        by true e = so_far.clear q (whole q ∙ e)
        by false e = none_mixed q e

    abbrev many : ℕ
    many = length (places_of merge)

    abbrev entries : List (ColumnKey × List (List ColumnValue))
    entries = entries_in many so_far.columns

    abbrev columns_put : Columns
    columns_put = from_entries entries

    gets : (q : ColumnKey) → get columns_put q ≡ found_at merge q
    gets q = get-from_entries column_cmp_total entries q ∙ so_far.found q
        ∙ ap (λ (b : Bool). cond b (found_at merge q) None) (whole q) ∙ by (covers table q) refl
      where
        by : (b : Bool) → covers table q ≡ b → cond b (found_at merge q) None ≡ found_at merge q
        by true e = refl
        by false e = sym (none_there q e)

    are_columns : AreColumns many so_far.columns
    are_columns = record { each = so_far.each; order = so_far.order }

    pub merged : (bytes : List ℕ) → bytes ≡ file_bytes many so_far.columns → length bytes < 2 ^ 64
        → IsMerged (map required_key merge.required.now) merge.columnars.now (places_of merge) bytes
    merged bytes is short =
        let short' : length (file_bytes many so_far.columns) < 2 ^ 64 =
        subst (λ (l : List ℕ). length l < 2 ^ 64) is short in
        let read : column_file_of bytes ≡ record { rows = many; columns = map (read_column many) so_far.columns } =
        ap column_file_of is ∙ file_read many so_far.columns are_columns is_merge.can.few short' in
        let same : columns_put ≡ columns_in (column_file_of bytes) =
        ap from_entries (sym (map-map (read_column many)
        (λ (c : NamedColumn). (column_key c, column_rows (c.stored).column))
        so_far.columns))
        ∙ sym (ap columns_in read) in
        record {
          file = subst IsColumnFile (sym is) (is_file many so_far.columns are_columns is_merge.can.few short');
          rows = ap (λ (f : ColumnFile). f.rows) read;
          columns =
              columns_are merge.required.now merge.columnars.now (places_of merge) unmixed columns_put gets
              ∙ ap Some same;
        }

  -- ---- why it fails

  pub fails : (start : ℕ) (x : TableRow) → start < length table → x ≡ get_or table start x → IsCut table start
      → (e : ColumnError) → NextFails merge table start e
      → MergeFails (merged_columns (map required_key merge.required.now) merge.columnars.now (places_of merge)) e
  fails start x there first cut Mixed why =
      columns_undefined merge.required.now merge.columnars.now (places_of merge)
      (their_key merge is_merge table of start why.0 x there first why.1 cut)
      (key_mixed merge is_merge table of start why.0 x there first why.1 cut why.2)
  fails start x there first cut Malformed why = absurd why
  fails start x there first cut OutOfMemory why = tt
