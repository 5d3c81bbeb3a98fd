-- The columns of all that documents recorded are the model's.
use Rattle.std.proofs.Common.{◌≡◌, ℕ, suc, ◌+◌, Bool, true, false, cond, List, [], ◌∷◌, ◌++◌, length, map, filter, refl, sym, ap, ◌∙◌}
use Rattle.std.specs.Prelude.{◌&&◌, ◌||◌, nat_eq}
use Rattle.std.specs.List.{AllByRecursion, flat_map, list_any, range_with_len}
use Rattle.std.specs.Ordering.{eq_by_cmp}
use Rattle.std.specs.Cmp.Lexicographic.{bytes_decides}
use Rattle.std.proofs.lemmas.Bool.{false≢true}
use Rattle.std.proofs.lemmas.Bool.Decides.{Decides-eqb}
use Rattle.std.proofs.lemmas.List.Folds.{list_any-append}
use Rattle.seg_column_format.proofs.Exports.{Rows}
use Rattle.seg_common.proofs.TabulatedMaps.{first_false, second_false}
use Rattle.seg_common.specs.TabulatedMaps.{is_among}
use Rattle.seg_model.proofs.Exports.{IsNothingElse, covers, covers_documents, same_columns}
use Rattle.seg_model.specs.Columns.{ColumnKey, FastValue, column_cmp, columns_from, columns_of, is_filled, type_place, value_keys, values_at}
use Rattle.seg_column_writer.specs.DocumentRows.{AreArranged, arranged, sorts_at, with_rows}
use Rattle.seg_column_writer.specs.ValueKinds.{kind_of}
use Rattle.seg_column_writer.specs.RecordedColumns.{all_types, declared_in, keys_in, keys_with, recorded_columns, rows_at, rows_in}
use Rattle.seg_column_writer.specs.ColumnRecords.{ColumnRecord, is_named}
use Rattle.seg_column_writer.proofs.DocumentRows.{declared_rows, row_with_rows, rows_added, rows_are, rows_split, sorts_rows, values_of_row}
use Rattle.seg_column_writer.proofs.RecordedKeys.{key_eq, no_rows}
use Rattle.seg_column_writer.proofs.RowOrderedColumns.{named_path}
use Rattle.seg_column_writer.proofs.WholeFiles.{all_fail}

-- ---- where columns have nothing

pub column_keys : (count : ℕ) (cs : List ColumnRecord) → IsNothingElse (rows_at count cs) (keys_in cs)
column_keys count [] q none = no_rows 0 count
column_keys count (c ∷ cs) q none = by (is_named q.path (kind_of q.type) c) refl (column_keys count cs q)
  where
    parts : (is_among column_cmp (keys_with c.path all_types) q || is_among column_cmp (keys_in cs) q) ≡ false
    parts = sym (list_any-append (eq_by_cmp column_cmp q) (keys_with c.path all_types) (keys_in cs)) ∙ none

    by : (b : Bool) → is_named q.path (kind_of q.type) c ≡ b
        → (is_among column_cmp (keys_in cs) q ≡ false → list_any is_filled (rows_at count cs q) ≡ false)
        → list_any is_filled (cond b (rows_in count c.recording) (rows_at count cs q)) ≡ false
    by false is rest = rest (second_false (is_among column_cmp (keys_with c.path all_types) q) (is_among column_cmp (keys_in cs) q) parts)
    by true is rest =
        absurd (false≢true (sym (all_fail q c.path q.type
        (first_false (is_among column_cmp (keys_with c.path all_types) q) (is_among column_cmp (keys_in cs) q) parts))
        ∙ ap (λ (p : List ℕ). eq_by_cmp column_cmp q (record { path = p; type = q.type })) (named_path q.path (kind_of q.type) c is)
        ∙ itself))
      where
        itself : eq_by_cmp column_cmp q q ≡ true
        itself = key_eq q q ∙ (λ j. (bytes_decides q.path q.path).1 refl j
            && (Decides-eqb (type_place q.type) (type_place q.type)).1 refl j)

-- ---- the whole

-- columns in which there is nothing yet
abbrev pub AreEmpty : List ColumnRecord → Type 0
AreEmpty columns = AllByRecursion (λ c. c.recording.values ≡ []) columns

nothing_yet : (at : ℕ) (key : ColumnKey) (cs : List ColumnRecord) → AreEmpty cs → values_of_row at cs key ≡ []
nothing_yet at key [] empty = refl
nothing_yet at key (c ∷ cs) empty = by (is_named key.path (kind_of key.type) c) (nothing_yet at key cs empty.1)
  where
    by : (b : Bool) → values_of_row at cs key ≡ []
        → cond b (map (λ v. v.value) (filter (λ v. nat_eq v.row at) c.recording.values)) (values_of_row at cs key) ≡ []
    by true rest = ap (λ vs. map (λ v. v.value) (filter (λ v. nat_eq v.row at) vs)) empty.0
    by false rest = rest

pub same_length : (cs : List ColumnRecord) (rs ds : List (List FastValue)) → AreArranged cs rs ds → length ds ≡ length rs
same_length cs [] [] arranges = refl
same_length cs [] (d ∷ ds) arranges = absurd arranges
same_length cs (r ∷ rs) [] arranges = absurd arranges
same_length cs (r ∷ rs) (d ∷ ds) arranges = ap suc (same_length cs rs ds arranges.1)

same_rows : (cs : List ColumnRecord) (key : ColumnKey) (rs ds : List (List FastValue)) → AreArranged cs rs ds
    → map (λ r. arranged (sorts_at cs key) (values_at key r)) rs ≡ map (values_at key) ds
same_rows cs key [] [] arranges = refl
same_rows cs key [] (d ∷ ds) arranges = absurd arranges
same_rows cs key (r ∷ rs) [] arranges = absurd arranges
same_rows cs key (r ∷ rs) (d ∷ ds) arranges = λ j. sym (arranges.0 key) j ∷ same_rows cs key rs ds arranges.1 j

module _ (start : List ColumnRecord) (empty : AreEmpty start) (raws documents : List (List FastValue))
    (arranges : AreArranged start raws documents) where
  abbrev columns : List ColumnRecord
  columns = with_rows 0 raws start

  row_is : (key : ColumnKey) (at : ℕ) → arranged (sorts_at columns key) (values_of_row at columns key)
      ≡ arranged (sorts_at start key) (rows_added at key 0 raws)
  row_is key at =
      let vs = row_with_rows at key 0 raws start ∙ ap (λ l. l ++ rows_added at key 0 raws) (nothing_yet at key start empty) in
      λ j. arranged (sorts_rows key 0 raws start j) (vs j)

  rows_agree : (key : ColumnKey) → rows_at (length documents) columns key ≡ map (values_at key) documents
  rows_agree key =
      rows_split (length documents) key columns
      ∙ (λ j. map (λ (at : ℕ). row_is key at j) (range_with_len 0 (same_length start raws documents arranges j)))
      ∙ rows_are (arranged (sorts_at start key)) key 0 raws
      ∙ same_rows start key raws documents arranges

  -- what was recorded of documents, column by column and row by row, are their columns
  pub columns_of_documents : recorded_columns (length documents) columns ≡ columns_of (declared_in start) documents
  columns_of_documents =
      let at : ColumnKey → Rows = rows_at (length documents) columns in
      let d = declared_rows 0 raws start in
      (λ j. columns_from (d j) at (d j ++ keys_in columns))
      ∙ same_columns (declared_in start) at (λ k. map (values_at k) documents) (declared_in start ++ keys_in columns)
      (declared_in start ++ flat_map (flat_map value_keys) documents)
      (covers (declared_in start) at (keys_in columns) (column_keys (length documents) columns))
      (covers_documents (declared_in start) documents) rows_agree
