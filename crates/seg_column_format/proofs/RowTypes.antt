-- The rows of a column: as many as documents, with values of its type.
use Rattle.std.proofs.Common.{◌≡◌, ℕ, true, List, [], ◌∷◌, length, map, refl, ◌∙◌}
use Rattle.std.specs.List.{AllByRecursion, range_with_len}
use Rattle.std.proofs.lemmas.List.{length-map}
use Rattle.std.proofs.lemmas.List.FromFn.{length-map-range_with_len}
use Rattle.seg_common.specs.declared.column_type.ColumnType.{ColumnType}
use Rattle.seg_common.specs.declared.column_type.ColumnType.TheVariants as types
use Rattle.seg_columns.specs.DynamicColumns.{column_of, type_of}
use Rattle.seg_columns.specs.declared.dynamic_column.DynamicColumn.{DynamicColumn}
use Rattle.seg_columns.specs.declared.dynamic_column.DynamicColumn.TheVariants as columns
use Rattle.seg_column_format.specs.ModelColumns.{column_rows}
use Rattle.seg_model.specs.Columns.{ColumnValue}
use Rattle.seg_model.specs.Shape.{AreRowsOf, has_type}

module _ {X : Type 0} (type : ColumnType) (value : X → ColumnValue) (has : (x : X) → has_type type (value x) ≡ true) where
  in_row : (xs : List X) → AllByRecursion (λ v. has_type type v ≡ true) (map value xs)
  in_row [] = tt
  in_row (x ∷ xs) = (has x, in_row xs)

  pub in_rows : (rows : List (List X)) → AreRowsOf type (map (map value) rows)
  in_rows [] = tt
  in_rows (row ∷ rows) = (in_row row, in_rows rows)

pub rows_of_type : (c : DynamicColumn) → AreRowsOf (type_of c) (column_rows c)
rows_of_type (columns.I64 rows) = in_rows types.I64 _ (λ x. refl) rows
rows_of_type (columns.U64 rows) = in_rows types.U64 _ (λ x. refl) rows
rows_of_type (columns.Bytes c) = in_rows types.Bytes _ (λ x. refl) c.ords
rows_of_type (columns.Str c) = in_rows types.Str _ (λ x. refl) c.ords
rows_of_type (columns.Bool rows) = in_rows types.Bool _ (λ x. refl) rows
rows_of_type (columns.IpAddr rows) = in_rows types.IpAddr _ (λ x. refl) rows
rows_of_type (columns.DateTime rows) = in_rows types.DateTime _ (λ x. refl) rows

counted : {X Y : Type 0} (value : List X → Y) (row : ℕ → List X) (docs : ℕ)
    → length (map value (map row (range_with_len 0 docs))) ≡ docs
counted value row docs = length-map _ _ ∙ length-map-range_with_len row 0 docs

pub row_count_is : (t : ColumnType) (docs : ℕ) (bytes : List ℕ) → length (column_rows (column_of t docs bytes)) ≡ docs
row_count_is types.I64 docs bytes = counted _ _ docs
row_count_is types.U64 docs bytes = counted _ _ docs
row_count_is types.Bytes docs bytes = counted _ _ docs
row_count_is types.Str docs bytes = counted _ _ docs
row_count_is types.Bool docs bytes = counted _ _ docs
row_count_is types.IpAddr docs bytes = counted _ _ docs
row_count_is types.DateTime docs bytes = counted _ _ docs
