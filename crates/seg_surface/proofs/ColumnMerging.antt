-- Files of two rows and of one can be merged.
use Rattle.std.proofs.Common.{◌≡◌, ℕ, ◌<◌, ◌^◌, List, [], ◌∷◌, ◌++◌, length, map, sym, subst, ◌∙◌}
use Rattle.std.specs.Prelude.{All, String, false}
use Rattle.std.specs.declared.alloc.Global.{Global}
use Rattle.std.specs.List.{AllByRecursion, flat_map}
use Rattle.std.proofs.lemmas.Bool.{true≢false}
use Rattle.std.proofs.lemmas.List.Elements.{All-from_recursion, All-map}
use Rattle.seg_common.specs.declared.column_type.ColumnType.{ColumnType}
use Rattle.seg_model.specs.Columns.{is_number}
use Rattle.seg_column_file.specs.ColumnFiles.{ColumnFile}
use Rattle.seg_column_format.specs.ModelColumns.{column_key}
use Rattle.seg_column_merge.specs.MergedColumns.{AgreesWith, CanMerge, required_key}
use Rattle.seg_column_file.specs.RowOrders.{IsRow, rows_in_order}
use Rattle.seg_column_file.specs.declared.row_order.MergeRowOrder.{MergeRowOrder}

-- how many rows they have
abbrev pub counts : List ℕ
counts = 2 ∷ 1 ∷ []

pub can_merge : (required : List (String Global × ColumnType)) (files : List ColumnFile) (order : MergeRowOrder)
    → map (λ f. f.rows) files ≡ counts → AllByRecursion (IsRow counts) (rows_in_order counts order)
    → length (rows_in_order counts order) < 2 ^ 32 → All (λ r. is_number r.1 ≡ false) required
    → CanMerge (map required_key required) files (rows_in_order (map (λ f. f.rows) files) order)
can_merge required files order same rows few other = record {
  rows = subst (λ (cs : List ℕ). All (IsRow cs) (rows_in_order cs order)) (sym same)
      (All-from_recursion (IsRow counts) (rows_in_order counts order) rows);
  few = subst (λ (cs : List ℕ). length (rows_in_order cs order) < 2 ^ 32) (sym same) few;
  types = All-map
      (λ k. All (AgreesWith k) (map required_key required ++ flat_map (λ f. map column_key f.columns) files))
      required_key required (λ i d lt. λ j e below. λ n m path. absurd (true≢false (sym n ∙ other i d lt)));
}
