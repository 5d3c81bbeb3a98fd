-- Values that were added, row by row.
use Rattle.std.proofs.Common.{◌≡◌, ℕ, ◌<◌, ◌^◌, Bool, List, ◌++◌, map, sym, ap, subst, ◌∙◌}
use Rattle.std.specs.List.{AllByRecursion}
use Rattle.seg_column_format.specs.ColumnBytes.{column_bytes, total}
use Rattle.seg_column_writer.specs.EncodedColumns.{AddsValues}
use Rattle.seg_column_format.specs.ValuesByRow.{Rise, rows_from}
use Rattle.seg_column_format.specs.declared.row_number.RowNumber.{RowNumber}
use Rattle.seg_column_writer.specs.declared.row_value.RowValue.{RowValue}
use Rattle.seg_column_writer.proofs.ArrangedValues.{all_of_rows, bytes_are, number, numbered_below, numbered_by, numbered_rise, row, still_all, still_rise, total_is}

module _ (g : RowValue → ℕ) (encoded : RowNumber → List ℕ) (sorts : Bool) (values : List RowValue)
    (rise : Rise (λ (v : RowValue). v.row) 0 values) (count : ℕ)
    (below : AllByRecursion (λ (v : RowValue). v.row < count) values) (old new : List ℕ)
    (a : AddsValues encoded sorts (map (numbered_by g) values) count old new) where
  abbrev given : List RowNumber
  given = map (numbered_by g) values

  abbrev rows : List (List RowNumber)
  rows = rows_from row 0 count a.numbers

  pub numbers_rise : Rise row 0 a.numbers
  numbers_rise = still_rise sorts given a.numbers a.arranged (numbered_rise g 0 values rise)

  pub numbers_below : AllByRecursion (λ (v : RowNumber). v.row < count) a.numbers
  numbers_below = still_all (λ (v : RowNumber). v.row < count) sorts given a.numbers a.arranged
      (numbered_below g count values below)

  pub few : total rows < 2 ^ 64
  few = subst (λ (n : ℕ). n < 2 ^ 64) (sym (total_is count a.numbers numbers_rise numbers_below)) a.added.few

  pub fit : AllByRecursion (AllByRecursion (λ (v : RowNumber). number v < 2 ^ 64)) rows
  fit = all_of_rows (λ (v : RowNumber). number v < 2 ^ 64) 0 count a.numbers a.added.fit

  pub bytes_added : new ≡ old ++ column_bytes encoded rows
  bytes_added = a.added.bytes
      ∙ ap (λ (l : List ℕ). old ++ l) (bytes_are count a.numbers numbers_rise numbers_below encoded)
