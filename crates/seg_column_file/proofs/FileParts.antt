-- The parts of a file of columns, and the whole.
use Rattle.std.proofs.Common.{◌≡◌, ℕ, List, sym, subst}
use Rattle.seg_columns.specs.declared.error.ColumnError.{ColumnError}
use Rattle.seg_columns.specs.declared.error.ColumnError.TheVariants.{Mixed, Malformed, OutOfMemory}
use Rattle.seg_columns.specs.Refusals.{Refuses}
use Rattle.seg_column_file.specs.ColumnTable.{AreEntries}
use Rattle.seg_column_file.specs.ColumnFiles.{HasFooter, HoldsColumns, IsColumnFile, column_count, data_length, row_count, table_of}

-- what was read of the bytes
module _ (bytes table : List ℕ) (size count rows : ℕ) (is : table ≡ table_of bytes)
    (counted : count ≡ column_count bytes)
    (sized : size ≡ data_length bytes) (told : rows ≡ row_count bytes) where
  same_columns : HoldsColumns bytes table count size rows ≡ HoldsColumns bytes (table_of bytes) (column_count bytes)
      (data_length bytes) (row_count bytes)
  same_columns = λ i. HoldsColumns bytes (is i) (counted i) (sized i) (told i)

  same_entries : AreEntries table count ≡ AreEntries (table_of bytes) (column_count bytes)
  same_entries = λ i. AreEntries (is i) (counted i)

  pub no_columns : (error : ColumnError) → Refuses (HoldsColumns bytes table count size rows) error
      → Refuses (IsColumnFile bytes) error
  no_columns Malformed none = λ file. none (subst (λ (X : Type 0). X) (sym same_columns) file.columns)
  no_columns OutOfMemory lacks = tt
  no_columns Mixed never = never

  pub no_entries : (AreEntries table count → ⊥) → IsColumnFile bytes → ⊥
  no_entries none file = none (subst (λ (X : Type 0). X) (sym same_entries) file.entries)

  pub whole : HasFooter bytes → AreEntries table count → HoldsColumns bytes table count size rows → IsColumnFile bytes
  whole footer entries columns = record {
    footer = footer;
    entries = subst (λ (X : Type 0). X) same_entries entries;
    columns = subst (λ (X : Type 0). X) same_columns columns;
  }
