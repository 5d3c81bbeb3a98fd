-- The terms of columns that kept rows have, each once, and their new ordinals.
use Rattle.std.specs.Prelude.{◌≡◌, ℕ, ◌<◌, Bool, true, All, IsUtf8, List, [], Option, Some, None, length, map, nat_eq, get_or, slice_get}
use Rattle.std.specs.Ordering.{nat_cmp}
use Rattle.std.specs.Cmp.Lexicographic.{slice_cmp}
use Rattle.std.specs.List.{AllZip, list_any}
use Rattle.std.specs.List.Sorted.{IsStrictlySortedBy}
use Rattle.seg_common.specs.declared.column_type.ColumnType.TheVariants.{Str}
use Rattle.seg_columns.specs.DynamicColumns.{type_of}
use Rattle.seg_columns.specs.declared.dynamic_column.DynamicColumn.{DynamicColumn}
use Rattle.seg_columns.specs.declared.dynamic_column.DynamicColumn.TheVariants as columns
use Rattle.seg_column_file.specs.KeptRows.{kept_values}
use Rattle.seg_column_merge_parts.specs.declared.tables.FileColumn.{FileColumn}
use Rattle.seg_column_merge_parts.specs.declared.tables.TableRow.{TableRow}

-- ---- the terms of a column, and their ordinals in its rows; columns of other types have none

abbrev pub terms_in : DynamicColumn → List (List ℕ)
terms_in (columns.Bytes column) = column.terms
terms_in (columns.Str column) = column.terms
terms_in _ = []

abbrev pub ords_in : DynamicColumn → List (List ℕ)
ords_in (columns.Bytes column) = column.ords
ords_in (columns.Str column) = column.ords
ords_in _ = []

-- of a column that may be there
abbrev pub row_terms : Option FileColumn → List (List ℕ)
row_terms None = []
row_terms (Some c) = terms_in (c.handle).column

abbrev pub kept_ords : List (List Bool) → Option FileColumn → List ℕ
kept_ords kept None = []
kept_ords kept (Some c) = kept_values (get_or kept c.file []) (ords_in (c.handle).column)

-- it has texts
abbrev pub HasTexts : Option FileColumn → Type 0
HasTexts None = Unit {0}
HasTexts (Some c) = type_of (c.handle).column ≡ Str

-- ---- those that kept rows have

-- the places in a list of those of the terms whose ordinals are among some
pub record AreNumbers (table terms : List (List ℕ)) (ords numbers : List ℕ) : Type 0 where
  pub many : length numbers ≡ length terms
  pub each : (ord : ℕ) → ord < length terms → list_any (nat_eq ord) ords ≡ true
      → slice_get table (get_or numbers ord 0) ≡ Some (get_or terms ord [])

-- the numbers of the terms of each row's column
abbrev pub AreRowNumbers : List (List Bool) → List (List ℕ) → TableRow → List ℕ → Type 0
AreRowNumbers kept table r numbers = AreNumbers table (row_terms r.column) (kept_ords kept r.column) numbers

-- a term is that of a kept row of some column
pub record IsUsedTerm (kept : List (List Bool)) (columns : List (Option FileColumn)) (term : List ℕ) : Type 0 where
  pub place : ℕ
  pub ord : ℕ
  pub within : ord < length (row_terms (get_or columns place None))
  pub used : list_any (nat_eq ord) (kept_ords kept (get_or columns place None)) ≡ true
  pub is : term ≡ get_or (row_terms (get_or columns place None)) ord []

-- the terms of rows in a list, with their places there
pub record AddsRows (kept : List (List Bool)) (rows : List TableRow) (table numbers : List (List ℕ)) : Type 0 where
  pub numbered : AllZip (AreRowNumbers kept table) rows numbers
  pub each : All (IsUsedTerm kept (map (λ r. r.column) rows)) table
  pub texts : All (λ r. HasTexts r.column) rows → All IsUtf8 table

-- terms are those that kept rows have, each once in byte order, and ordinals tell where each of them is
pub record AreMerged (kept : List (List Bool)) (rows : List TableRow) (terms ordinals : List (List ℕ)) : Type 0 where
  pub ascend : IsStrictlySortedBy (slice_cmp nat_cmp) terms
  pub added : AddsRows kept rows terms ordinals
