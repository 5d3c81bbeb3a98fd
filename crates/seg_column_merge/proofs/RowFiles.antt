-- The files of the columns of rows with one key.
use Rattle.std.proofs.Common.{◌≡◌, ℕ, List, [], ◌∷◌, length, Option, Some, None, refl, sym, ◌∙◌, arith}
use Rattle.std.specs.Prelude.{All, Bool}
use Rattle.std.specs.List.{AllByRecursion, AllZip}
use Rattle.std.proofs.lemmas.List.Elements.{All-from_recursion}
use Rattle.seg_column_merge_parts.specs.ColumnSources.{FileBelow, HasFile}
use Rattle.seg_column_merge_parts.specs.KeptColumns.{HasRows}
use Rattle.seg_column_merge.specs.Groups.{AreOfFiles, FileFits}
use Rattle.seg_column_file.specs.KeptRows.{AreMarks}
use Rattle.seg_column_merge_parts.specs.MergedTerms.{AreRowNumbers}
use Rattle.seg_column_file.specs.RowOrders.{Place}
use Rattle.seg_column_merge_parts.specs.declared.tables.FileColumn.{FileColumn}
use Rattle.seg_column_merge_parts.specs.declared.tables.TableRow.{TableRow}

module _ (counts : List ℕ) where
  file_below : (first next : ℕ) (o : Option FileColumn) → FileFits counts first o next → FileBelow (length counts) o
  file_below first next None fits = tt
  file_below first next (Some c) fits = fits.1

  have_files : (first : ℕ) (rows : List TableRow) → AreOfFiles counts first rows
      → AllByRecursion (HasFile (length counts)) rows
  have_files first [] are = tt
  have_files first (r ∷ rs) are = (file_below first are.0 r.column are.1, have_files are.0 rs are.2)

  pub all_have_files : (rows : List TableRow) → AreOfFiles counts 0 rows → All (HasFile (length counts)) rows
  all_have_files rows are = All-from_recursion (HasFile (length counts)) rows (have_files 0 rows are)

  module _ (places : List Place) (kept : List (List Bool)) (marks : AreMarks counts places kept) where
    row_has : (first next : ℕ) (o : Option FileColumn) → FileFits counts first o next → HasRows kept o
    row_has first next None fits = tt
    row_has first next (Some c) fits = (omega (arith, fits.1, marks.files), marks.rows c.file ∙ sym fits.2)

    have_rows : (first : ℕ) (rows : List TableRow) → AreOfFiles counts first rows
        → AllByRecursion (λ r. HasRows kept r.column) rows
    have_rows first [] are = tt
    have_rows first (r ∷ rs) are = (row_has first are.0 r.column are.1, have_rows are.0 rs are.2)

    pub all_have_rows : (rows : List TableRow) → AreOfFiles counts 0 rows → All (λ r. HasRows kept r.column) rows
    all_have_rows rows are = All-from_recursion (λ (r : TableRow). HasRows kept r.column) rows (have_rows 0 rows are)

-- there are as many lists of numbers as rows
pub as_many_numbers : (kept : List (List Bool)) (table : List (List ℕ)) (rows : List TableRow) (ns : List (List ℕ))
    → AllZip (AreRowNumbers kept table) rows ns → length rows ≡ length ns
as_many_numbers kept table [] [] are = refl
as_many_numbers kept table [] (n ∷ ns) are = absurd are
as_many_numbers kept table (r ∷ rs) [] are = absurd are
as_many_numbers kept table (r ∷ rs) (n ∷ ns) are = omega (arith, as_many_numbers kept table rs ns are.1)
