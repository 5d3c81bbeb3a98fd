-- The values of merged rows at a key are those of the columns of its path and kind.
use Rattle.std.proofs.Common.{◌≡◌, ℕ, zero, suc, ◌+◌, ◌<◌, Bool, true, false, cond, List, [], ◌∷◌, ◌++◌, map, filter, get_or, refl, sym, ap, ◌∙◌, arith}
use Rattle.std.specs.Prelude.{if◌then◌else◌, nat_eq, String}
use Rattle.std.specs.declared.alloc.Global.{Global}
use Rattle.std.specs.List.{flat_map}
use Rattle.std.proofs.lemmas.Bool.Decides.{nat_tests}
use Rattle.std.proofs.lemmas.List.{append-nil}
use Rattle.std.proofs.lemmas.List.Concat.{flat_map-append}
use Rattle.std.proofs.lemmas.List.Folds.{flat_map-map}
use Rattle.seg_common.specs.TabulatedMaps.{is_among}
use Rattle.seg_common.specs.declared.column_type.ColumnType.{ColumnType}
use Rattle.seg_common.proofs.Lists.{flat_map-none}
use Rattle.seg_model.specs.Columns.{ColumnKey, ColumnValue, column_cmp}
use Rattle.seg_model.specs.Join.{joined_keys}
use Rattle.seg_column_file.specs.ColumnFiles.{ColumnFile, NamedColumn}
use Rattle.seg_column_format.specs.ModelColumns.{column_key, column_rows}
use Rattle.seg_column_merge.specs.Cells.{cell, cells, is_of, row_cell, rows_with}
use Rattle.seg_column_merge.specs.MergedColumns.{columns_of_file, rows_at, values_in_row}
use Rattle.seg_column_file.specs.RowOrders.{Place}
use Rattle.seg_column_merge_parts.specs.Tables.{Row, all_rows, file_row, file_rows, kind_of, required_row}
use Rattle.seg_column_merge.proofs.ColumnKeys.{among_keys}

module _ {X A : Type 0} (test : X → Bool) (f : X → List A) where
  -- what passes a test, or nothing
  abbrev pub masked : X → List A
  masked x = if test x then f x else []

  flat_filter : (xs : List X) → flat_map f (filter test xs) ≡ flat_map masked xs
  flat_filter [] = refl
  flat_filter (x ∷ xs) = by (test x) (flat_filter xs)
    where
      by : (b : Bool) → flat_map f (filter test xs) ≡ flat_map masked xs
          → flat_map f (cond b (x ∷ filter test xs) (filter test xs)) ≡ (if b then f x else []) ++ flat_map masked xs
      by true rest = ap (λ (l : List A). f x ++ l) rest
      by false rest = rest

flat_same : {X A : Type 0} (f g : X → List A) → ((x : X) → f x ≡ g x) → (xs : List X) → flat_map f xs ≡ flat_map g xs
flat_same f g same [] = refl
flat_same f g same (x ∷ xs) = λ j. same x j ++ flat_same f g same xs j

none_either_way : {A : Type 0} (b : Bool) → let none : List A = [] in (if b then none else none) ≡ none
none_either_way true = refl
none_either_way false = refl

module _ (q : ColumnKey) (p : Place) where
  abbrev test : Row → Bool
  test = is_of q.path (kind_of q.type)

  abbrev values : Row → List ColumnValue
  values r = row_cell p r.column

  abbrev of_rows : List Row → List ColumnValue
  of_rows rows = flat_map (masked test values) rows

  none_required : (required : List (String Global × ColumnType)) → of_rows (map required_row required) ≡ []
  none_required required =
      flat_map-map (masked test values) required_row required
      ∙ flat_map-none (λ r. masked test values (required_row r)) (λ r. none_either_way (test (required_row r))) required

  -- ---- a file

  abbrev stored : NamedColumn → List ColumnValue
  stored c = get_or (column_rows (c.stored).column) p.1 []

  other_file : (file : ℕ) → nat_eq file p.0 ≡ false → (c : NamedColumn) → masked test values (file_row file c) ≡ []
  other_file file other c =
      ap (λ (b : Bool). if test (file_row file c) then (if b then stored c else []) else []) other
      ∙ none_either_way (test (file_row file c))

  this_file : (file : ℕ) → nat_eq file p.0 ≡ true → (c : NamedColumn)
      → masked test values (file_row file c)
      ≡ (if is_among column_cmp (joined_keys (column_key c)) q then stored c else [])
  this_file file this c =
      ap (λ (b : Bool). if test (file_row file c) then (if b then stored c else []) else []) this
      ∙ sym (ap (λ (b : Bool). if b then stored c else []) (among_keys (column_key c) q))

  in_file : (file : ℕ) (columns : List NamedColumn) → nat_eq file p.0 ≡ true
      → of_rows (map (file_row file) columns) ≡ values_in_row q columns p.1
  in_file file columns this =
      flat_map-map (masked test values) (file_row file) columns
      ∙ flat_same (λ c. masked test values (file_row file c))
      (masked (λ c. is_among column_cmp (joined_keys (column_key c)) q) stored) (this_file file this) columns
      ∙ sym (flat_filter (λ c. is_among column_cmp (joined_keys (column_key c)) q) stored columns)

  not_in_file : (file : ℕ) (columns : List NamedColumn) → nat_eq file p.0 ≡ false
      → of_rows (map (file_row file) columns) ≡ []
  not_in_file file columns other =
      flat_map-map (masked test values) (file_row file) columns
      ∙ flat_map-none (λ c. masked test values (file_row file c)) (other_file file other) columns

  -- ---- all files

  both : (rows more : List Row) (xs ys : List ColumnValue) → of_rows rows ≡ xs → of_rows more ≡ ys
      → of_rows (rows ++ more) ≡ xs ++ ys
  both rows more xs ys a b = flat_map-append (masked test values) rows more ∙ (λ j. a j ++ b j)

  later : (first : ℕ) (files : List ColumnFile) → p.0 < first → of_rows (file_rows first files) ≡ []
  later first [] lt = refl
  later first (f ∷ fs) lt =
      let other : nat_eq first p.0 ≡ false = grind (arith, nat_tests, lt) in
      both (map (file_row first) f.columns) (file_rows (first + 1) fs) [] [] (not_in_file first f.columns other)
      (later (first + 1) fs (omega (arith, lt)))

  at_file : (first k : ℕ) (files : List ColumnFile) → first + k ≡ p.0
      → of_rows (file_rows first files) ≡ values_in_row q (columns_of_file files k) p.1
  at_file first k [] is = refl
  at_file first zero (f ∷ fs) is =
      let this : nat_eq first p.0 ≡ true = grind (arith, nat_tests, is) in
      both (map (file_row first) f.columns) (file_rows (first + 1) fs) (values_in_row q f.columns p.1) []
      (in_file first f.columns this) (later (first + 1) fs (omega (arith, is)))
      ∙ append-nil (values_in_row q f.columns p.1)
  at_file first (suc k) (f ∷ fs) is =
      let other : nat_eq first p.0 ≡ false = grind (arith, nat_tests, is) in
      both (map (file_row first) f.columns) (file_rows (first + 1) fs) [] (values_in_row q (columns_of_file fs k) p.1)
      (not_in_file first f.columns other) (at_file (first + 1) k fs (omega (arith, is)))

  pub row_is : (required : List (String Global × ColumnType)) (files : List ColumnFile)
      → values_in_row q (columns_of_file files p.0) p.1
      ≡ cell (rows_with q.path (kind_of q.type) (all_rows required files)) p
  row_is required files =
      sym (flat_filter test values (all_rows required files)
      ∙ both (map required_row required) (file_rows 0 files) [] (values_in_row q (columns_of_file files p.0) p.1)
      (none_required required) (at_file 0 p.0 files (omega arith)))

-- all rows
pub rows_are : (q : ColumnKey) (required : List (String Global × ColumnType)) (files : List ColumnFile)
    (places : List Place)
    → rows_at files places q ≡ cells (rows_with q.path (kind_of q.type) (all_rows required files)) places
rows_are q required files [] = refl
rows_are q required files (p ∷ ps) = λ j. row_is q p required files j ∷ rows_are q required files ps j
