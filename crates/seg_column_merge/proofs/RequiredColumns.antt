-- Which columns are required, by the rows of one path and kind.
use Rattle.std.proofs.Common.{◌≡◌, ℕ, ◌+◌, Bool, true, false, ◌||◌, cond, List, [], ◌∷◌, ◌++◌, map, filter, refl, sym, ap, ◌∙◌}
use Rattle.std.specs.Prelude.{◌&&◌, String, nat_eq, string_bytes}
use Rattle.std.specs.declared.alloc.Global.{Global}
use Rattle.std.specs.List.{AllByRecursion, list_any}
use Rattle.std.specs.Ordering.{eq_by_cmp}
use Rattle.std.specs.Str.{bytes_eq}
use Rattle.std.proofs.lemmas.Bool.{false≢true, or_from}
use Rattle.std.proofs.lemmas.List.Elements.{filter-append}
use Rattle.std.proofs.Math.Bool.{or-false, and-false}
use Rattle.std.proofs.lemmas.List.Folds.{list_any-append}
use Rattle.seg_common.specs.declared.column_type.ColumnType.{ColumnType}
use Rattle.seg_common.proofs.Bools.{and_grouped}
use Rattle.seg_model.specs.Columns.{ColumnKey, column_cmp, is_declared, type_place}
use Rattle.seg_column_file.specs.ColumnFiles.{ColumnFile, NamedColumn}
use Rattle.seg_column_merge.specs.Cells.{is_absent, is_of, is_required, rows_with}
use Rattle.seg_column_merge.specs.MergedColumns.{required_key}
use Rattle.seg_column_merge_parts.specs.Tables.{Row, all_rows, file_row, file_rows, kind_of, required_row}
use Rattle.seg_column_merge.proofs.ColumnKeys.{key_is, kind_too}

-- ---- tests of rows

any_filter : {X : Type 0} (test pass : X → Bool) (xs : List X)
    → list_any pass (filter test xs) ≡ list_any (λ x. test x && pass x) xs
any_filter test pass [] = refl
any_filter {X = X} test pass (x ∷ xs) = by (test x) (any_filter test pass xs)
  where
    by : (b : Bool) → list_any pass (filter test xs) ≡ list_any (λ (y : X). test y && pass y) xs
        → list_any pass (cond b (x ∷ filter test xs) (filter test xs))
        ≡ ((b && pass x) || list_any (λ (y : X). test y && pass y) xs)
    by true rest = ap (λ (c : Bool). pass x || c) rest
    by false rest = rest

-- ---- whether a key is required

module _ (q : ColumnKey) where
  abbrev hits : Row → Bool
  hits r = is_of q.path (kind_of q.type) r && is_required q.type r

  no_file : (file : ℕ) (columns : List NamedColumn) → list_any hits (map (file_row file) columns) ≡ false
  no_file file [] = refl
  no_file file (c ∷ cs) =
      or_from (hits (file_row file c)) (list_any hits (map (file_row file) cs))
      (and-false (is_of q.path (kind_of q.type) (file_row file c))) (no_file file cs)

  no_files : (first : ℕ) (files : List ColumnFile) → list_any hits (file_rows first files) ≡ false
  no_files first [] = refl
  no_files first (f ∷ fs) =
      list_any-append hits (map (file_row first) f.columns) (file_rows (first + 1) fs)
      ∙ or_from (list_any hits (map (file_row first) f.columns)) (list_any hits (file_rows (first + 1) fs))
      (no_file first f.columns) (no_files (first + 1) fs)

  abbrev is_key : String Global × ColumnType → Bool
  is_key r = eq_by_cmp column_cmp q (required_key r)

  one_required : (r : String Global × ColumnType) → is_key r ≡ hits (required_row r)
  one_required r =
      (key_is (required_key r) q
      ∙ ap (λ (b : Bool). bytes_eq q.path (string_bytes r.0) && b) (kind_too q.type r.1)
      ∙ and_grouped (bytes_eq q.path (string_bytes r.0)) (nat_eq (kind_of r.1) (kind_of q.type))
      (nat_eq (type_place q.type) (type_place r.1)))

  all_required : (required : List (String Global × ColumnType))
      → is_declared (map required_key required) q ≡ list_any hits (map required_row required)
  all_required [] = refl
  all_required (r ∷ rs) = λ j. one_required r j || all_required rs j

  pub declared_is : (required : List (String Global × ColumnType)) (files : List ColumnFile)
      → is_declared (map required_key required) q
      ≡ list_any (is_required q.type) (rows_with q.path (kind_of q.type) (all_rows required files))
  declared_is required files =
      all_required required
      ∙ sym (any_filter (is_of q.path (kind_of q.type)) (is_required q.type) (all_rows required files)
      ∙ list_any-append hits (map required_row required) (file_rows 0 files)
      ∙ ap (λ (b : Bool). list_any hits (map required_row required) || b) (no_files 0 files)
      ∙ or-false (list_any hits (map required_row required)))

-- ---- the first row of a path and a kind

all_absent : (test : Row → Bool) (required : List (String Global × ColumnType))
    → AllByRecursion (λ r. is_absent r.column ≡ true) (filter test (map required_row required))
all_absent test [] = tt
all_absent test (r ∷ rs) = by (test (required_row r)) (all_absent test rs)
  where
    by : (b : Bool) → AllByRecursion (λ (s : Row). is_absent s.column ≡ true) (filter test (map required_row rs))
        → AllByRecursion (λ (s : Row). is_absent s.column ≡ true)
        (cond b (required_row r ∷ filter test (map required_row rs)) (filter test (map required_row rs)))
    by true rest = (refl, rest)
    by false rest = rest

none_here : (test : Row → Bool) (type : ColumnType) (file : ℕ) (columns : List NamedColumn) (more : List Row)
    → list_any (is_required type) (filter test more) ≡ false
    → list_any (is_required type) (filter test (map (file_row file) columns ++ more)) ≡ false
none_here test type file [] more none = none
none_here test type file (c ∷ cs) more none = by (test (file_row file c)) (none_here test type file cs more none)
  where
    by : (b : Bool) → list_any (is_required type) (filter test (map (file_row file) cs ++ more)) ≡ false
        → list_any (is_required type) (cond b (file_row file c ∷ filter test (map (file_row file) cs ++ more))
        (filter test (map (file_row file) cs ++ more))) ≡ false
    by true rest = rest
    by false rest = rest

none_required : (test : Row → Bool) (type : ColumnType) (first : ℕ) (files : List ColumnFile)
    → list_any (is_required type) (filter test (file_rows first files)) ≡ false
none_required test type first [] = refl
none_required test type first (f ∷ fs) =
    none_here test type first f.columns (file_rows (first + 1) fs) (none_required test type (first + 1) fs)

-- where the first row isn't required, none is
pub first_tells : (path : List ℕ) (kind : ℕ) (required : List (String Global × ColumnType)) (files : List ColumnFile)
    (r : Row) (rest : List Row) → rows_with path kind (all_rows required files) ≡ r ∷ rest → is_absent r.column ≡ false
    → (type : ColumnType) → list_any (is_required type) (rows_with path kind (all_rows required files)) ≡ false
first_tells path kind required files r rest is present type =
    ap (list_any (is_required type)) (filter-append (is_of path kind) (map required_row required) (file_rows 0 files))
    ∙ by (filter (is_of path kind) (map required_row required)) (all_absent (is_of path kind) required)
    (sym (filter-append (is_of path kind) (map required_row required) (file_rows 0 files)) ∙ is)
  where
    by : (xs : List Row) → AllByRecursion (λ (s : Row). is_absent s.column ≡ true) xs
        → xs ++ filter (is_of path kind) (file_rows 0 files) ≡ r ∷ rest
        → list_any (is_required type) (xs ++ filter (is_of path kind) (file_rows 0 files)) ≡ false
    by [] absent e = none_required (is_of path kind) type 0 files
    by (x ∷ xs) absent e =
        let same : x ≡ r = cc in
        absurd (false≢true (sym present ∙ sym (ap (λ (s : Row). is_absent s.column) same) ∙ absent.0))
