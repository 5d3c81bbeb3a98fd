-- Cases of columns and of files of columns, in bytes that were written by hand.
use Rattle.std.specs.Prelude.{◌≡◌, ℕ, pos, negsuc, ◌+◌, ◌^◌, List, [], ◌∷◌, ◌++◌, map, replicate, codes, true, false, Some, None}
use Rattle.seg_columns.specs.declared.dynamic_column.DynamicColumn.TheVariants as columns
use Rattle.seg_columns.specs.Addresses.{address_of}
use Rattle.seg_columns.specs.Columns.{first_or, rows_of}
use Rattle.seg_columns.specs.DynamicColumns.{StoredColumn, i64_column, numbers_of}
use Rattle.seg_columns.specs.ValueImages.{unsigned, signed, truth}
use Rattle.seg_columns.specs.TermColumns.{TermColumn, term_column_of}
use Rattle.seg_column_file.specs.ColumnTable.{are_apart}
use Rattle.seg_column_file.specs.ColumnFiles.{ColumnFile, NamedColumn, column_file_of, is_below, is_selected, stored_where}

-- a number below 256 in eight bytes
abbrev pub eight : ℕ → List ℕ
eight n = n ∷ replicate 7 0

-- a number below 256 in four bytes
abbrev pub four : ℕ → List ℕ
four n = n ∷ replicate 3 0

-- of three documents the first has 7, the second nothing, the third 8 and 9
abbrev pub numbers : List ℕ
numbers = eight 1 ++ eight 1 ++ eight 3 ++ eight 7 ++ eight 8 ++ eight 9

-- of two documents the first has `b` and `a`, the second `b`
abbrev pub two_texts : List ℕ
two_texts = eight 2 ++ eight 3 ++ eight 1 ++ eight 0 ++ eight 1 ++ eight 2 ++ eight 1 ++ eight 2 ++ codes "ab"

-- two documents, of which the first has 5 in the column `n` of signed numbers: the column, the table, the footer
abbrev pub five : List ℕ
five = eight 1 ++ eight 1 ++ (5 ∷ replicate 6 0 ++ 128 ∷ [])
    ++ (eight 1 ++ eight 1 ++ codes "n" ++ (0 ∷ []) ++ eight 24)
    ++ (eight 26 ++ four 2 ++ four 1)

-- ---- one document, whose JSON object has the number 42, the text `bar` and the truth value true under `foo`

abbrev pub foo : List ℕ
foo = codes "json" ++ 1 ∷ codes "foo"

-- an entry of the table: the length of the path, the path, the code of a type, and where the column ends
abbrev pub entry_of_foo : ℕ → ℕ → List ℕ
entry_of_foo type end = eight 8 ++ foo ++ type ∷ eight end

abbrev pub three_types : List ℕ
three_types =
    (eight 1 ++ 42 ∷ replicate 6 0 ++ 128 ∷ [])
    ++ (eight 1 ++ eight 0 ++ eight 1 ++ eight 3 ++ codes "bar") ++ (eight 1 ++ eight 1)
    ++ (eight 3 ++ entry_of_foo 0 16 ++ entry_of_foo 3 51 ++ entry_of_foo 4 67)
    ++ (eight 83 ++ four 1 ++ four 1)

-- the columns of `foo`, in order of type
abbrev pub of_foo : List StoredColumn
of_foo =
    record { column = columns.I64 ((pos 42 ∷ []) ∷ []); size = 16 }
    ∷ record { column = columns.Str (record { terms = codes "bar" ∷ []; ords = (0 ∷ []) ∷ [] }); size = 35 }
    ∷ record { column = columns.Bool ((true ∷ []) ∷ []); size = 16 } ∷ []

abbrev pub under_foo : StoredColumn → NamedColumn
under_foo c = record { path = foo; stored = c }

abbrev pub file_of_foo : ColumnFile
file_of_foo = record { rows = 1; columns = map under_foo of_foo }

-- what is found by paths, and what it is as values and as numbers
pub record FoundColumns : Type 0 where
  pub at_path : stored_where (is_selected false foo) file_of_foo.columns ≡ of_foo
  pub above : stored_where (is_selected false (codes "json")) file_of_foo.columns ≡ []
  pub below : stored_where (is_below (codes "json")) file_of_foo.columns ≡ of_foo
  pub signed_numbers : map (λ c. i64_column c.column) of_foo ≡ Some ((pos 42 ∷ []) ∷ []) ∷ None ∷ None ∷ []
  -- signed numbers are raised by 2^63, texts have their ordinals
  pub as_numbers : map (λ c. numbers_of c.column) of_foo ≡
      Some (((2 ^ 63 + 42) ∷ []) ∷ []) ∷ Some ((0 ∷ []) ∷ []) ∷ Some ((1 ∷ []) ∷ []) ∷ []

pub record ColumnFileCases : Type 0 where
  pub rows : rows_of 8 unsigned 3 numbers ≡ (7 ∷ []) ∷ [] ∷ (8 ∷ 9 ∷ []) ∷ []
  pub first : map {B = ℕ} (first_or 4) ((7 ∷ []) ∷ [] ∷ (8 ∷ 9 ∷ []) ∷ []) ≡ 7 ∷ 4 ∷ 8 ∷ []
  -- signed numbers and moments are raised by 2^63
  pub below_zero : rows_of 8 signed 1 (eight 1 ++ replicate 7 255 ++ (127 ∷ [])) ≡ (negsuc 0 ∷ []) ∷ []
  pub no_truth : truth (eight 2) ≡ None
  -- `::1`
  pub local : (address_of (replicate 15 0 ++ (1 ∷ []))).segments ≡ replicate 7 0 ++ (1 ∷ [])
  pub texts : term_column_of 2 two_texts ≡
      record { terms = codes "a" ∷ codes "b" ∷ []; ords = (1 ∷ 0 ∷ []) ∷ (1 ∷ []) ∷ [] }
  -- the numbers of texts are their ordinals
  pub ordinals : numbers_of (columns.Str (term_column_of 2 two_texts)) ≡ Some ((1 ∷ 0 ∷ []) ∷ (1 ∷ []) ∷ [])
  pub no_texts : term_column_of 3 (eight 0 ++ eight 0 ++ eight 0 ++ eight 0) ≡
      record { terms = []; ords = [] ∷ [] ∷ [] ∷ [] }
  pub file : column_file_of five ≡ record {
    rows = 2;
    columns =
        record { path = codes "n"; stored = record { column = columns.I64 ((pos 5 ∷ []) ∷ [] ∷ []); size = 24 } } ∷ [];
  }
  pub types_of_a_path : column_file_of three_types ≡ file_of_foo
  pub found : FoundColumns
  -- a path has numbers of one type
  pub apart : are_apart 0 1 ≡ false
