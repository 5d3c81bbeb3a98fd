-- The columns of a file have all its rows, and of a path and a kind there is one at most. So the rows of a table that
-- have one key are each of another file.
use Rattle.std.proofs.Common.{◌≡◌, ℕ, zero, suc, ◌+◌, ◌-◌, ◌<◌, ◌≤◌, Bool, true, false, ◌||◌, cond, List, [], ◌∷◌, ◌++◌, length, map, get_or, Option, Some, None, refl, sym, ap, subst, ◌∙◌, arith}
use Rattle.std.specs.Prelude.{◌&&◌, String, nat_eq}
use Rattle.std.specs.declared.alloc.Global.{Global}
use Rattle.std.specs.List.{AllByRecursion, range_with_len}
use Rattle.std.specs.Cmp.Lexicographic.{bytes_decides, slice_cmp}
use Rattle.std.specs.Ordering.{is_eq, is_lt, nat_cmp, ordering_then}
use Rattle.std.specs.Str.{bytes_eq}
use Rattle.std.specs.declared.cmp.Ordering.{Ordering}
use Rattle.std.specs.declared.cmp.Ordering.TheVariants.{Less, Equal, Greater}
use Rattle.std.proofs.lemmas.Bool.{and_parts, false≢true}
use Rattle.std.proofs.lemmas.Bool.Decides.{nat_tests}
use Rattle.std.proofs.lemmas.List.Elements.{filter-append}
use Rattle.std.proofs.lemmas.List.{length-map}
use Rattle.std.proofs.lemmas.List.FromFn.{length-map-range_with_len}
use Rattle.seg_common.specs.declared.column_type.ColumnType.{ColumnType}
use Rattle.seg_common.specs.declared.column_type.ColumnType.TheVariants as types
use Rattle.seg_common.proofs.Numbers.{is_lt-below}
use Rattle.seg_columns.specs.Addresses.{address}
use Rattle.seg_columns.specs.Columns.{row_of, rows_of}
use Rattle.seg_columns.specs.DynamicColumns.{column_of, type_of}
use Rattle.seg_columns.specs.ValueImages.{signed, truth, unsigned}
use Rattle.seg_columns.specs.TermColumns.{ordinals_in}
use Rattle.seg_column_file.specs.ColumnFiles.{ColumnFile, IsColumnFile, IsOfFile, NamedColumn, column_bytes, column_count, columns_from, named_column, row_count, table_of}
use Rattle.seg_column_file.specs.ColumnTable.{are_apart, code_in, may_follow, path_in, place_of, type_of_code}
use Rattle.seg_column_format.proofs.Exports.{type_read}
use Rattle.seg_column_merge_parts.specs.KeptColumns.{row_count_of}
use Rattle.seg_column_merge_parts.specs.Tables.{PlacedColumn, Row, all_rows, column_in, file_row, file_rows, kind_of, required_row, row_of as table_row}
use Rattle.seg_column_merge_parts.specs.declared.tables.FileColumn.{FileColumn}
use Rattle.seg_column_merge_parts.specs.declared.tables.TableRow.{TableRow}
use Rattle.seg_column_merge.specs.Cells.{is_of, rows_with}
use Rattle.seg_column_merge.specs.Groups.{AreOfFiles, FileFits}
use Rattle.seg_column_merge.proofs.KeyOrder.{Key, key_cmp, key_itself, key_then}

-- ---- what a column reads as

rows_long : {T : Type 0} (width : ℕ) (decoded : List ℕ → Option T) (docs : ℕ) (bytes : List ℕ)
    → length (rows_of width decoded docs bytes) ≡ docs
rows_long width decoded docs bytes = length-map-range_with_len (row_of width decoded docs bytes) 0 docs

has_all_rows : (t : ColumnType) (docs : ℕ) (bytes : List ℕ) → row_count_of (column_of t docs bytes) ≡ docs
has_all_rows types.I64 docs bytes = rows_long 8 signed docs bytes
has_all_rows types.U64 docs bytes = rows_long 8 unsigned docs bytes
has_all_rows types.Bytes docs bytes = rows_long 8 unsigned docs (ordinals_in docs bytes)
has_all_rows types.Str docs bytes = rows_long 8 unsigned docs (ordinals_in docs bytes)
has_all_rows types.Bool docs bytes = rows_long 8 truth docs bytes
has_all_rows types.IpAddr docs bytes = rows_long 16 address docs bytes
has_all_rows types.DateTime docs bytes = rows_long 8 signed docs bytes

-- ---- columns in the order of their keys

abbrev key_of : NamedColumn → Key
key_of c = (c.path, kind_of (type_of (c.stored).column))

abbrev IsAbove : NamedColumn → NamedColumn → Type 0
IsAbove c d = is_lt (key_cmp (key_of c) (key_of d)) ≡ true

abbrev Ascend : List NamedColumn → Type 0
Ascend [] = Unit {0}
Ascend (c ∷ []) = Unit {0}
Ascend (c ∷ d ∷ cs) = IsAbove c d × Ascend (d ∷ cs)

ascend_rest : (c : NamedColumn) (cs : List NamedColumn) → Ascend (c ∷ cs) → Ascend cs
ascend_rest c [] up = tt
ascend_rest c (d ∷ ds) up = up.1

above_then : (c d : NamedColumn) → IsAbove c d → (es : List NamedColumn) → AllByRecursion (IsAbove d) es
    → AllByRecursion (IsAbove c) es
above_then c d above [] all = tt
above_then c d above (e ∷ es) all =
    (key_then (key_of c) (key_of d) (key_of e) above all.0, above_then c d above es all.1)

all_above : (c : NamedColumn) (cs : List NamedColumn) → Ascend (c ∷ cs) → AllByRecursion (IsAbove c) cs
all_above c [] up = tt
all_above c (d ∷ ds) up = (up.0, above_then c d up.0 ds (all_above d ds up.1))

-- ---- those of one path and kind

module _ (path : List ℕ) (kind file : ℕ) where
  abbrev test : NamedColumn → Bool
  test c = is_of path kind (file_row file c)

  abbrev found : List NamedColumn → List Row
  found cs = rows_with path kind (map (file_row file) cs)

  key_is : (c : NamedColumn) → test c ≡ true → key_of c ≡ (path, kind)
  key_is c mine =
      let parts = and_parts (bytes_eq path c.path) (nat_eq (kind_of (type_of (c.stored).column)) kind) mine in
      let kinds : kind_of (type_of (c.stored).column) ≡ kind = grind (arith, nat_tests, parts.1) in
      λ j. (sym ((bytes_decides path c.path).0 parts.0) j, kinds j)

  other : (c d : NamedColumn) → test c ≡ true → IsAbove c d → test d ≡ false
  other c d mine above = by (test d) refl
    where
      by : (b : Bool) → test d ≡ b → test d ≡ false
      by false e = e
      by true e =
          absurd (key_itself (path, kind)
          ((λ j. is_lt (key_cmp (sym (key_is c mine) j) (sym (key_is d e) j))) ∙ above))

  none_found : (c : NamedColumn) → test c ≡ true → (ds : List NamedColumn) → AllByRecursion (IsAbove c) ds
      → found ds ≡ []
  none_found c mine [] all = refl
  none_found c mine (d ∷ ds) all =
      ap (λ (b : Bool). cond b (file_row file d ∷ found ds) (found ds)) (other c d mine all.0)
      ∙ none_found c mine ds all.1

  -- a row has a column of the file, with this many rows
  abbrev pub IsIn : ℕ → Option PlacedColumn → Type 0
  IsIn rows o = (c : PlacedColumn) × (o ≡ Some c) × (c.file ≡ file) × (row_count_of (c.stored).column ≡ rows)

  abbrev pub AtMostOne : ℕ → List Row → Type 0
  AtMostOne rows [] = Unit {0}
  AtMostOne rows (r ∷ []) = IsIn rows r.column
  AtMostOne rows (r ∷ s ∷ rs) = ⊥

  at_most_one : (rows : ℕ) (cs : List NamedColumn) → Ascend cs
      → AllByRecursion (λ c. row_count_of (c.stored).column ≡ rows) cs → AtMostOne rows (found cs)
  at_most_one rows [] up long = tt
  at_most_one rows (c ∷ cs) up long = by (test c) refl (at_most_one rows cs (ascend_rest c cs up) long.1)
    where
      by : (b : Bool) → test c ≡ b → AtMostOne rows (found cs)
          → AtMostOne rows (cond b (file_row file c ∷ found cs) (found cs))
      by true mine rest =
          subst (λ (rs : List Row). AtMostOne rows (file_row file c ∷ rs))
          (sym (none_found c mine cs (all_above c cs up)))
          (record { file = file; stored = c.stored }, refl, refl, long.0)
      by false mine rest = rest

-- ---- the columns of a file

kind_of_code : (code : ℕ) → code < 7 → kind_of (type_of_code code) ≡ code - 1
kind_of_code zero lt = refl
kind_of_code (suc zero) lt = refl
kind_of_code (suc (suc zero)) lt = refl
kind_of_code (suc (suc (suc zero))) lt = refl
kind_of_code (suc (suc (suc (suc zero)))) lt = refl
kind_of_code (suc (suc (suc (suc (suc zero))))) lt = refl
kind_of_code (suc (suc (suc (suc (suc (suc zero)))))) lt = refl
kind_of_code (suc (suc (suc (suc (suc (suc (suc n))))))) lt = absurd (omega (arith, lt))

places_apart : (a b : ℕ) → are_apart a b ≡ true → a - 1 < b - 1
places_apart a b e = grind (arith, nat_tests, e)

kinds_apart : (a b : ℕ) → a < 7 → b < 7 → are_apart a b ≡ true
    → is_lt (nat_cmp (kind_of (type_of_code a)) (kind_of (type_of_code b))) ≡ true
kinds_apart a b lt lt' e =
    (λ j. is_lt (nat_cmp (kind_of_code a lt j) (kind_of_code b lt' j)))
    ∙ is_lt-below (a - 1) (b - 1) (places_apart a b e)

follows : (o : Ordering) (a b : ℕ) → a < 7 → b < 7 → (is_lt o || (is_eq o && are_apart a b)) ≡ true
    → is_lt (ordering_then o (nat_cmp (kind_of (type_of_code a)) (kind_of (type_of_code b)))) ≡ true
follows Less a b lt lt' e = refl
follows Equal a b lt lt' e = kinds_apart a b lt lt' e
follows Greater a b lt lt' e = absurd (false≢true e)

module _ (bytes : List ℕ) (is : IsColumnFile bytes) where
  abbrev table : List ℕ
  table = table_of bytes

  abbrev column_at : ℕ → NamedColumn
  column_at i = named_column bytes table (row_count bytes) i

  key_at : (i : ℕ) → key_of (column_at i)
      ≡ (path_in table (place_of table i), kind_of (type_of_code (code_in table (place_of table i))))
  unfolding named_column
  key_at i = λ j. (
    path_in table (place_of table i),
    kind_of (type_read (type_of_code (code_in table (place_of table i))) (row_count bytes)
        (column_bytes bytes table i) j),
  )

  next_above : (i : ℕ) → i + 1 < column_count bytes → IsAbove (column_at i) (column_at (i + 1))
  unfolding may_follow
  next_above i lt =
      let first = is.entries.each i (omega (arith, lt)) in
      let second = is.entries.each (i + 1) lt in
      (λ j. is_lt (key_cmp (key_at i j) (key_at (i + 1) j)))
      ∙ follows (slice_cmp nat_cmp (path_in table (place_of table i)) (path_in table (place_of table (i + 1))))
      (code_in table (place_of table i)) (code_in table (place_of table (i + 1))) first.known second.known
      (is.entries.follow i lt)

  all_ascend : (place n : ℕ) → place + n ≤ column_count bytes → Ascend (map column_at (range_with_len place n))
  all_ascend place zero within = tt
  all_ascend place (suc zero) within = tt
  all_ascend place (suc (suc n)) within = (
    next_above place (omega (arith, within)),
    all_ascend (place + 1) (suc n) (omega (arith, within)),
  )

  long_at : (i : ℕ) → row_count_of ((column_at i).stored).column ≡ row_count bytes
  unfolding named_column
  long_at i = has_all_rows (type_of_code (code_in table (place_of table i))) (row_count bytes)
      (column_bytes bytes table i)

  all_long : (place n : ℕ)
      → AllByRecursion (λ c. row_count_of (c.stored).column ≡ row_count bytes) (map column_at (range_with_len place n))
  all_long place zero = tt
  all_long place (suc n) = (long_at place, all_long (place + 1) n)

  one_in_bytes : (path : List ℕ) (kind file : ℕ)
      → AtMostOne path kind file (row_count bytes) (rows_with path kind (map (file_row file) (columns_from bytes 0)))
  unfolding columns_from
  one_in_bytes path kind file =
      at_most_one path kind file (row_count bytes)
      (map column_at (range_with_len 0 (column_count bytes - 0)))
      (all_ascend 0 (column_count bytes - 0) (omega arith)) (all_long 0 (column_count bytes - 0))

one_of_file : (path : List ℕ) (kind file : ℕ) (f : ColumnFile) → IsOfFile f
    → AtMostOne path kind file f.rows (rows_with path kind (map (file_row file) f.columns))
one_of_file path kind file f of =
    subst (λ (g : ColumnFile). AtMostOne path kind file g.rows (rows_with path kind (map (file_row file) g.columns)))
    (sym of.read) (one_in_bytes of.bytes of.is_file path kind file)

-- ---- rows of one key

abbrev Fits : List ℕ → ℕ → Option PlacedColumn → ℕ → Type 0
Fits counts first None next = next ≡ first
Fits counts first (Some c) next =
    (first ≤ c.file) × (c.file < length counts) × (row_count_of (c.stored).column ≡ get_or counts c.file 0)
    × (next ≡ c.file + 1)

-- each is of another file, from one on
abbrev AreIn : List ℕ → ℕ → List Row → Type 0
AreIn counts first [] = Unit {0}
AreIn counts first (r ∷ rs) = (next : ℕ) × Fits counts first r.column next × AreIn counts next rs

module _ (path : List ℕ) (kind : ℕ) (counts : List ℕ) where
  with_file : (file rows : ℕ) → file < length counts → rows ≡ get_or counts file 0 → (own rest : List Row)
      → AtMostOne path kind file rows own → (first : ℕ) → first ≤ file
      → ((next : ℕ) → next ≤ file + 1 → AreIn counts next rest) → AreIn counts first (own ++ rest)
  with_file file rows lt is [] rest own first le later = later first (omega (arith, le))
  with_file file rows lt is (r ∷ []) rest own first le later = (
    file + 1,
    subst (λ (o : Option PlacedColumn). Fits counts first o (file + 1)) (sym own.1) (
      omega (arith, own.2, le),
      omega (arith, own.2, lt),
      own.3 ∙ is ∙ ap (λ (n : ℕ). get_or counts n 0) (sym own.2),
      omega (arith, own.2),
    ),
    later (file + 1) (omega arith),
  )
  with_file file rows lt is (r ∷ s ∷ rs) rest own first le later = absurd own

  in_files : (fs : List ColumnFile) → AllByRecursion IsOfFile fs → (first file : ℕ) → first ≤ file
      → ((k : ℕ) → k < length fs → get_or (map (λ f. f.rows) fs) k 0 ≡ get_or counts (file + k) 0)
      → file + length fs ≤ length counts → AreIn counts first (rows_with path kind (file_rows file fs))
  in_files [] of first file le same within = tt
  in_files (f ∷ fs) of first file le same within =
      subst (AreIn counts first)
      (sym (filter-append (is_of path kind) (map (file_row file) f.columns) (file_rows (file + 1) fs)))
      (with_file file f.rows (omega (arith, within))
      (same 0 (omega arith) ∙ ap (λ (n : ℕ). get_or counts n 0) (omega arith))
      (rows_with path kind (map (file_row file) f.columns)) (rows_with path kind (file_rows (file + 1) fs))
      (one_of_file path kind file f of.0) first le
      (λ next le'. in_files fs of.1 next (file + 1) le'
      (λ k lt. same (suc k) (omega (arith, lt)) ∙ ap (λ (n : ℕ). get_or counts n 0) (omega arith))
      (omega (arith, within))))

  in_front : (required : List (String Global × ColumnType)) (rest : List Row) → AreIn counts 0 rest
      → AreIn counts 0 (rows_with path kind (map required_row required) ++ rest)
  in_front [] rest are = are
  in_front (r ∷ rs) rest are = by (is_of path kind (required_row r)) (in_front rs rest are)
    where
      by : (b : Bool) → AreIn counts 0 (rows_with path kind (map required_row rs) ++ rest)
          → AreIn counts 0 (cond b (required_row r ∷ rows_with path kind (map required_row rs))
          (rows_with path kind (map required_row rs)) ++ rest)
      by true are = (0, refl, are)
      by false are = are

  in_all : (required : List (String Global × ColumnType)) (files : List ColumnFile) → AllByRecursion IsOfFile files
      → counts ≡ map (λ (f : ColumnFile). f.rows) files
      → AreIn counts 0 (rows_with path kind (all_rows required files))
  in_all required files of is =
      let many : length counts ≡ length files = ap length is ∙ length-map files (λ (f : ColumnFile). f.rows) in
      subst (AreIn counts 0) (sym (filter-append (is_of path kind) (map required_row required) (file_rows 0 files)))
      (in_front required (rows_with path kind (file_rows 0 files))
      (in_files files of 0 0 (omega arith)
      (λ k lt. (λ j. get_or (sym is j) k 0) ∙ ap (λ (n : ℕ). get_or counts n 0) (omega arith))
      (omega (arith, many))))

fits_row : (counts : List ℕ) (first next : ℕ) (o : Option FileColumn) → Fits counts first (column_in o) next
    → FileFits counts first o next
fits_row counts first next None fits = fits
fits_row counts first next (Some c) fits = fits

of_rows : (counts : List ℕ) (first : ℕ) (rows : List TableRow) → AreIn counts first (map table_row rows)
    → AreOfFiles counts first rows
of_rows counts first [] are = tt
of_rows counts first (r ∷ rs) are =
    (are.0, fits_row counts first are.0 r.column are.1, of_rows counts are.0 rs are.2)

-- the rows of a path and a kind are each of another file, and have all its rows
pub all_of_files : (path : List ℕ) (kind : ℕ) (required : List (String Global × ColumnType))
    (files : List ColumnFile) → AllByRecursion IsOfFile files → (counts : List ℕ)
    → counts ≡ map (λ (f : ColumnFile). f.rows) files → (rows : List TableRow)
    → map table_row rows ≡ rows_with path kind (all_rows required files) → AreOfFiles counts 0 rows
all_of_files path kind required files of counts is rows are =
    of_rows counts 0 rows (subst (AreIn counts 0) (sym are) (in_all path kind counts required files of is))
