-- The next group of a sorted table is put.
use Rattle.std.proofs.Common.{◌≡◌, ℕ, ◌+◌, ◌-◌, ◌<◌, ◌≤◌, Bool, true, false, ◌||◌, cond, List, [], ◌∷◌, ◌++◌, length, map, take, drop, get_or, Option, Some, None, refl, sym, ap, subst, ◌∙◌, arith}
use Rattle.std.specs.Prelude.{◌&&◌, All, IsUtf8, nat_eq, slice_range}
use Rattle.std.specs.FinMap.{find}
use Rattle.std.specs.List.{AllByRecursion, list_any}
use Rattle.std.specs.Ordering.{eq_by_cmp, is_eq, is_lt, nat_cmp, ordering_then}
use Rattle.std.specs.Cmp.Lexicographic.{bytes_decides, slice_cmp}
use Rattle.std.specs.declared.cmp.Ordering.{Ordering}
use Rattle.std.specs.declared.cmp.Ordering.TheVariants.{Less, Equal, Greater}
use Rattle.std.specs.Str.{bytes_eq}
use Rattle.std.proofs.lemmas.Bool.{and_parts, false≢true}
use Rattle.std.proofs.lemmas.Bool.Decides.{nat_tests}
use Rattle.seg_common.proofs.Lists.{all_both}
use Rattle.std.proofs.lemmas.List.{append-nil, get_or-drop, get_or-take, get_or_default, length-drop, length-take-le, map-append, take-append-drop, take-take}
use Rattle.std.proofs.lemmas.List.Elements.{All-from_recursion, recursion_from_All}
use Rattle.std.proofs.lemmas.Slice.{between_is}
use Rattle.std.proofs.lemmas.List.Folds.{list_any-append}
use Rattle.seg_common.specs.declared.column_type.ColumnType.{ColumnType}
use Rattle.seg_common.specs.declared.column_type.ColumnType.TheVariants as types
use Rattle.seg_model.specs.Columns.{ColumnKey, ColumnValue, column_cmp, type_place}
use Rattle.seg_columns.specs.DynamicColumns.{IsColumnOf, column_of}
use Rattle.seg_column_file.specs.ColumnTable.{are_apart}
use Rattle.seg_column_format.specs.FileBytes.{AreInOrder, IsWritten, WrittenColumn, code_of, may_stand_after, read_column}
use Rattle.seg_column_format.specs.ModelColumns.{column_key, column_rows}
use Rattle.seg_column_format.proofs.Exports.{type_read, same_type}
use Rattle.seg_column_merge.specs.Cells.{cells, is_absent, is_of, rows_with}
use Rattle.seg_column_merge.specs.Decisions.{merged_type}
use Rattle.seg_column_merge.specs.Groups.{AreOfFiles, IsGroup, has_key}
use Rattle.seg_column_merge.specs.MergedBytes.{HasType, IsMerge, RowFits, places_of}
use Rattle.seg_column_merge.specs.MergedFiles.{AddsGroup, AreGroupColumns, IsColumnGroup, IsMergedColumn, values_of}
use Rattle.seg_column_merge.specs.MergedGroups.{IsBelow, IsCut, IsTableOf, SoFar, covers, entries_in, entry_in, found_at, mixed_at, row_lt}
use Rattle.seg_column_merge_parts.specs.Tables.{Row, all_rows, column_in, kind_of, row_of}
use Rattle.seg_column_merge.specs.declared.merge.Merge.{Merge}
use Rattle.seg_column_merge.specs.declared.merged_file.MergedFile.{MergedFile}
use Rattle.seg_column_merge_parts.specs.declared.tables.TableRow.{TableRow}
use Rattle.seg_column_merge.proofs.AgreeingTypes.{types_agree}
use Rattle.seg_column_merge.proofs.ModelColumns.{at_type}
use Rattle.seg_column_merge.proofs.DecidedColumns.{model_has, model_mixed, model_unmixed}
use Rattle.seg_column_merge.proofs.GroupSteps.{kind_decided}
use Rattle.seg_column_merge.proofs.KeyGroups.{cut_after, group_is_all}
use Rattle.seg_column_merge.proofs.ColumnKeys.{key_is}
use Rattle.seg_column_merge.proofs.KeyOrder.{key_cmp, key_then}
use Rattle.seg_column_merge.proofs.FileColumns.{all_of_files}

-- ---- the rows between two places

module _ (table : List TableRow) (start stop : ℕ) (lt : start < stop) (within : stop ≤ length table) where
  abbrev pub rows : List TableRow
  rows = slice_range table start stop

  rows_are : rows ≡ drop start (take stop table)
  rows_are = between_is table start stop

  long : length (drop start (take stop table)) ≡ stop - start
  long = length-drop start (take stop table) ∙ ap (λ (n : ℕ). n - start) (length-take-le stop table within)

  at : (k : ℕ) (d : TableRow) → start + k < stop
      → get_or (drop start (take stop table)) k d ≡ get_or table (start + k) d
  at k d below = get_or-drop start (take stop table) k d ∙ get_or-take stop table (start + k) d below

  -- what holds of all of a table's rows there
  pub all_between : (P : TableRow → Type 0)
      → ((k : ℕ) (d : TableRow) → start ≤ k → k < stop → P (get_or table k d)) → All P rows
  all_between P holds = subst (All P) (sym rows_are) (λ k d below.
      let inside : start + k < stop = omega (arith, below, long, lt) in
      subst P (sym (at k d inside)) (holds (start + k) d (omega arith) inside))

  pub some_rows : 0 < length rows
  some_rows = subst (λ (rs : List TableRow). 0 < length rs) (sym rows_are) (omega (arith, long, lt))

  pub first_is : (x : TableRow) → x ≡ get_or table start x → (d : TableRow) → get_or rows 0 d ≡ x
  first_is x is d =
      ap (λ (rs : List TableRow). get_or rs 0 d) rows_are ∙ at 0 d (omega (arith, lt))
      ∙ ap (λ (n : ℕ). get_or table n d) (omega arith)
      ∙ get_or_default table start d x (omega (arith, lt, within)) ∙ sym is

  pub front_more : take stop table ≡ take start table ++ rows
  front_more =
      sym (take-append-drop start (take stop table))
      ∙ (λ j. take-take start stop table (omega (arith, lt)) j ++ sym rows_are j)

-- the first of some rows
headed : (rows : List TableRow) (x : TableRow) → 0 < length rows → ((d : TableRow) → get_or rows 0 d ≡ x)
    → rows ≡ x ∷ drop 1 rows
headed [] x some is = absurd (omega (arith, some))
headed (r ∷ rs) x some is = ap (λ (y : TableRow). y ∷ rs) (is r)

same_types : (t : ColumnType) (rows : List TableRow) → AllByRecursion (λ s. s.type ≡ t) (map row_of rows)
    → AllByRecursion (λ s. s.column_type ≡ t) rows
same_types t [] all = tt
same_types t (r ∷ rs) all = (all.0, same_types t rs all.1)

-- ---- tests of rows

all_none : {X : Type 0} (test : X → Bool) (xs : List X) → AllByRecursion (λ x. test x ≡ false) xs
    → list_any test xs ≡ false
all_none test [] all = refl
all_none test (x ∷ xs) all = (λ j. all.0 j || list_any test xs) ∙ all_none test xs all.1

any_one : {X : Type 0} (test : X → Bool) (b : Bool) (xs : List X) → 0 < length xs
    → AllByRecursion (λ x. test x ≡ b) xs → list_any test xs ≡ b
any_one test b [] some all = absurd (omega (arith, some))
any_one test true (x ∷ xs) some all = ap (λ (c : Bool). c || list_any test xs) all.0
any_one test false (x ∷ xs) some all = all_none test (x ∷ xs) all

-- ---- what is found in entries

module _ {V : Type 0} (q : ColumnKey) where
  abbrev or_other : Option V → Option V → Option V
  or_other None o = o
  or_other (Some v) o = Some v

  find_both : (xs ys : List (ColumnKey × V))
      → find column_cmp q (xs ++ ys) ≡ or_other (find column_cmp q xs) (find column_cmp q ys)
  find_both [] ys = refl
  find_both (e ∷ es) ys = by (eq_by_cmp column_cmp q e.0) (find_both es ys)
    where
      by : (b : Bool) → find column_cmp q (es ++ ys) ≡ or_other (find column_cmp q es) (find column_cmp q ys)
          → cond b (Some e.1) (find column_cmp q (es ++ ys))
          ≡ or_other (cond b (Some e.1) (find column_cmp q es)) (find column_cmp q ys)
      by true rest = refl
      by false rest = rest

  both_found : (a b : Bool) (f : Option V) → or_other (cond a f None) (cond b f None) ≡ cond (a || b) f None
  both_found true true None = refl
  both_found true false None = refl
  both_found true b (Some v) = refl
  both_found false b f = refl

  pub find_more : (xs ys : List (ColumnKey × V)) (a b : Bool) (f : Option V) → find column_cmp q xs ≡ cond a f None
      → find column_cmp q ys ≡ cond b f None → find column_cmp q (xs ++ ys) ≡ cond (a || b) f None
  find_more xs ys a b f first second =
      find_both xs ys ∙ (λ j. or_other (first j) (second j)) ∙ both_found a b f

-- ---- columns in order

code_bound : (t : ColumnType) → code_of t ≤ kind_of t + 1
code_bound types.I64 = omega arith
code_bound types.U64 = omega arith
code_bound types.Bytes = omega arith
code_bound types.Str = omega arith
code_bound types.Bool = omega arith
code_bound types.IpAddr = omega arith
code_bound types.DateTime = omega arith

apart : (a b k m : ℕ) → a ≤ k + 1 → k < m → b ≡ m + 1 → are_apart a b ≡ true
apart a b k m le lt is = grind (arith, nat_tests, le, lt, is)

codes_apart : (t u : ColumnType) → kind_of t < kind_of u → are_apart (code_of t) (code_of u) ≡ true
codes_apart t types.I64 lt = absurd (omega (arith, lt))
codes_apart t types.U64 lt = absurd (omega (arith, lt))
codes_apart t types.Bytes lt = apart (code_of t) 2 (kind_of t) 1 (code_bound t) lt refl
codes_apart t types.Str lt = apart (code_of t) 3 (kind_of t) 2 (code_bound t) lt refl
codes_apart t types.Bool lt = apart (code_of t) 4 (kind_of t) 3 (code_bound t) lt refl
codes_apart t types.IpAddr lt = apart (code_of t) 5 (kind_of t) 4 (code_bound t) lt refl
codes_apart t types.DateTime lt = apart (code_of t) 6 (kind_of t) 5 (code_bound t) lt refl

less_number : (a b : ℕ) → is_lt (nat_cmp a b) ≡ true → a < b
less_number a b e = grind (arith, nat_tests, e)

after_by : (o : Ordering) (t u : ColumnType) → is_lt (ordering_then o (nat_cmp (kind_of t) (kind_of u))) ≡ true
    → (is_lt o || (is_eq o && are_apart (code_of t) (code_of u))) ≡ true
after_by Less t u e = refl
after_by Equal t u e = codes_apart t u (less_number (kind_of t) (kind_of u) e)
after_by Greater t u e = absurd (false≢true e)

-- a column whose key is below that of a row may stand before the row's
may_stand : (c d : WrittenColumn) (x : TableRow) → IsBelow x c → d.path ≡ x.path.now
    → kind_of d.type ≡ kind_of x.column_type → may_stand_after c d ≡ true
may_stand c d x below path kind =
    after_by (slice_cmp nat_cmp c.path d.path) c.type d.type
    ((λ j. is_lt (ordering_then (slice_cmp nat_cmp c.path (path j)) (nat_cmp (kind_of c.type) (kind j)))) ∙ below)

order_more : (columns : List WrittenColumn) (d : WrittenColumn) → AreInOrder columns
    → AllByRecursion (λ c. may_stand_after c d ≡ true) columns → AreInOrder (columns ++ d ∷ [])
order_more [] d order all = tt
order_more (c ∷ []) d order all = (all.0, tt)
order_more (c ∷ e ∷ cs) d order all = (order.0, order_more (e ∷ cs) d order.1 all.1)

all_stand : (columns : List WrittenColumn) (d : WrittenColumn) (x : TableRow) → AllByRecursion (IsBelow x) columns
    → d.path ≡ x.path.now → kind_of d.type ≡ kind_of x.column_type
    → AllByRecursion (λ c. may_stand_after c d ≡ true) columns
all_stand [] d x below path kind = tt
all_stand (c ∷ cs) d x below path kind = (may_stand c d x below.0 path kind, all_stand cs d x below.1 path kind)

below_next : (x y : TableRow) → row_lt x y ≡ true → (columns : List WrittenColumn)
    → AllByRecursion (IsBelow x) columns → AllByRecursion (IsBelow y) columns
below_next x y lt [] all = tt
below_next x y lt (c ∷ cs) all = (
  key_then (c.path, kind_of c.type) (x.path.now, kind_of x.column_type) (y.path.now, kind_of y.column_type) all.0 lt,
  below_next x y lt cs all.1,
)

-- ---- what a column reads as

module _ (path : List ℕ) (t : ColumnType) (values : List (List ColumnValue)) (rows : ℕ) (c : WrittenColumn)
    (is : IsMergedColumn path t values rows c) where
  key_of_column : column_key (read_column rows c) ≡ record { path = path; type = t }
  key_of_column = λ j. record {
    path = is.path_is j;
    type = (type_read c.type rows c.bytes ∙ is.type_is) j;
  }

  rows_of_column : column_rows ((read_column rows c).stored).column ≡ values
  rows_of_column = ap (λ (u : ColumnType). column_rows (column_of u rows c.bytes)) is.type_is ∙ is.read

  pub entry_is : entry_in rows c ≡ (record { path = path; type = t }, values)
  entry_is = λ j. (key_of_column j, rows_of_column j)

  pub written_is : IsUtf8 path → IsWritten rows c
  written_is utf8 = record {
    utf8 = subst IsUtf8 (sym is.path_is) utf8;
    column = subst (λ (u : ColumnType). IsColumnOf u rows c.bytes) (sym is.type_is) is.column;
  }

module _ (merge : Merge) (is_merge : IsMerge merge) (table : List TableRow)
    (of : IsTableOf merge.required.now merge.columnars.now table) (start stop : ℕ) (x : TableRow)
    (there : start < length table) (first : x ≡ get_or table start x) (group : IsGroup table start stop)
    (cut : IsCut table start) where
  abbrev these : List TableRow
  these = slice_range table start stop

  abbrev path : List ℕ
  path = x.path.now

  abbrev kind : ℕ
  kind = kind_of x.column_type

  below : (k : ℕ) (d : TableRow) → k < start → row_lt (get_or table k d) x ≡ true
  below k d lt =
      ap (row_lt (get_or table k d)) (first ∙ get_or_default table start x d there) ∙ cut.below k d lt there

  -- they are all of their path and kind
  all_of_them : map row_of these ≡ rows_with path kind (all_rows merge.required.now merge.columnars.now)
  all_of_them =
      group_is_all of.old table of.sorted of.stable start stop x there first group below
      ∙ ap (rows_with path kind) of.rows

  headed_rows : these ≡ x ∷ drop 1 these
  headed_rows = headed these x (some_rows table start stop group.some group.within)
      (first_is table start stop group.some group.within x first)

  keyed : (k : ℕ) (d : TableRow) → start ≤ k → k < stop → has_key (get_or table k d) x ≡ true
  keyed k d le lt =
      ap (has_key (get_or table k d)) (first ∙ get_or_default table start x d there) ∙ group.same k d le lt

  same_kind : (r : TableRow) → has_key r x ≡ true → kind_of r.column_type ≡ kind
  same_kind r key =
      let parts = and_parts (bytes_eq r.path.now path) (nat_eq (kind_of r.column_type) kind) key in
      grind (arith, nat_tests, parts.1)

  same_path : (r : TableRow) → has_key r x ≡ true → r.path.now ≡ path
  same_path r key =
      let parts = and_parts (bytes_eq r.path.now path) (nat_eq (kind_of r.column_type) kind) key in
      (bytes_decides r.path.now path).0 parts.0

  agree : (r : TableRow) (rest : List TableRow) → these ≡ r ∷ rest → is_absent (column_in r.column) ≡ true
      → AllByRecursion (λ s. s.type ≡ r.column_type) (map row_of rest)
  agree r rest is absent =
      types_agree merge.required.now merge.columnars.now is_merge.can.types path kind (row_of r) (map row_of rest)
      (sym all_of_them ∙ ap (map row_of) is) absent

  pub of_files : AreOfFiles merge.counts.now 0 these
  of_files =
      all_of_files path kind merge.required.now merge.columnars.now of.read merge.counts.now is_merge.counts these
      all_of_them

  pub is_group : All (λ r. RowFits merge.kept.now r.column) these → IsColumnGroup merge these
  is_group fits = record {
    decidable = record {
      files = of_files;
      types = all_between table start stop group.some group.within (λ r. HasType r.column_type r.column)
          (λ k d le lt. of.typed k d (omega (arith, lt, group.within)));
      fits = fits;
      kinds = (
        kind,
        all_between table start stop group.some group.within (λ r. kind_of r.column_type ≡ kind)
            (λ k d le lt. same_kind (get_or table k d) (keyed k d le lt)),
      );
    };
    agree = λ r rest is absent.
        subst (All (λ s. s.column_type ≡ r.column_type)) (sym is)
        (All-from_recursion (λ (s : TableRow). s.column_type ≡ r.column_type) (r ∷ rest)
        (refl, same_types r.column_type rest (agree r rest is absent)));
  }

  -- ---- what the model has at their keys

  abbrev values : List (List ColumnValue)
  values = values_of merge these

  abbrev ours : ColumnKey → Bool
  ours q = is_of q.path (kind_of q.type) (row_of x)

  module _ (q : ColumnKey) (mine : ours q ≡ true) where
    path_is : q.path ≡ path
    path_is =
        let parts = and_parts (bytes_eq q.path path) (nat_eq kind (kind_of q.type)) mine in
        (bytes_decides q.path path).0 parts.0

    kind_is : kind ≡ kind_of q.type
    kind_is =
        let parts = and_parts (bytes_eq q.path path) (nat_eq kind (kind_of q.type)) mine in
        grind (arith, nat_tests, parts.1)

    rows_are_these : rows_with q.path (kind_of q.type) (all_rows merge.required.now merge.columnars.now)
        ≡ map row_of these
    rows_are_these =
        (λ j. rows_with (path_is j) (sym kind_is j) (all_rows merge.required.now merge.columnars.now)) ∙ sym all_of_them

    with_first : rows_with q.path (kind_of q.type) (all_rows merge.required.now merge.columnars.now)
        ≡ row_of x ∷ map row_of (drop 1 these)
    with_first = rows_are_these ∙ ap (map row_of) headed_rows

    agreed : is_absent (column_in x.column) ≡ true
        → AllByRecursion (λ s. s.type ≡ x.column_type) (map row_of (drop 1 these))
    agreed absent = agree x (drop 1 these) headed_rows absent

    same_values : cells (rows_with q.path (kind_of q.type) (all_rows merge.required.now merge.columnars.now))
        (places_of merge) ≡ values
    same_values = ap (λ (rs : List Row). cells rs (places_of merge)) rows_are_these

    told : (o : Option (Option ColumnType)) → merged_type (map row_of these) values ≡ o
        → merged_type (row_of x ∷ map row_of (drop 1 these))
        (cells (rows_with q.path (kind_of q.type) (all_rows merge.required.now merge.columnars.now))
        (places_of merge)) ≡ o
    told o is =
        (λ j. merged_type (ap (map row_of) (sym headed_rows) j) (same_values j)) ∙ is

    has_at : (t : Option ColumnType) → merged_type (map row_of these) values ≡ Some t
        → found_at merge q ≡ at_type t q.type values
    has_at t is =
        model_has merge.required.now merge.columnars.now (places_of merge) q (row_of x) (map row_of (drop 1 these))
        with_first kind_is agreed t (told (Some t) is)
        ∙ ap (at_type t q.type) same_values

    pub clear_at : (t : Option ColumnType) → merged_type (map row_of these) values ≡ Some t → mixed_at merge q ≡ false
    clear_at t is =
        model_unmixed merge.required.now merge.columnars.now (places_of merge) q (row_of x) (map row_of (drop 1 these))
        with_first kind_is agreed t (told (Some t) is)

    mixed_here : merged_type (map row_of these) values ≡ None → mixed_at merge q ≡ true
    mixed_here is =
        model_mixed merge.required.now merge.columnars.now (places_of merge) q (row_of x) (map row_of (drop 1 these))
        with_first kind_is agreed (told None is)

  -- a key of theirs
  abbrev pub their_key : ColumnKey
  their_key = record { path = path; type = x.column_type }

  theirs : ours their_key ≡ true
  theirs = (λ j. bytes_itself path j && nat_eq kind kind) ∙ number_itself kind
    where
      number_itself : (n : ℕ) → nat_eq n n ≡ true
      number_itself n = grind (arith, nat_tests)

      bytes_itself : (bs : List ℕ) → bytes_eq bs bs ≡ true
      bytes_itself bs = (bytes_decides bs bs).1 refl

  pub key_mixed : merged_type (map row_of these) values ≡ None → mixed_at merge their_key ≡ true
  key_mixed is = mixed_here their_key theirs is

  pub kinds_decided : (t : ColumnType) → merged_type (map row_of these) values ≡ Some (Some t) → kind_of t ≡ kind
  kinds_decided t is = kind_decided x (drop 1 these) values t
      (ap (λ (rs : List TableRow). merged_type (map row_of rs) values) (sym headed_rows) ∙ is)

  -- ---- which keys they cover

  covered : (q : ColumnKey) → covers these q ≡ ours q
  covered q =
      any_one (λ r. is_of q.path (kind_of q.type) (row_of r)) (ours q) these
      (some_rows table start stop group.some group.within)
      (recursion_from_All (λ (r : TableRow). is_of q.path (kind_of q.type) (row_of r) ≡ ours q) these
      (all_between table start stop group.some group.within
      (λ r. is_of q.path (kind_of q.type) (row_of r) ≡ ours q)
      (λ k d le lt.
      let r = get_or table k d in
      (λ j. bytes_eq q.path (same_path r (keyed k d le lt) j) && nat_eq (same_kind r (keyed k d le lt) j)
      (kind_of q.type)))))

  covers_more : (q : ColumnKey) → covers (take stop table) q ≡ (covers (take start table) q || ours q)
  covers_more q =
      ap (λ (rs : List TableRow). covers rs q) (front_more table start stop group.some group.within)
      ∙ list_any-append (λ r. is_of q.path (kind_of q.type) (row_of r)) (take start table) these
      ∙ ap (λ (b : Bool). covers (take start table) q || b) (covered q)

  -- ---- the columns of the group

  abbrev many : ℕ
  many = length (places_of merge)

  none_found : merged_type (map row_of these) values ≡ Some None → (q : ColumnKey)
      → None ≡ cond (ours q) (found_at merge q) None
  none_found decided q = by (ours q) refl
    where
      by : (b : Bool) → ours q ≡ b → None ≡ cond b (found_at merge q) None
      by true mine = sym (has_at q mine None decided)
      by false mine = refl

  module _ (t : ColumnType) (decided : merged_type (map row_of these) values ≡ Some (Some t))
      (kind_same : kind_of t ≡ kind)
      (c : WrittenColumn) (column : IsMergedColumn path t values many c) where
    -- whether a key is that of the column
    ties_with : (q : ColumnKey) → eq_by_cmp column_cmp q (record { path = path; type = t })
        ≡ (bytes_eq q.path path && nat_eq (type_place q.type) (type_place t))
    ties_with q = key_is (record { path = path; type = t }) q

    not_ours : (q : ColumnKey) → ours q ≡ false
        → (bytes_eq q.path path && nat_eq (type_place q.type) (type_place t)) ≡ false
    not_ours q other = by (bytes_eq q.path path && nat_eq (type_place q.type) (type_place t)) refl
      where
        by : (b : Bool) → (bytes_eq q.path path && nat_eq (type_place q.type) (type_place t)) ≡ b
            → (bytes_eq q.path path && nat_eq (type_place q.type) (type_place t)) ≡ false
        by false e = e
        by true e =
            let parts = and_parts (bytes_eq q.path path) (nat_eq (type_place q.type) (type_place t)) e in
            let places : type_place q.type ≡ type_place t = grind (arith, nat_tests, parts.1) in
            let kinds : kind ≡ kind_of q.type = sym kind_same ∙ sym (ap kind_of (same_type q.type t places)) in
            let same : nat_eq kind (kind_of q.type) ≡ true = grind (arith, nat_tests, kinds) in
            absurd (false≢true (sym other ∙ (λ j. parts.0 j && same j)))

    one_found : (q : ColumnKey)
        → find column_cmp q (entries_in many (c ∷ [])) ≡ cond (ours q) (found_at merge q) None
    one_found q =
        (λ j. find column_cmp q (entry_is path t values many c column j ∷ []))
        ∙ ap (λ (b : Bool). cond b (Some values) None) (ties_with q)
        ∙ by (ours q) refl
      where
        by : (b : Bool) → ours q ≡ b
            → cond (bytes_eq q.path path && nat_eq (type_place q.type) (type_place t)) (Some values) None
            ≡ cond b (found_at merge q) None
        by true mine =
            ap (λ (x : Bool). cond (x && nat_eq (type_place q.type) (type_place t)) (Some values) None)
            ((bytes_decides q.path path).1 (path_is q mine))
            ∙ sym (has_at q mine (Some t) decided)
        by false other = ap (λ (x : Bool). cond x (Some values) None) (not_ours q other)

  -- the columns that the group adds
  record AreNext (added : List WrittenColumn) : Type 0 where
    each : AllByRecursion (IsWritten many) added
    order : (columns : List WrittenColumn) → AreInOrder columns → AllByRecursion (IsBelow x) columns
        → AreInOrder (columns ++ added)
    below : (y : TableRow) → row_lt x y ≡ true → AllByRecursion (IsBelow y) added
    found : (q : ColumnKey) → find column_cmp q (entries_in many added) ≡ cond (ours q) (found_at merge q) None

  utf8 : IsUtf8 path
  utf8 = subst (λ (r : TableRow). IsUtf8 r.path.now) (sym first) (of.utf8 start x there)

  are_next : (type : Option ColumnType) → merged_type (map row_of these) values ≡ Some type
      → ((t : ColumnType) → merged_type (map row_of these) values ≡ Some (Some t) → kind_of t ≡ kind)
      → (added : List WrittenColumn) → AreGroupColumns path type values many added → AreNext added
  are_next None decided kinds [] are = record {
    each = tt;
    order = λ columns order below. subst AreInOrder (sym (append-nil columns)) order;
    below = λ y lt. tt;
    found = λ q. none_found decided q;
  }
  are_next None decided kinds (c ∷ cs) are = absurd are
  are_next (Some t) decided kinds [] are = absurd are
  are_next (Some t) decided kinds (c ∷ []) are =
      let kind_here : kind_of c.type ≡ kind = ap kind_of are.type_is ∙ kinds t decided in
      record {
        each = (written_is path t values many c are utf8, tt);
        order = λ columns order below.
            order_more columns c order (all_stand columns c x below are.path_is kind_here);
        below = λ y lt. (
          (λ j. is_lt (key_cmp (are.path_is j, kind_here j) (y.path.now, kind_of y.column_type))) ∙ lt,
          tt,
        );
        found = λ q. one_found t decided (kinds t decided) c are q;
      }
  are_next (Some t) decided kinds (c ∷ d ∷ cs) are = absurd are

  pub next_cut : IsCut table stop
  next_cut = record {
    below = cut_after of.old table of.sorted of.stable start stop x there first group below;
  }

  pub put_more : (old new : MergedFile) (so_far : SoFar merge table start old)
      → AddsGroup merge path these so_far.columns new
      → ((t : ColumnType) → merged_type (map row_of these) values ≡ Some (Some t) → kind_of t ≡ kind)
      → SoFar merge table stop new
  put_more old new so_far adds kinds =
      let next = are_next adds.type adds.decided kinds adds.added adds.are in
      let below_x : AllByRecursion (IsBelow x) so_far.columns =
      subst (λ (r : TableRow). AllByRecursion (IsBelow r) so_far.columns) (sym first) (so_far.below x there) in
      let later = cut_after of.old table of.sorted of.stable start stop x there first group below in
      record {
        columns = so_far.columns ++ adds.added;
        is = adds.file_is;
        each = all_both (IsWritten many) so_far.columns adds.added so_far.each next.each;
        order = next.order so_far.columns so_far.order below_x;
        below = λ d more.
            let lt : row_lt x (get_or table stop d) ≡ true =
            ap (λ (r : TableRow). row_lt r (get_or table stop d)) (first ∙ get_or_default table start x d there)
            ∙ later start d group.some more in
            all_both (IsBelow (get_or table stop d)) so_far.columns adds.added
            (below_next x (get_or table stop d) lt so_far.columns below_x) (next.below (get_or table stop d) lt);
        found = λ q.
            ap (find column_cmp q) (map-append (entry_in many) so_far.columns adds.added)
            ∙ find_more q (entries_in many so_far.columns) (entries_in many adds.added) (covers (take start table) q)
            (ours q) (found_at merge q) (so_far.found q) (next.found q)
            ∙ ap (λ (b : Bool). cond b (found_at merge q) None) (sym (covers_more q));
        clear = λ q is. by_side q adds.type adds.decided so_far (sym (covers_more q) ∙ is);
        cut = next_cut;
      }
    where
      by_side : (q : ColumnKey) (type : Option ColumnType) → merged_type (map row_of these) values ≡ Some type
          → SoFar merge table start old → (covers (take start table) q || ours q) ≡ true → mixed_at merge q ≡ false
      by_side q type decided before either = by (covers (take start table) q) refl either
        where
          by : (b : Bool) → covers (take start table) q ≡ b → (b || ours q) ≡ true → mixed_at merge q ≡ false
          by true was rest = before.clear q was
          by false was mine = clear_at q mine type decided
