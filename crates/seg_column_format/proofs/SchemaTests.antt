-- The test of all columns of a file tells whether they suit the schema.
use Rattle.std.proofs.Common.{◌≡◌, ℕ, zero, suc, ◌+◌, ◌<◌, Bool, true, false, ◌||◌, List, [], ◌∷◌, length, map, Option, Some, None, refl, sym, ap, subst, ◌∙◌, arith}
use Rattle.std.specs.Prelude.{◌-◌, ◌&&◌, not, is_some, nat_eq, IsUtf8}
use Rattle.std.specs.FinMap.{get, get-from_entries}
use Rattle.std.specs.List.{AllByRecursion, list_all, list_any, slice_get, range_with_len}
use Rattle.std.specs.Ordering.{eq_by_cmp}
use Rattle.std.specs.Str.{bytes_eq}
use Rattle.std.proofs.lemmas.Bool.{false≢true, true≢false, or_right, or_parts, and_parts}
use Rattle.std.proofs.lemmas.Bool.Decides.{nat_tests}
use Rattle.std.proofs.lemmas.Map.Keys.{any_passes_from_place}
use Rattle.std.proofs.lemmas.Option.{none-some, same_Some}
use Rattle.seg_common.specs.TabulatedMaps.{is_among}
use Rattle.seg_common.specs.declared.column_type.ColumnType.{ColumnType}
use Rattle.seg_common.proofs.Bytes.{same_bytes, bytes_are}
use Rattle.seg_common.proofs.Numbers.{nat_eq-itself}
use Rattle.seg_columns.specs.DynamicColumns.{type_of}
use Rattle.seg_column_file.specs.ColumnFiles.{IsColumnFile, NamedColumn, column_count, column_file_of, columns_from, named_column, row_count, table_of}
use Rattle.seg_column_format.specs.ModelColumns.{column_key, columns_in}
use Rattle.seg_values.specs.declared.schema.FieldEntry.{FieldEntry}
use Rattle.seg_model.proofs.Exports.{column_cmp_total}
use Rattle.seg_model.specs.Columns.{ColumnKey, column_cmp, declared_columns, declared_type, is_declared, type_place}
use Rattle.seg_model.specs.Fields.{Schema}
use Rattle.seg_model.specs.Shape.{AreRowsOf, IsFreeColumn, is_json_type}
use Rattle.seg_column_format.specs.SchemaColumns.{SuitColumns, declares, has_column, has_declared, has_value, is_declared_by, is_free, is_json_path, is_suited, is_type, suits}
use Rattle.seg_column_format.proofs.DeclaredKeys.{declared_is, key_is}
use Rattle.seg_column_format.proofs.FileKeys.{keys_ascend}
use Rattle.seg_column_format.proofs.JsonPaths.{is_json_path-from, json_path_is, passing}
use Rattle.seg_column_format.proofs.KeyOrder.{one_of_both, same_column}
use Rattle.seg_column_format.proofs.RowTypes.{row_count_is, rows_of_type}
use Rattle.seg_column_format.proofs.FoundColumns.{FoundColumn, Rows, entry, failing, found_column, is_there, rows_at}

-- ---- what each column of a file has

-- a text as path, this many rows, and values of its type
pub record HasShape (documents : ℕ) (c : NamedColumn) : Type 0 where
  pub utf8 : IsUtf8 c.path
  pub rows : length (rows_at c) ≡ documents
  pub of_type : AreRowsOf (type_of (c.stored).column) (rows_at c)

all_from : (P : NamedColumn → Type 0) (at : ℕ → NamedColumn) (start count : ℕ)
    → ((k : ℕ) → k < start + count → P (at k)) → AllByRecursion P (map at (range_with_len start count))
all_from P at start zero each = tt
all_from P at start (suc count) each =
    (each start (omega arith), all_from P at (start + 1) count (λ k lt. each k (omega (arith, lt))))

pub have_shape : (bytes : List ℕ) → IsColumnFile bytes → AllByRecursion (HasShape (row_count bytes)) (columns_from bytes 0)
unfolding columns_from named_column
have_shape bytes file = all_from (HasShape (row_count bytes)) (named_column bytes (table_of bytes) (row_count bytes)) 0 (column_count bytes - 0) (λ k lt.
    by k (omega (arith, lt)))
  where
    by : (k : ℕ) → k < column_count bytes → HasShape (row_count bytes) (named_column bytes (table_of bytes) (row_count bytes) k)
    by k lt = record {
      utf8 = (file.entries.each k lt).utf8;
      rows = row_count_is _ (row_count bytes) _;
      of_type = rows_of_type _;
    }

-- ---- what is declared and free, one by one

either : (a b : Bool) → (a || b) ≡ true → a ≡ false → b ≡ true
either true b h off = absurd (true≢false off)
either false b h off = h

free_is : (schema : Schema) (c : NamedColumn) → IsUtf8 c.path → is_free schema c ≡ true
    → IsFreeColumn schema (column_key c) (rows_at c)
free_is schema c utf8 h =
    let outer = and_parts (is_json_type (type_of (c.stored).column)) _ h in
    let inner = and_parts (is_json_path schema c.path) (has_value c) outer.1 in
    record { filled = inner.1; path = json_path_is schema c.path utf8 inner.0; typed = outer.0 }

is_free-from : (schema : Schema) (c : NamedColumn) → IsFreeColumn schema (column_key c) (rows_at c) → is_free schema c ≡ true
is_free-from schema c f = (λ j. f.typed j && (is_json_path-from schema c.path f.path j && f.filled j))

-- ---- tests of all and of some

all_at : {X : Type 0} (test : X → Bool) (xs : List X) → list_all test xs ≡ true → (i : ℕ) (x : X) → slice_get xs i ≡ Some x
    → test x ≡ true
all_at test [] h i x at = absurd (none-some x at)
all_at test (y ∷ ys) h zero x at = subst (λ z. test z ≡ true) (same_Some y x at) (and_parts (test y) (list_all test ys) h).0
all_at test (y ∷ ys) h (suc i) x at = all_at test ys (and_parts (test y) (list_all test ys) h).1 i x at

pub record Missing {X : Type 0} (test : X → Bool) (xs : List X) : Type 0 where
  pub place : ℕ
  pub item : X
  pub at : slice_get xs place ≡ Some item
  pub fails : test item ≡ false

missing : {X : Type 0} (test : X → Bool) (xs : List X) → list_all test xs ≡ false → Missing test xs
missing test [] h = absurd (true≢false h)
missing test (x ∷ xs) h = by (test x) refl (missing test xs) h
  where
    by : (b : Bool) → test x ≡ b → (list_all test xs ≡ false → Missing test xs) → (b && list_all test xs) ≡ false
        → Missing test (x ∷ xs)
    by false e more h = record { place = 0; item = x; at = refl; fails = e }
    by true e more h = let rest = more h in
        record { place = suc rest.place; item = rest.item; at = rest.at; fails = rest.fails }

module _ {X Y : Type 0} (value : X → Y) (f : X → Bool) (g : Y → Bool) where
  any_mapped : ((x : X) → f x ≡ true → g (value x) ≡ true) → (xs : List X) → list_any f xs ≡ true → list_any g (map value xs) ≡ true
  any_mapped so [] h = h
  any_mapped so (x ∷ xs) h = by (f x) refl (any_mapped so xs) h
    where
      by : (b : Bool) → f x ≡ b → (list_any f xs ≡ true → list_any g (map value xs) ≡ true) → (b || list_any f xs) ≡ true
          → (g (value x) || list_any g (map value xs)) ≡ true
      by true e rest h = ap (λ b. b || list_any g (map value xs)) (so x e)
      by false e rest h = or_right (g (value x)) _ (rest h)

  any_unmapped : ((x : X) → g (value x) ≡ true → f x ≡ true) → (xs : List X) → list_any g (map value xs) ≡ true → list_any f xs ≡ true
  any_unmapped so [] h = h
  any_unmapped so (x ∷ xs) h = by (g (value x)) refl (any_unmapped so xs) h
    where
      by : (b : Bool) → g (value x) ≡ b → (list_any g (map value xs) ≡ true → list_any f xs ≡ true)
          → (b || list_any g (map value xs)) ≡ true → (f x || list_any f xs) ≡ true
      by true e rest h = ap (λ b. b || list_any f xs) (so x e)
      by false e rest h = or_right (f x) _ (rest h)

-- ---- the column of a field

same_place : (t u : ColumnType) (d : Option ColumnType) → is_type t d ≡ true → is_type u d ≡ true
    → nat_eq (type_place t) (type_place u) ≡ true
same_place t u None h k = absurd (false≢true h)
same_place t u (Some d) h k = grind (arith, nat_tests, h, k)

-- a field that declares a key, and a column
meets : (key : ColumnKey) (e : FieldEntry) → declares key.path key.type e ≡ true → (c : NamedColumn)
    → declares c.path (type_of (c.stored).column) e ≡ true → eq_by_cmp column_cmp key (column_key c) ≡ true
meets key e h c k =
    let one = and_parts (bytes_eq e.name key.path) _ h in
    let type = and_parts e.fast _ one.1 in
    let other = and_parts (bytes_eq e.name c.path) _ k in
    let its = and_parts e.fast _ other.1 in
    key_is key (column_key c)
    ∙ (λ j. bytes_are c.path key.path (sym (same_bytes e.name c.path other.0) ∙ same_bytes e.name key.path one.0) j
    && same_place key.type (type_of (c.stored).column) (declared_type e.kind) type.1 its.1 j)

has_one : (e : FieldEntry) (path : List ℕ) (type : ColumnType) → declares path type e ≡ true → has_declared e ≡ true
has_one e path type h =
    let fast = and_parts e.fast _ (and_parts (bytes_eq e.name path) _ h).1 in
    (λ j. fast.0 j && some (declared_type e.kind) fast.1 j)
  where
    some : (d : Option ColumnType) → is_type type d ≡ true → is_some d ≡ true
    some None h = absurd (false≢true h)
    some (Some d) h = refl

there_if : (a b : Bool) → (not a || b) ≡ true → a ≡ true → b ≡ true
there_if true b h k = h
there_if false b h k = absurd (false≢true k)

among_declared : (cs : List NamedColumn) (key : ColumnKey) (e : FieldEntry) → declares key.path key.type e ≡ true
    → (not (has_declared e) || has_column cs e) ≡ true → is_among column_cmp (map column_key cs) key ≡ true
among_declared cs key e h there =
    any_mapped column_key (λ c. declares c.path (type_of (c.stored).column) e) (eq_by_cmp column_cmp key) (meets key e h) cs
    (there_if (has_declared e) (has_column cs e) there (has_one e key.path key.type h))

-- ---- the whole

module _ (schema : Schema) (documents : ℕ) (bytes : List ℕ) (file : IsColumnFile bytes) (counted : row_count bytes ≡ documents) where
  abbrev columns : List NamedColumn
  columns = columns_from bytes 0

  shapes : AllByRecursion (HasShape documents) columns
  shapes = subst (λ (n : ℕ). AllByRecursion (HasShape n) columns) counted (have_shape bytes file)

  -- what is at a key
  at_key : (test : NamedColumn → Bool) → list_all test columns ≡ true → (key : ColumnKey) (rows : Rows)
      → get (columns_in (column_file_of bytes)) key ≡ Some rows → FoundColumn test (HasShape documents) key rows
  at_key test all key rows at = found_column same_column test (HasShape documents) columns key rows all shapes
      (sym (get-from_entries column_cmp_total (map entry columns) key) ∙ at)

  anything : (cs : List NamedColumn) → list_all (λ c. true) cs ≡ true
  anything [] = refl
  anything (c ∷ cs) = anything cs

  module _ (suit : suits schema columns ≡ true) where
    two : (list_all (is_suited schema) columns ≡ true) × (list_all (λ e. not (has_declared e) || has_column columns e) schema ≡ true)
    two = and_parts (list_all (is_suited schema) columns) _ suit

    declared_there : (key : ColumnKey) → is_declared (declared_columns schema) key ≡ true
        → is_some (get (columns_in (column_file_of bytes)) key) ≡ true
    declared_there key h =
        let some = passing (declares key.path key.type) schema (sym (declared_is schema key) ∙ h) in
        is_there columns key ∙ among_declared columns key some.item some.passes
        (all_at (λ e. not (has_declared e) || has_column columns e) schema two.1 some.place some.item some.at)

    pub suited : SuitColumns schema documents (columns_in (column_file_of bytes))
    suited = record {
      declared = declared_there;
      free = λ key rows at off.
          let f = at_key (is_suited schema) two.0 key rows at in
          let free = either (is_declared_by schema f.column.path (type_of (f.column.stored).column)) (is_free schema f.column) f.passes
          (sym (declared_is schema (column_key f.column)) ∙ (ap (is_declared (declared_columns schema)) (sym f.key_is) ∙ off)) in
          subst (λ (k : ColumnKey). IsFreeColumn schema k rows) (sym f.key_is)
          (subst (IsFreeColumn schema (column_key f.column)) f.rows_are (free_is schema f.column f.has.utf8 free));
      rows = λ key rows at.
          let f = at_key (λ c. true) (anything columns) key rows at in (
            ap length (sym f.rows_are) ∙ f.has.rows,
            subst (λ (t : ColumnType). AreRowsOf t rows) (ap (λ (k : ColumnKey). k.type) (sym f.key_is))
                (subst (AreRowsOf (type_of (f.column.stored).column)) f.rows_are f.has.of_type),
          );
      one_number_type = λ path i u.
          absurd (one_of_both path (map column_key columns) (keys_ascend bytes file)
          (sym (is_there columns _) ∙ i) (sym (is_there columns _) ∙ u));
    }

  -- a field whose own column isn't there
  module _ (suit : SuitColumns schema documents (columns_in (column_file_of bytes))) where
    lacks : (place : ℕ) (e : FieldEntry) → slice_get schema place ≡ Some e → (not (has_declared e) || has_column columns e) ≡ false → ⊥
    lacks place e at h = by e.fast refl (declared_type e.kind) refl h
      where
        by : (fast : Bool) → e.fast ≡ fast → (d : Option ColumnType) → declared_type e.kind ≡ d
            → (not (fast && is_some d) || has_column columns e) ≡ false → ⊥
        by false f d k h = true≢false h
        by true f None k h = true≢false h
        by true f (Some t) k h =
            let key : ColumnKey = record { path = e.name; type = t } in
            let declares_it : declares e.name t e ≡ true =
            (λ j. bytes_are e.name e.name refl j && (f j && is_type t (k j))) ∙ nat_eq-itself (type_place t) in
            let declared : is_declared (declared_columns schema) key ≡ true =
            declared_is schema key ∙ any_passes_from_place (declares e.name t) schema place e at declares_it in
            let among = sym (is_there columns key) ∙ suit.declared key declared in
            false≢true (sym h ∙ any_unmapped column_key (λ c. declares c.path (type_of (c.stored).column) e) (eq_by_cmp column_cmp key)
            (λ c tie. let is = same_column key (column_key c) tie in
            subst (λ (q : ColumnKey). declares q.path q.type e ≡ true) is declares_it) columns among)

    pub unsuited : suits schema columns ≡ false → ⊥
    unsuited h = by (list_all (is_suited schema) columns) refl h
      where
        by : (b : Bool) → list_all (is_suited schema) columns ≡ b
            → (b && list_all (λ e. not (has_declared e) || has_column columns e) schema) ≡ false → ⊥
        by true e h = let m = missing (λ e. not (has_declared e) || has_column columns e) schema h in
            lacks m.place m.item m.at m.fails
        by false e h =
            let f = failing (is_suited schema) columns (keys_ascend bytes file) e in
            let no = or_parts (is_declared_by schema f.column.path (type_of (f.column.stored).column)) (is_free schema f.column) f.fails in
            let free = suit.free (column_key f.column) (rows_at f.column)
            (get-from_entries column_cmp_total (map entry columns) (column_key f.column) ∙ f.found)
            (declared_is schema (column_key f.column) ∙ no.0) in
            false≢true (sym no.1 ∙ is_free-from schema f.column free)
