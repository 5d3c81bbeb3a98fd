-- Each row of the columns is what its document recorded.
use Rattle.std.proofs.Common.{◌≡◌, ℕ, zero, suc, ◌+◌, ◌-◌, ◌<◌, Bool, true, false, cond, List, [], ◌∷◌, ◌++◌, length, map, filter, refl, sym, subst, ap, ◌∙◌, arith, append-nil, append_assoc}
use Rattle.std.specs.Prelude.{◌&&◌, ◌||◌, ◌==◌, if◌then◌else◌, not, nat_eq}
use Rattle.std.specs.List.{AllByRecursion, list_any, range_with_len}
use Rattle.std.specs.Ordering.{eq_by_cmp}
use Rattle.std.specs.Str.{bytes_eq}
use Rattle.std.specs.Cmp.Lexicographic.{bytes_decides}
use Rattle.std.proofs.lemmas.Bool.{and_parts, false≢true}
use Rattle.std.proofs.lemmas.Bool.Decides.{Decides-eqb, nat_tests}
use Rattle.std.proofs.lemmas.List.{map-append}
use Rattle.std.proofs.lemmas.List.Elements.{filter-append}
use Rattle.seg_common.specs.TabulatedMaps.{is_among}
use Rattle.seg_common.specs.declared.column_type.ColumnType.{ColumnType}
use Rattle.seg_common.specs.declared.column_type.ColumnType.TheVariants as types
use Rattle.seg_model.specs.Columns.{ColumnKey, ColumnValue, FastValue, number, bytes_value, text_value, boolean_value, ip_value, date_value, column_cmp, column_named, type_place, value_keys, value_types, values_at}
use Rattle.seg_column_writer.specs.DocumentRows.{arranged, kind_of_value, sorts_at, with_rows, with_values}
use Rattle.seg_column_writer.specs.ValueKinds.{kind_of, kind_place}
use Rattle.seg_column_writer.specs.RecordedColumns.{declared_in, rows_at, rows_in}
use Rattle.seg_column_writer.specs.ColumnRecords.{ColumnRecord, Recording, RowedValue, changed_at, is_named, place_of, with_column, with_value}
use Rattle.seg_column_writer.specs.RecordingRules.{with_recorded}
use Rattle.seg_column_writer.specs.declared.value_kind.ValueKind.{ValueKind}
use Rattle.seg_column_writer.proofs.RecordedKeys.{key_eq}
use Rattle.seg_column_writer.proofs.RowOrderedColumns.{any_with, named_path, new_column, place_with}
use Rattle.seg_column_writer.proofs.RecordingRules.{kind_named}

-- ---- values of a row, as they came

abbrev pub row_of : ℕ → Recording → List ColumnValue
row_of at r = map (λ (v : RowedValue). v.value) (filter (λ (v : RowedValue). v.row == at) r.values)

-- the values of a row at a key
abbrev pub values_of_row : ℕ → List ColumnRecord → ColumnKey → List ColumnValue
values_of_row at [] key = []
values_of_row at (c ∷ cs) key =
    if is_named key.path (kind_of key.type) c then row_of at c.recording else values_of_row at cs key

pub rows_split : (count : ℕ) (key : ColumnKey) (cs : List ColumnRecord) → rows_at count cs key
    ≡ map (λ (at : ℕ). arranged (sorts_at cs key) (values_of_row at cs key)) (range_with_len 0 count)
rows_split count key [] = refl
rows_split count key (c ∷ cs) = by (is_named key.path (kind_of key.type) c) (rows_split count key cs)
  where
    by : (b : Bool) → rows_at count cs key
        ≡ map (λ (at : ℕ). arranged (sorts_at cs key) (values_of_row at cs key)) (range_with_len 0 count)
        → cond b (rows_in count c.recording) (rows_at count cs key)
        ≡ map (λ (at : ℕ). arranged (cond b c.recording.sorts (sorts_at cs key))
        (cond b (row_of at c.recording) (values_of_row at cs key))) (range_with_len 0 count)
    by true rest = refl
    by false rest = rest

-- ---- one more value

-- whether a column of this name is at a key
abbrev pub is_at : ColumnKey → List ℕ → ValueKind → Bool
is_at key path kind = nat_eq (kind_place (kind_of key.type)) (kind_place kind) && bytes_eq key.path path

-- what a value of a row adds to another row, where its column is at the key
abbrev pub added : ℕ → ℕ → Bool → ColumnValue → List ColumnValue
added at row is value = cond (is && (row == at)) (value ∷ []) []

module _ (at row : ℕ) (value : ColumnValue) where
  own_row : (r : Recording) → row_of at (with_value row value r) ≡ row_of at r ++ added at row true value
  own_row r =
      let v : RowedValue = record { row = row; value = value } in
      ap (map (λ (v : RowedValue). v.value)) (filter-append (λ (v : RowedValue). v.row == at) r.values (v ∷ []))
      ∙ map-append (λ (v : RowedValue). v.value) (filter (λ (v : RowedValue). v.row == at) r.values)
      (filter (λ (v : RowedValue). v.row == at) (v ∷ []))
      ∙ ap (λ (l : List ColumnValue). row_of at r ++ l) (by (row == at))
    where
      by : (b : Bool) → map (λ (v : RowedValue). v.value) (cond b (record { row = row; value = value } ∷ []) [])
          ≡ cond b (value ∷ []) []
      by true = refl
      by false = refl

  module _ (path : List ℕ) (kind : ValueKind) (key : ColumnKey) where
    abbrev more : List ColumnValue
    more = added at row (is_at key path kind) value

    abbrev change : Recording → Recording
    change = with_value row value

    none_added : (l : List ColumnValue) (b : Bool) → b ≡ false → l ≡ l ++ added at row b value
    none_added l b e = sym (ap (λ (x : Bool). l ++ added at row x value) e ∙ append-nil l)

    here : (c : ColumnRecord) (cs : List ColumnRecord) → is_named path kind c ≡ true
        → values_of_row at (record { path = c.path; recording = change c.recording } ∷ cs) key
        ≡ values_of_row at (c ∷ cs) key ++ more
    here c cs is =
        by (is_named key.path (kind_of key.type) c)
        ∙ ap (λ (x : Bool). values_of_row at (c ∷ cs) key ++ added at row x value)
        (λ j. nat_eq (kind_place (kind_of key.type)) (kind_place (kind_named path kind c is j))
        && bytes_eq key.path (named_path path kind c is j))
      where
        by : (b : Bool) → cond b (row_of at (change c.recording)) (values_of_row at cs key)
            ≡ cond b (row_of at c.recording) (values_of_row at cs key) ++ added at row b value
        by true = own_row c.recording
        by false = sym (append-nil (values_of_row at cs key))

    -- a column of another name isn't at the key of this one
    apart : (c : ColumnRecord) → is_named path kind c ≡ false → is_named key.path (kind_of key.type) c ≡ true
        → (b : Bool) → is_at key path kind ≡ b → b ≡ false
    apart c other is false e = refl
    apart c other is true e =
        let both = and_parts (nat_eq (kind_place (kind_of key.type)) (kind_place kind)) (bytes_eq key.path path) e in
        let k = (Decides-eqb (kind_place (kind_of key.type)) (kind_place kind)).0 both.0 in
        let p = (bytes_decides key.path path).0 both.1 in
        absurd (false≢true (sym other
        ∙ sym (λ j. nat_eq (k j) (kind_place c.recording.kind) && bytes_eq (p j) c.path) ∙ is))

    later : (c : ColumnRecord) (cs ds : List ColumnRecord) → is_named path kind c ≡ false
        → values_of_row at ds key ≡ values_of_row at cs key ++ more
        → values_of_row at (c ∷ ds) key ≡ values_of_row at (c ∷ cs) key ++ more
    later c cs ds other rest = by (is_named key.path (kind_of key.type) c) refl
      where
        by : (b : Bool) → is_named key.path (kind_of key.type) c ≡ b
            → cond b (row_of at c.recording) (values_of_row at ds key)
            ≡ cond b (row_of at c.recording) (values_of_row at cs key) ++ more
        by true is = none_added (row_of at c.recording) (is_at key path kind) (apart c other is (is_at key path kind) refl)
        by false is = rest

    in_place : (cs : List ColumnRecord) → list_any (is_named path kind) cs ≡ true
        → values_of_row at (changed_at change (place_of cs path kind) cs) key ≡ values_of_row at cs key ++ more
    in_place [] there = absurd cc
    in_place (c ∷ cs) there = by (is_named path kind c) refl there (in_place cs)
      where
        by : (b : Bool) → is_named path kind c ≡ b → (b || list_any (is_named path kind) cs) ≡ true
            → (list_any (is_named path kind) cs ≡ true
            → values_of_row at (changed_at change (place_of cs path kind) cs) key ≡ values_of_row at cs key ++ more)
            → values_of_row at (changed_at change (cond (not b) (1 + place_of cs path kind) 0) (c ∷ cs)) key
            ≡ values_of_row at (c ∷ cs) key ++ more
        by true is there rest = here c cs is
        by false is there rest =
            let s : suc (place_of cs path kind) ≡ 1 + place_of cs path kind = omega arith in
            subst (λ (i : ℕ). values_of_row at (changed_at change i (c ∷ cs)) key ≡ values_of_row at (c ∷ cs) key ++ more) s
            (later c cs (changed_at change (place_of cs path kind) cs) is (rest there))

    following : (cs : List ColumnRecord) → values_of_row at (cs ++ new_column path kind ∷ []) key ≡ values_of_row at cs key
    following [] = by (is_named key.path (kind_of key.type) (new_column path kind))
      where
        by : (b : Bool) → cond b (row_of at (new_column path kind).recording) [] ≡ []
        by true = refl
        by false = refl
    following (c ∷ cs) =
        ap (λ (l : List ColumnValue). cond (is_named key.path (kind_of key.type) c) (row_of at c.recording) l) (following cs)

    with_one : (cs : List ColumnRecord) → values_of_row at (with_column cs path kind) key ≡ values_of_row at cs key
    with_one cs = by (list_any (is_named path kind) cs)
      where
        by : (b : Bool) → values_of_row at (cond b cs (cs ++ new_column path kind ∷ [])) key ≡ values_of_row at cs key
        by true = refl
        by false = following cs

    pub row_recorded : (cs : List ColumnRecord)
        → values_of_row at (with_recorded path kind row value cs) key ≡ values_of_row at cs key ++ more
    row_recorded cs =
        ap (λ (i : ℕ). values_of_row at (changed_at change i (with_column cs path kind)) key) (sym (place_with path kind cs))
        ∙ in_place (with_column cs path kind) (any_with path kind cs)
        ∙ ap (λ (l : List ColumnValue). l ++ more) (with_one cs)

-- ---- the values of a document

-- the place of a kind is one below that of a type, but for numbers
pub below_type : (t : ColumnType) → kind_place (kind_of t) ≡ type_place t - 1
below_type types.I64 = refl
below_type types.U64 = refl
below_type types.Bytes = refl
below_type types.Str = refl
below_type types.Bool = refl
below_type types.IpAddr = refl
below_type types.DateTime = refl

same_tests : (a b c d : ℕ) → (a ≡ b → c ≡ d) → (c ≡ d → a ≡ b) → nat_eq a b ≡ (nat_eq c d || false)
same_tests a b c d to from = by (nat_eq a b) (nat_eq c d) refl refl
  where
    by : (x y : Bool) → nat_eq a b ≡ x → nat_eq c d ≡ y → x ≡ (y || false)
    by true true e f = refl
    by false false e f = refl
    by true false e f = absurd (false≢true (sym f ∙ (Decides-eqb c d).1 (to ((Decides-eqb a b).0 e))))
    by false true e f = absurd (false≢true (sym e ∙ (Decides-eqb a b).1 (from ((Decides-eqb c d).0 f))))

abbrev has_type : ColumnType → List ColumnType → Bool
has_type t ts = list_any (λ u. nat_eq (type_place t) (type_place u)) ts

number_test : (t : ColumnType) → nat_eq (kind_place (kind_of t)) 0 ≡ has_type t (types.I64 ∷ types.U64 ∷ [])
number_test types.I64 = refl
number_test types.U64 = refl
number_test types.Bytes = refl
number_test types.Str = refl
number_test types.Bool = refl
number_test types.IpAddr = refl
number_test types.DateTime = refl

plain_test : (t : ColumnType) (k : ℕ) → 0 < k
    → nat_eq (kind_place (kind_of t)) k ≡ (nat_eq (type_place t) (k + 1) || false)
plain_test t k pos =
    let b = below_type t in
    same_tests (kind_place (kind_of t)) k (type_place t) (k + 1) (λ e. omega (arith, b, e, pos)) (λ e. omega (arith, b, e, pos))

kind_test : (t : ColumnType) (v : ColumnValue)
    → nat_eq (kind_place (kind_of t)) (kind_place (kind_of_value v)) ≡ has_type t (value_types v)
kind_test t (number z) = number_test t
kind_test t (bytes_value b) = plain_test t 1 (omega arith)
kind_test t (text_value s) = plain_test t 2 (omega arith)
kind_test t (boolean_value b) = plain_test t 3 (omega arith)
kind_test t (ip_value a) = plain_test t 4 (omega arith)
kind_test t (date_value z) = plain_test t 5 (omega arith)

-- a key is among those of a value where its column is at the key
pub key_named : (key : ColumnKey) (v : FastValue)
    → is_at key v.path (kind_of_value v.value) ≡ is_among column_cmp (value_keys v) key
key_named key v =
    ap (λ (b : Bool). b && bytes_eq key.path v.path) (kind_test key.type v.value) ∙ spread (value_types v.value)
  where
    spread : (ts : List ColumnType) → (has_type key.type ts && bytes_eq key.path v.path)
        ≡ list_any (eq_by_cmp column_cmp key) (map (λ (t : ColumnType). record { path = v.path; type = t }) ts)
    spread [] = refl
    spread (t ∷ ts) =
        by (nat_eq (type_place key.type) (type_place t)) (has_type key.type ts) (bytes_eq key.path v.path)
        ∙ (λ j. sym (key_eq key (record { path = v.path; type = t })) j || spread ts j)
      where
        by : (a b c : Bool) → ((a || b) && c) ≡ ((c && a) || (b && c))
        by true true true = refl
        by true true false = refl
        by true false true = refl
        by true false false = refl
        by false true true = refl
        by false true false = refl
        by false false true = refl
        by false false false = refl

-- what the values of a row add to another one
abbrev pub all_added : ℕ → ℕ → ColumnKey → List FastValue → List ColumnValue
all_added at row key vs = cond (row == at) (values_at key vs) []

module _ (at row : ℕ) (key : ColumnKey) where
  -- of the first value, and of those after it
  parts : (v : FastValue) (vs : List FastValue)
      → added at row (is_at key v.path (kind_of_value v.value)) v.value ++ all_added at row key vs
      ≡ all_added at row key (v ∷ vs)
  parts v vs =
      ap (λ (b : Bool). added at row b v.value ++ all_added at row key vs) (key_named key v)
      ∙ by (is_among column_cmp (value_keys v) key) (row == at)
    where
      others : List FastValue
      others = filter (λ (w : FastValue). is_among column_cmp (value_keys w) key) vs

      by : (n e : Bool) → cond (n && e) (v.value ∷ []) [] ++ cond e (values_at key vs) []
          ≡ cond e (map (λ (w : FastValue). w.value) (cond n (v ∷ filter (λ (w : FastValue). is_among column_cmp (value_keys w) key) vs)
          (filter (λ (w : FastValue). is_among column_cmp (value_keys w) key) vs))) []
      by true true = refl
      by true false = refl
      by false true = refl
      by false false = refl

  pub row_with_values : (vs : List FastValue) (cs : List ColumnRecord)
      → values_of_row at (with_values row vs cs) key ≡ values_of_row at cs key ++ all_added at row key vs
  row_with_values [] cs = sym (ap (λ (l : List ColumnValue). values_of_row at cs key ++ l) (by (row == at))
      ∙ append-nil (values_of_row at cs key))
    where
      by : (b : Bool) → cond b (values_at key []) [] ≡ []
      by true = refl
      by false = refl
  row_with_values (v ∷ vs) cs =
      let kind : ValueKind = kind_of_value v.value in
      row_with_values vs (with_recorded v.path kind row v.value cs)
      ∙ ap (λ (l : List ColumnValue). l ++ all_added at row key vs) (row_recorded at row v.value v.path kind key cs)
      ∙ append_assoc (values_of_row at cs key) (added at row (is_at key v.path kind) v.value) (all_added at row key vs)
      ∙ ap (λ (l : List ColumnValue). values_of_row at cs key ++ l) (parts v vs)

-- ---- the values of all documents

-- what documents add to a row, the first of them in a given one
abbrev pub rows_added : ℕ → ColumnKey → ℕ → List (List FastValue) → List ColumnValue
rows_added at key row [] = []
rows_added at key row (d ∷ ds) = all_added at row key d ++ rows_added at key (row + 1) ds

pub row_with_rows : (at : ℕ) (key : ColumnKey) (row : ℕ) (ds : List (List FastValue)) (cs : List ColumnRecord)
    → values_of_row at (with_rows row ds cs) key ≡ values_of_row at cs key ++ rows_added at key row ds
row_with_rows at key row [] cs = sym (append-nil (values_of_row at cs key))
row_with_rows at key row (d ∷ ds) cs =
    row_with_rows at key (row + 1) ds (with_values row d cs)
    ∙ ap (λ (l : List ColumnValue). l ++ rows_added at key (row + 1) ds) (row_with_values at row key d cs)
    ∙ append_assoc (values_of_row at cs key) (all_added at row key d) (rows_added at key (row + 1) ds)

none_before : (at : ℕ) (key : ColumnKey) (row : ℕ) (ds : List (List FastValue)) → at < row → rows_added at key row ds ≡ []
none_before at key row [] lt = refl
none_before at key row (d ∷ ds) lt =
    (λ j. cond (other j) (values_at key d) [] ++ none_before at key (row + 1) ds (omega (arith, lt)) j)
  where
    other : (row == at) ≡ false
    other = grind (arith, nat_tests, lt)

module _ {X : Type 0} (g : List ColumnValue → X) (key : ColumnKey) where
  after_first : (row : ℕ) (d : List FastValue) (ds : List (List FastValue)) (low count : ℕ) → row < low
      → map (λ (at : ℕ). g (rows_added at key row (d ∷ ds))) (range_with_len low count)
      ≡ map (λ (at : ℕ). g (rows_added at key (row + 1) ds)) (range_with_len low count)
  after_first row d ds low zero lt = refl
  after_first row d ds low (suc count) lt =
      λ j. g (cond (other j) (values_at key d) [] ++ rows_added low key (row + 1) ds)
      ∷ after_first row d ds (low + 1) count (omega (arith, lt)) j
    where
      other : (row == low) ≡ false
      other = grind (arith, nat_tests, lt)

  pub rows_are : (row : ℕ) (ds : List (List FastValue))
      → map (λ (at : ℕ). g (rows_added at key row ds)) (range_with_len row (length ds)) ≡ map (λ d. g (values_at key d)) ds
  rows_are row [] = refl
  rows_are row (d ∷ ds) =
      (λ j. g (first j) ∷ after_first row d ds (row + 1) (length ds) (omega arith) j)
      ∙ ap (λ (l : List X). g (values_at key d) ∷ l) (rows_are (row + 1) ds)
    where
      itself : (row == row) ≡ true
      itself = (Decides-eqb row row).1 refl

      first : all_added row row key d ++ rows_added row key (row + 1) ds ≡ values_at key d
      first = (λ j. cond (itself j) (values_at key d) [] ++ none_before row key (row + 1) ds (omega arith) j)
          ∙ append-nil (values_at key d)

-- ---- what stays

declared_after : (path : List ℕ) (kind : ValueKind) (cs : List ColumnRecord)
    → declared_in (cs ++ new_column path kind ∷ []) ≡ declared_in cs
declared_after path kind [] = refl
declared_after path kind (c ∷ cs) =
    ap (λ (l : List ColumnKey). column_named c.path c.recording.declared ++ l) (declared_after path kind cs)

declared_changed : (row : ℕ) (value : ColumnValue) (i : ℕ) (cs : List ColumnRecord)
    → declared_in (changed_at (with_value row value) i cs) ≡ declared_in cs
declared_changed row value i [] = refl
declared_changed row value zero (c ∷ cs) = refl
declared_changed row value (suc i) (c ∷ cs) =
    ap (λ (l : List ColumnKey). column_named c.path c.recording.declared ++ l) (declared_changed row value i cs)

declared_recorded : (path : List ℕ) (kind : ValueKind) (row : ℕ) (value : ColumnValue) (cs : List ColumnRecord)
    → declared_in (with_recorded path kind row value cs) ≡ declared_in cs
declared_recorded path kind row value cs =
    declared_changed row value (place_of cs path kind) (with_column cs path kind) ∙ by (list_any (is_named path kind) cs)
  where
    by : (b : Bool) → declared_in (cond b cs (cs ++ new_column path kind ∷ [])) ≡ declared_in cs
    by true = refl
    by false = declared_after path kind cs

declared_values : (row : ℕ) (vs : List FastValue) (cs : List ColumnRecord)
    → declared_in (with_values row vs cs) ≡ declared_in cs
declared_values row [] cs = refl
declared_values row (v ∷ vs) cs =
    declared_values row vs (with_recorded v.path (kind_of_value v.value) row v.value cs)
    ∙ declared_recorded v.path (kind_of_value v.value) row v.value cs

pub declared_rows : (row : ℕ) (ds : List (List FastValue)) (cs : List ColumnRecord)
    → declared_in (with_rows row ds cs) ≡ declared_in cs
declared_rows row [] cs = refl
declared_rows row (d ∷ ds) cs = declared_rows (row + 1) ds (with_values row d cs) ∙ declared_values row d cs

module _ (key : ColumnKey) where
  sorts_after : (path : List ℕ) (kind : ValueKind) (cs : List ColumnRecord)
      → sorts_at (cs ++ new_column path kind ∷ []) key ≡ sorts_at cs key
  sorts_after path kind [] = by (is_named key.path (kind_of key.type) (new_column path kind))
    where
      by : (b : Bool) → cond b false false ≡ false
      by true = refl
      by false = refl
  sorts_after path kind (c ∷ cs) =
      ap (λ (b : Bool). cond (is_named key.path (kind_of key.type) c) c.recording.sorts b) (sorts_after path kind cs)

  sorts_changed : (row : ℕ) (value : ColumnValue) (i : ℕ) (cs : List ColumnRecord)
      → sorts_at (changed_at (with_value row value) i cs) key ≡ sorts_at cs key
  sorts_changed row value i [] = refl
  sorts_changed row value zero (c ∷ cs) = refl
  sorts_changed row value (suc i) (c ∷ cs) =
      ap (λ (b : Bool). cond (is_named key.path (kind_of key.type) c) c.recording.sorts b) (sorts_changed row value i cs)

  sorts_recorded : (path : List ℕ) (kind : ValueKind) (row : ℕ) (value : ColumnValue) (cs : List ColumnRecord)
      → sorts_at (with_recorded path kind row value cs) key ≡ sorts_at cs key
  sorts_recorded path kind row value cs =
      sorts_changed row value (place_of cs path kind) (with_column cs path kind) ∙ by (list_any (is_named path kind) cs)
    where
      by : (b : Bool) → sorts_at (cond b cs (cs ++ new_column path kind ∷ [])) key ≡ sorts_at cs key
      by true = refl
      by false = sorts_after path kind cs

  sorts_values : (row : ℕ) (vs : List FastValue) (cs : List ColumnRecord) → sorts_at (with_values row vs cs) key ≡ sorts_at cs key
  sorts_values row [] cs = refl
  sorts_values row (v ∷ vs) cs =
      sorts_values row vs (with_recorded v.path (kind_of_value v.value) row v.value cs)
      ∙ sorts_recorded v.path (kind_of_value v.value) row v.value cs

  pub sorts_rows : (row : ℕ) (ds : List (List FastValue)) (cs : List ColumnRecord)
      → sorts_at (with_rows row ds cs) key ≡ sorts_at cs key
  sorts_rows row [] cs = refl
  sorts_rows row (d ∷ ds) cs = sorts_rows (row + 1) ds (with_values row d cs) ∙ sorts_values row d cs
