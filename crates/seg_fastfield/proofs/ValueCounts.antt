-- How many values documents have, by those that were recorded of them.
use Rattle.std.proofs.Common.{◌≡◌, ℕ, suc, ◌+◌, ◌*◌, ◌-◌, Bool, true, false, cond, List, [], ◌∷◌, ◌++◌, length, filter, Option, None, Some, refl, sym, ap, ◌∙◌, arith, length-append}
use Rattle.std.specs.Prelude.{◌||◌, ◌&&◌, not, nat_eq}
use Rattle.std.specs.List.{list_any, position_or_len}
use Rattle.std.specs.Ordering.{is_gt}
use Rattle.std.specs.Str.{bytes_eq}
use Rattle.std.specs.Cmp.Lexicographic.{bytes_decides}
use Rattle.std.proofs.lemmas.Bool.{and_parts}
use Rattle.std.proofs.lemmas.Bool.Decides.{Decides-eqb}
use Rattle.std.proofs.lemmas.List.{length-map}
use Rattle.seg_common.specs.TabulatedMaps.{is_among}
use Rattle.seg_common.specs.declared.column_type.ColumnType.{ColumnType}
use Rattle.seg_common.specs.declared.column_type.ColumnType.TheVariants as types
use Rattle.seg_model.specs.Columns.{ColumnKey, ColumnValue, FastValue, number, bytes_value, text_value, boolean_value, ip_value, date_value, column_cmp, declared_type, value_keys, values_at}
use Rattle.seg_model.specs.Fields.{Schema}
use Rattle.seg_column_writer.specs.DocumentRows.{AreArranged, arranged, kind_of_value, sorts_at, with_rows, with_values}
use Rattle.seg_column_writer.specs.ValueKinds.{kind_of, kind_place}
use Rattle.seg_column_writer.specs.NamedColumns.{usage_of}
use Rattle.seg_column_writer.specs.RecordedColumns.{in_order, put_in_order, value_cmp}
use Rattle.seg_column_writer.specs.ColumnRecords.{ColumnRecord, Recording, is_named, value_count, with_value, changed_at}
use Rattle.seg_column_writer.specs.RecordingRules.{with_recorded}
use Rattle.seg_column_writer.specs.declared.value_kind.ValueKind.{ValueKind}
use Rattle.seg_column_writer.proofs.Exports.{key_named, new_column}
use Rattle.seg_fastfield.specs.DeclaredColumns.{column_with, first_columns}
use Rattle.seg_model.specs.SaturatedNumbers.{saturated}
use Rattle.seg_fastfield.specs.MemoryUsage.{total}
use Rattle.seg_fastfield.specs.FastFieldWriters.{FastWriting, Holds}

-- ---- lists that have as many items alike to each item

abbrev one : Bool → ℕ
one b = cond b 1 0

module _ {A : Type 0} (alike : A → A → Bool) (itself : (x : A) → alike x x ≡ true)
    (both : (x y : A) → alike x y ≡ true → (v : A) → alike v x ≡ alike v y) where
  abbrev count : A → List A → ℕ
  count v xs = length (filter (alike v) xs)

  count-cons : (v x : A) (xs : List A) → count v (x ∷ xs) ≡ one (alike v x) + count v xs
  count-cons v x xs = by (alike v x)
    where
      by : (b : Bool) → length (cond b (x ∷ filter (alike v) xs) (filter (alike v) xs)) ≡ one b + count v xs
      by true = omega arith
      by false = omega arith

  -- without the first item that is alike
  abbrev without : A → List A → List A
  without x [] = []
  without x (y ∷ ys) = cond (alike x y) ys (y ∷ without x ys)

  record TakenOut (x : A) (ys : List A) : Type 0 where
    fewer : length ys ≡ 1 + length (without x ys)
    counts : (v : A) → count v ys ≡ one (alike v x) + count v (without x ys)

  taken_out : (x : A) (n : ℕ) (ys : List A) → count x ys ≡ suc n → TakenOut x ys
  taken_out x n [] there = absurd cc
  taken_out x n (y ∷ ys) there = by (alike x y) refl (taken_out x n ys)
    where
      by : (b : Bool) → alike x y ≡ b → (count x ys ≡ suc n → TakenOut x ys) → TakenOut x (y ∷ ys)
      by true is further = record {
        fewer = omega (arith, ap (λ (b : Bool). length (cond b ys (y ∷ without x ys))) is);
        counts = λ v. count-cons v y ys
            ∙ (λ j. one (sym (both x y is v) j) + count v (cond (sym is j) ys (y ∷ without x ys)));
      }
      by false is further =
          let left = further (omega (arith, count-cons x y ys, ap one is, there)) in
          record {
            fewer = omega (arith, left.fewer, ap (λ (b : Bool). length (cond b ys (y ∷ without x ys))) is);
            counts = λ v. omega (
              arith,
              count-cons v y ys,
              left.counts v,
              count-cons v y (without x ys),
              ap (λ (b : Bool). count v (cond b ys (y ∷ without x ys))) is,
            );
          }

  pub as_many : (xs ys : List A) → ((v : A) → count v xs ≡ count v ys) → length xs ≡ length ys
  as_many [] [] same = refl
  as_many [] (y ∷ ys) same =
      absurd (omega (arith, same y, count-cons y y ys, ap (λ (b : Bool). one b) (itself y)))
  as_many (x ∷ xs) ys same =
      let all : count x (x ∷ xs) ≡ 1 + count x xs = count-cons x x xs ∙ ap (λ (b : Bool). one b + count x xs) (itself x) in
      let n : 1 + count x xs ≡ suc (count x xs) = omega arith in
      let out = taken_out x (count x xs) ys (sym (same x) ∙ all ∙ n) in
      let rest = as_many xs (without x ys) (λ v. omega (arith, same v, count-cons v x xs, out.counts v)) in
      omega (arith, rest, out.fewer)

-- ---- values of a document

-- a type of column in which a value may be
abbrev type_of : ColumnValue → ColumnType
type_of (number z) = types.I64
type_of (bytes_value b) = types.Bytes
type_of (text_value s) = types.Str
type_of (boolean_value b) = types.Bool
type_of (ip_value a) = types.IpAddr
type_of (date_value z) = types.DateTime

kind_of_type : (v : ColumnValue) → kind_of (type_of v) ≡ kind_of_value v
kind_of_type (number z) = refl
kind_of_type (bytes_value b) = refl
kind_of_type (text_value s) = refl
kind_of_type (boolean_value b) = refl
kind_of_type (ip_value a) = refl
kind_of_type (date_value z) = refl

abbrev key_of : FastValue → ColumnKey
key_of v = record { path = v.path; type = type_of v.value }

abbrev alike_values : FastValue → FastValue → Bool
alike_values v w = is_among column_cmp (value_keys w) (key_of v)

abbrev place : FastValue → ℕ
place v = kind_place (kind_of_value v.value)

alike_named : (v w : FastValue) → alike_values v w ≡ (nat_eq (place v) (place w) && bytes_eq v.path w.path)
alike_named v w =
    sym (key_named (key_of v) w)
    ∙ ap (λ (k : ValueKind). nat_eq (kind_place k) (place w) && bytes_eq v.path w.path) (kind_of_type v.value)

alike_itself : (v : FastValue) → alike_values v v ≡ true
alike_itself v =
    alike_named v v ∙ (λ j. (Decides-eqb (place v) (place v)).1 refl j && (bytes_decides v.path v.path).1 refl j)

alike_both : (x y : FastValue) → alike_values x y ≡ true → (v : FastValue) → alike_values v x ≡ alike_values v y
alike_both x y is v =
    let two = and_parts (nat_eq (place x) (place y)) (bytes_eq x.path y.path) (sym (alike_named x y) ∙ is) in
    alike_named v x
    ∙ (λ j. nat_eq (place v) ((Decides-eqb (place x) (place y)).0 two.0 j)
    && bytes_eq v.path ((bytes_decides x.path y.path).0 two.1 j))
    ∙ sym (alike_named v y)

length-put : (v : ColumnValue) (ws : List ColumnValue) → length (put_in_order v ws) ≡ suc (length ws)
length-put v [] = refl
length-put v (w ∷ ws) = by (is_gt (value_cmp v w)) (length-put v ws)
  where
    by : (b : Bool) → length (put_in_order v ws) ≡ suc (length ws)
        → length (cond b (w ∷ put_in_order v ws) (v ∷ w ∷ ws)) ≡ suc (suc (length ws))
    by true rest = ap suc rest
    by false rest = refl

length-in_order : (vs : List ColumnValue) → length (in_order vs) ≡ length vs
length-in_order [] = refl
length-in_order (v ∷ vs) = length-put v (in_order vs) ∙ ap suc (length-in_order vs)

length-arranged : (b : Bool) (vs : List ColumnValue) → length (arranged b vs) ≡ length vs
length-arranged true vs = length-in_order vs
length-arranged false vs = refl

arranged_values : (cs : List ColumnRecord) (raw values : List FastValue)
    → ((key : ColumnKey) → values_at key values ≡ arranged (sorts_at cs key) (values_at key raw))
    → length values ≡ length raw
arranged_values cs raw values arranges =
    as_many alike_values alike_itself alike_both values raw (λ v. sym (counted v values)
    ∙ ap length (arranges (key_of v))
    ∙ length-arranged (sorts_at cs (key_of v)) (values_at (key_of v) raw) ∙ counted v raw)
  where
    counted : (v : FastValue) (ws : List FastValue)
        → length (values_at (key_of v) ws) ≡ length (filter (alike_values v) ws)
    counted v ws = length-map (filter (alike_values v) ws) (λ (w : FastValue). w.value)

arranged_documents : (cs : List ColumnRecord) (rs ds : List (List FastValue)) → AreArranged cs rs ds
    → total length ds ≡ total length rs
arranged_documents cs [] [] arranges = refl
arranged_documents cs [] (d ∷ ds) arranges = absurd arranges
arranged_documents cs (r ∷ rs) [] arranges = absurd arranges
arranged_documents cs (r ∷ rs) (d ∷ ds) arranges =
    (λ j. arranged_values cs r d arranges.0 j + arranged_documents cs rs ds arranges.1 j)

-- ---- values in columns

abbrev place_in : List ℕ → ValueKind → List ColumnRecord → ℕ
place_in path kind cs = position_or_len (is_named path kind) cs

after : (change : Recording → Recording) (p count : ℕ) (c : ColumnRecord) (ds : List ColumnRecord)
    → value_count (changed_at change p ds) ≡ count + 1
    → value_count (changed_at change (1 + p) (c ∷ ds)) ≡ length c.recording.values + count + 1
after change p count c ds rest =
    let s : 1 + p ≡ suc p = omega arith in
    ap (λ (n : ℕ). value_count (changed_at change n (c ∷ ds))) s ∙ omega (arith, rest)

count_recorded : (path : List ℕ) (kind : ValueKind) (row : ℕ) (value : ColumnValue) (cs : List ColumnRecord)
    → value_count (with_recorded path kind row value cs) ≡ value_count cs + 1
count_recorded path kind row value [] = refl
count_recorded path kind row value (c ∷ cs) =
    by (is_named path kind c) (list_any (is_named path kind) cs) (count_recorded path kind row value cs)
  where
    by : (b a : Bool)
        → value_count (changed_at (with_value row value) (place_in path kind cs)
        (cond a cs (cs ++ new_column path kind ∷ []))) ≡ value_count cs + 1
        → value_count (changed_at (with_value row value) (cond (not b) (1 + place_in path kind cs) 0)
        (cond (b || a) (c ∷ cs) (c ∷ cs ++ new_column path kind ∷ []))) ≡ value_count (c ∷ cs) + 1
    by true a rest =
        omega (arith, length-append c.recording.values (record { row = row; value = value } ∷ []))
    by false true rest = after (with_value row value) (place_in path kind cs) (value_count cs) c cs rest
    by false false rest =
        after (with_value row value) (place_in path kind cs) (value_count cs) c (cs ++ new_column path kind ∷ []) rest

count_values : (row : ℕ) (vs : List FastValue) (cs : List ColumnRecord)
    → value_count (with_values row vs cs) ≡ value_count cs + length vs
count_values row [] cs = omega arith
count_values row (v ∷ vs) cs =
    let next : List ColumnRecord = with_recorded v.path (kind_of_value v.value) row v.value cs in
    omega (
      arith,
      count_values row vs next,
      count_recorded v.path (kind_of_value v.value) row v.value cs,
    )

count_rows : (row : ℕ) (ds : List (List FastValue)) (cs : List ColumnRecord)
    → value_count (with_rows row ds cs) ≡ value_count cs + total length ds
count_rows row [] cs = omega arith
count_rows row (d ∷ ds) cs =
    omega (arith, count_rows (row + 1) ds (with_values row d cs), count_values row d cs)

count_first : (schema : Schema) → value_count (first_columns schema) ≡ 0
count_first [] = refl
count_first (e ∷ es) = by e.fast (declared_type e.kind) (count_first es)
  where
    by : (b : Bool) (o : Option ColumnType) → value_count (first_columns es) ≡ 0
        → value_count (cond b (column_with e o) [] ++ first_columns es) ≡ 0
    by false o rest = rest
    by true None rest = rest
    by true (Some t) rest = omega (arith, rest)

-- ---- a writer

used : (w : FastWriting) (usage : ℕ) → usage ≡ usage_of w.columns → (documents : List (List FastValue))
    → Holds documents w → usage ≡ saturated (16 * total length documents)
used w usage is documents holds =
    let first : List ColumnRecord = first_columns w.schema in
    omega (
      arith,
      is,
      ap value_count holds.columns_are,
      count_rows 0 holds.raws first,
      count_first w.schema,
      arranged_documents first holds.raws documents holds.arranged,
    )

pub usage_told : (view given : FastWriting) → view ≡ given → (usage : ℕ) → usage ≡ usage_of view.columns
    → (documents : List (List FastValue)) → Holds documents given → usage ≡ saturated (16 * total length documents)
usage_told view given same usage is = used given usage (is ∙ ap (λ (w : FastWriting). usage_of w.columns) same)
