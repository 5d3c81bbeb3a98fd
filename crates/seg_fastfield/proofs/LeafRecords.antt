-- Steps of a walk over a document.
use Rattle.std.proofs.Common.{◌≡◌, ℕ, zero, suc, ◌+◌, ◌<◌, ◌≤◌, Bool, true, false, cond, List, [], ◌∷◌, ◌++◌, length, Option, None, Some, Result, Ok, Err, OnOk, OnErr, inl, inr, refl, sym, ap, subst, ◌∙◌, arith}
use Rattle.std.specs.Prelude.{◌⊎◌, ◌&&◌, ◌||◌, ℤ, pos, negsuc, nat_le, FitsSigned}
use Rattle.std.specs.Int.{w64}
use Rattle.std.specs.List.{flat_map, join_with_byte}
use Rattle.std.proofs.lemmas.Bool.{false≢true}
use Rattle.std.proofs.lemmas.Bool.Decides.{nat_tests}
use Rattle.std.proofs.lemmas.List.{map-append}
use Rattle.std.proofs.lemmas.Grind.{flat_map-append}
use Rattle.seg_common.specs.JsonPaths.{JsonPath, written_key}
use Rattle.seg_common.specs.declared.column_type.ColumnType.{ColumnType}
use Rattle.seg_common.specs.declared.column_type.ColumnType.TheVariants as types
use Rattle.seg_common.specs.DateUnits.{cut_to, precision_unit}
use Rattle.seg_values.specs.declared.schema.FieldEntry.{FieldEntry}
use Rattle.seg_values.specs.declared.schema.FieldKind.{FieldKind}
use Rattle.seg_values.specs.declared.schema.FieldKind.TheVariants as kinds
use Rattle.seg_values.specs.Tree.{Leaf, null, text, pre_tokenized, unsigned, signed, boolean, date, facet, byte_string, ip, Tree, leaf, array, object, Trees, no_trees, tree, Members, no_members, member}
use Rattle.seg_values.proofs.Exports.{join-written}
use Rattle.seg_model.specs.Columns.{ColumnValue, FastValue, number, bytes_value, text_value, boolean_value, ip_value, date_value, column_tokenizer, declared_type, fits_i64, json_column_path, json_cut, json_leaf_values, leaf_values, under_name}
use Rattle.seg_model.specs.Fields.{Analyzer, Schema, is_json, is_text}
use Rattle.seg_model.specs.Leaves.{PlacedLeaf, leaves_at, leaves_of_members, leaves_of_trees, level_in_array}
use Rattle.seg_model.specs.AcceptedTrees.{is_null, is_of_kind, is_own_array}
use Rattle.seg_columns.specs.declared.error.ColumnError.{ColumnError}
use Rattle.seg_column_writer.specs.DocumentRows.{kind_of_value, with_values}
use Rattle.seg_column_writer.specs.ValueKinds.{kind_of}
use Rattle.seg_column_writer.specs.ColumnRecords.{Accepts, ColumnRecord, with_column}
use Rattle.seg_column_writer.specs.RowOrderedColumns.{AreThere, has_column}
use Rattle.seg_column_writer.specs.RecordingRules.{AreKeptBut, MayRecord, with_recorded}
use Rattle.seg_column_writer.specs.declared.value_kind.ValueKind.{ValueKind}
use Rattle.seg_column_writer.proofs.Exports.{below_with, may_record, recorded, there_recorded, there_then, there_with}
use Rattle.seg_fastfield.specs.DeclaredColumns.{declared_by, first_columns}
use Rattle.seg_fastfield.specs.FastLeaves.{IsLevelOf, cut_at, entry_leaf, json_cut_at, path_at, values_of_leaf, values_under}
use Rattle.seg_fastfield.specs.RecordedLeaves.{IsFieldOf, IsPlaceOf, MayLeafCome}
use Rattle.seg_fastfield.specs.FastFieldWriters.{AreUnderWay, MayCome}

-- ---- a value

module _ (schema : Schema) (row : ℕ) (path : List ℕ) (value : ColumnValue) (may : MayCome schema path value) where
  abbrev kind : ValueKind
  kind = kind_of_value value

  comes : (cs : List ColumnRecord) → AreThere (first_columns schema) cs
      → (has_column path kind cs ≡ true) ⊎ (declared_by schema path kind ≡ None)
  comes cs there = by may.comes
    where
      by : (has_column path kind (first_columns schema) ≡ true) ⊎ (declared_by schema path kind ≡ None)
          → (has_column path kind cs ≡ true) ⊎ (declared_by schema path kind ≡ None)
      by (inl is) = inl (there path kind is).0
      by (inr free) = inr free

  pub may_be_recorded : (cs : List ColumnRecord) → AreUnderWay schema (row + 1) cs → MayRecord path kind row value cs
  may_be_recorded cs under = may_record (declared_by schema) path kind row value may.accepted cs under.below

  pub one_recorded : (cs : List ColumnRecord) → AreUnderWay schema (row + 1) cs
      → AreUnderWay schema (row + 1) (with_recorded path kind row value cs)
  one_recorded cs under = record {
    below = recorded (declared_by schema) path kind row value cs (comes cs under.there) under.below;
    there = there_then (first_columns schema) cs (with_recorded path kind row value cs) under.there
        (there_recorded path kind row value cs);
  }

  pub one_refused : (cs new : List ColumnRecord) → AreUnderWay schema (row + 1) cs → AreKeptBut path kind cs new
      → AreUnderWay schema (row + 1) new
  one_refused cs new under (inl same) = subst (AreUnderWay schema (row + 1)) (sym same) under
  one_refused cs new under (inr same) = subst (AreUnderWay schema (row + 1)) (sym same) (record {
    below = below_with (declared_by schema) path kind row value cs (comes cs under.there) under.below;
    there = there_then (first_columns schema) cs (with_column cs path kind) under.there (there_with path kind cs);
  })

  -- however the call answers
  pub still_under_way : (cs new : List ColumnRecord) (result : Result (Unit {0}) ColumnError)
      → OnOk result (new ≡ with_recorded path kind row value cs) → OnErr result (AreKeptBut path kind cs new)
      → AreUnderWay schema (row + 1) cs → AreUnderWay schema (row + 1) new
  still_under_way cs new (Ok tt) ok err under = subst (AreUnderWay schema (row + 1)) (sym ok) (one_recorded cs under)
  still_under_way cs new (Err e) ok err under = one_refused cs new under err

pub values_both : (row : ℕ) (xs ys : List FastValue) (cs : List ColumnRecord)
    → with_values row (xs ++ ys) cs ≡ with_values row ys (with_values row xs cs)
values_both row [] ys cs = refl
values_both row (x ∷ xs) ys cs = values_both row xs ys (with_recorded x.path (kind_of_value x.value) row x.value cs)

-- ---- paths

-- a path as it is written is that of the column
pub path_is : (entry : FieldEntry) (keys : List (List ℕ))
    → join_with_byte 1 (path_at entry keys).keys ≡ json_column_path entry keys
path_is entry [] = refl
path_is entry (k ∷ keys) = ap (λ (l : List ℕ). entry.name ++ (1 ∷ l)) (join-written entry.expand_dots (k ∷ keys))

-- ---- places

pub place_in_array : (entry : FieldEntry) (keys : List (List ℕ)) (level : ℕ) (path : JsonPath)
    → IsPlaceOf entry keys level path → IsPlaceOf entry keys (level_in_array level) path
place_in_array entry keys level path place = record {
  path_is = place.path_is;
  level_is = by level place.level_is;
  plain = place.plain;
}
  where
    by : (level : ℕ) → IsLevelOf keys level → IsLevelOf keys (level_in_array level)
    by zero (inl e) = inl (e.0, refl)
    by zero (inr e) = absurd (omega (arith, e.1))
    by (suc n) (inl e) = absurd (omega (arith, e.1))
    by (suc n) (inr e) = inr (e.0, omega arith)

pub place_below : (entry : FieldEntry) (keys : List (List ℕ)) (level : ℕ) (key : List ℕ) (path new : JsonPath)
    → IsPlaceOf entry keys level path → is_json entry.kind ≡ true
    → new ≡ record { keys = path.keys ++ written_key path.expand_dots key ∷ []; expand_dots = path.expand_dots }
    → IsPlaceOf entry (keys ++ key ∷ []) (level + 1) new
place_below entry keys level key path new place json is = record {
  path_is = is ∙ (λ j. record {
    keys = (place.path_is j).keys ++ written_key (place.path_is j).expand_dots key ∷ [];
    expand_dots = (place.path_is j).expand_dots;
  }) ∙ (λ j. record {
    keys = entry.name ∷ sym (map-append (written_key entry.expand_dots) keys (key ∷ [])) j;
    expand_dots = entry.expand_dots;
  });
  level_is = inr (longer keys, omega arith);
  plain = λ plain. absurd (false≢true (sym plain ∙ json));
}
  where
    longer : (keys : List (List ℕ)) → 0 < length (keys ++ key ∷ [])
    longer [] = omega arith
    longer (k ∷ keys) = omega arith

-- ---- what a leaf records may come

-- the type of the column that has a leaf
abbrev pub leaf_type : Leaf → Option ColumnType
leaf_type null = None
leaf_type (text s) = Some types.Str
leaf_type (pre_tokenized p) = Some types.Str
leaf_type (unsigned n) = Some types.U64
leaf_type (signed z) = Some types.I64
leaf_type (boolean b) = Some types.Bool
leaf_type (date z) = Some types.DateTime
leaf_type (facet s) = Some types.Str
leaf_type (byte_string b) = Some types.Bytes
leaf_type (ip a) = Some types.IpAddr

pub own_type : (k : FieldKind) (l : Leaf) → is_of_kind k l ≡ true → declared_type k ≡ leaf_type l
own_type kinds.Text (text s) e = refl
own_type kinds.Text (pre_tokenized p) e = refl
own_type kinds.U64 (unsigned n) e = refl
own_type kinds.I64 (signed z) e = refl
own_type kinds.Bool (boolean b) e = refl
own_type kinds.Date (date z) e = refl
own_type kinds.Facet (facet s) e = refl
own_type kinds.Bytes (byte_string b) e = refl
own_type kinds.IpAddr (ip a) e = refl
own_type kind l e = absurd (false≢true e)

signed_fits : (z : ℤ) → FitsSigned w64 z → fits_i64 (number z) ≡ true
signed_fits (pos n) fits = grind (arith, nat_tests, fits)
signed_fits (negsuc n) fits = grind (arith, nat_tests, fits)

module _ (schema : Schema) (entry : FieldEntry) (field : IsFieldOf schema entry) where
  -- at a path of a JSON field every value may come
  in_json : is_json entry.kind ≡ true → (keys : List (List ℕ)) (v : ColumnValue)
      → MayCome schema (json_column_path entry keys) v
  in_json json keys v =
      let free = field.free json keys (kind_of_value v) in record {
        comes = inr free;
        accepted = subst (λ (o : Option ColumnType). Accepts o v) (sym free) tt;
      }

  -- in a column a value of its type
  in_column : (t : ColumnType) → declared_type entry.kind ≡ Some t → (v : ColumnValue) → kind_of t ≡ kind_of_value v
      → Accepts (Some t) v → MayCome schema entry.name v
  in_column t typed v of accepts =
      let there = field.plain t typed in record {
        comes = inl (subst (λ (k : ValueKind). has_column entry.name k (first_columns schema) ≡ true) of there.0);
        accepted = subst (λ (k : ValueKind). Accepts (declared_by schema entry.name k) v) of
            (subst (λ (o : Option ColumnType). Accepts o v) (sym there.1) accepts);
      }

  json_leaf : is_json entry.kind ≡ true → (keys : List (List ℕ)) (l : Leaf)
      → MayLeafCome schema (json_column_path entry keys) l
  json_leaf json keys null = tt
  json_leaf json keys (text s) = λ s. in_json json keys (text_value s)
  json_leaf json keys (pre_tokenized p) = λ s. in_json json keys (text_value s)
  json_leaf json keys (unsigned n) = in_json json keys (number (pos n))
  json_leaf json keys (signed z) = λ fits. in_json json keys (number z)
  json_leaf json keys (boolean b) = in_json json keys (boolean_value b)
  json_leaf json keys (date z) = λ z. in_json json keys (date_value z)
  json_leaf json keys (facet s) = in_json json keys (text_value s)
  json_leaf json keys (byte_string b) = in_json json keys (bytes_value b)
  json_leaf json keys (ip a) = in_json json keys (ip_value a)

  plain_leaf : (l : Leaf) → is_of_kind entry.kind l ≡ true → MayLeafCome schema entry.name l
  plain_leaf null e = tt
  plain_leaf (text s) e = λ x. in_column types.Str (own_type entry.kind (text s) e) (text_value x) refl tt
  plain_leaf (pre_tokenized p) e = λ x. in_column types.Str (own_type entry.kind (pre_tokenized p) e)
      (text_value x) refl tt
  plain_leaf (unsigned n) e = in_column types.U64 (own_type entry.kind (unsigned n) e) (number (pos n)) refl refl
  plain_leaf (signed z) e = λ fits. in_column types.I64 (own_type entry.kind (signed z) e) (number z) refl
      (signed_fits z fits)
  plain_leaf (boolean b) e = in_column types.Bool (own_type entry.kind (boolean b) e) (boolean_value b) refl tt
  plain_leaf (date z) e = λ y. in_column types.DateTime (own_type entry.kind (date z) e) (date_value y) refl tt
  plain_leaf (facet s) e = in_column types.Str (own_type entry.kind (facet s) e) (text_value s) refl tt
  plain_leaf (byte_string b) e = in_column types.Bytes (own_type entry.kind (byte_string b) e) (bytes_value b) refl tt
  plain_leaf (ip a) e = in_column types.IpAddr (own_type entry.kind (ip a) e) (ip_value a) refl tt

  null_or : (l : Leaf) → (is_null l || is_of_kind entry.kind l) ≡ true → MayLeafCome schema entry.name l
  null_or null e = tt
  null_or (text s) e = plain_leaf (text s) e
  null_or (pre_tokenized p) e = plain_leaf (pre_tokenized p) e
  null_or (unsigned n) e = plain_leaf (unsigned n) e
  null_or (signed z) e = plain_leaf (signed z) e
  null_or (boolean b) e = plain_leaf (boolean b) e
  null_or (date z) e = plain_leaf (date z) e
  null_or (facet s) e = plain_leaf (facet s) e
  null_or (byte_string b) e = plain_leaf (byte_string b) e
  null_or (ip a) e = plain_leaf (ip a) e

  pub leaf_may_come : (keys : List (List ℕ)) (level : ℕ) (path : JsonPath) → IsPlaceOf entry keys level path
      → (l : Leaf)
      → (is_json entry.kind || is_own_array entry.kind (leaf l)) ≡ true
      → MayLeafCome schema (join_with_byte 1 path.keys) l
  leaf_may_come keys level path place l takes =
      subst (λ (p : List ℕ). MayLeafCome schema p l)
      (sym (ap (λ (p : JsonPath). join_with_byte 1 p.keys) place.path_is
      ∙ path_is entry keys)) (by (is_json entry.kind) refl takes)
    where
      by : (j : Bool) → is_json entry.kind ≡ j → (j || is_own_array entry.kind (leaf l)) ≡ true
          → MayLeafCome schema (json_column_path entry keys) l
      by true json takes = json_leaf json keys l
      by false plain takes = subst (λ (ks : List (List ℕ)). MayLeafCome schema (json_column_path entry ks) l)
          (sym (place.plain plain)) (null_or l takes)

-- ---- what a leaf records

module _ (analyzer : Analyzer) (entry : FieldEntry) (fast : entry.fast ≡ true) (keys : List (List ℕ)) (level : ℕ)
    (path : JsonPath) (place : IsPlaceOf entry keys level path) (few : level ≤ 20) where
  cut_json : is_json entry.kind ≡ true → cut_at entry level ≡ json_cut keys
  cut_json json = (λ j nanos. cond (json j) (json_cut_at level nanos) (cut_to (precision_unit entry.precision) nanos))
      ∙ by keys level place.level_is
    where
      by : (keys : List (List ℕ)) (level : ℕ) → IsLevelOf keys level → json_cut_at level ≡ json_cut keys
      by [] zero is = refl
      by [] (suc n) (inl e) = absurd (omega (arith, e.1))
      by [] (suc n) (inr e) = absurd (omega (arith, e.0))
      by (k ∷ ks) zero (inl e) = absurd cc
      by (k ∷ ks) zero (inr e) = absurd (omega (arith, e.1))
      by (k ∷ ks) (suc n) is = refl

  cut_plain : is_json entry.kind ≡ false → cut_at entry level ≡ cut_to (precision_unit entry.precision)
  cut_plain plain = λ j nanos. cond (plain j) (json_cut_at level nanos) (cut_to (precision_unit entry.precision) nanos)

  tokenizer_json : is_json entry.kind ≡ true → column_tokenizer entry ≡ entry.fast_tokenizer
  tokenizer_json json =
      (λ j. cond (fast j && (is_text entry.kind || json j)) entry.fast_tokenizer None)
      ∙ by (is_text entry.kind)
    where
      by : (b : Bool) → cond (b || true) entry.fast_tokenizer None ≡ entry.fast_tokenizer
      by true = refl
      by false = refl

  pub leaf_recorded : (l : Leaf) → values_of_leaf analyzer entry (join_with_byte 1 path.keys) level l
      ≡ entry_leaf analyzer entry (record { keys = keys; level = level; leaf = l })
  leaf_recorded l =
      ap (λ (p : List ℕ). values_of_leaf analyzer entry p level l)
      (ap (λ (p : JsonPath). join_with_byte 1 p.keys) place.path_is ∙ path_is entry keys)
      ∙ by (is_json entry.kind) refl
    where
      low : nat_le level 20 ≡ true
      low = grind (arith, nat_tests, few)

      by : (j : Bool) → is_json entry.kind ≡ j → values_of_leaf analyzer entry (json_column_path entry keys) level l
          ≡ cond j (json_leaf_values analyzer entry (record { keys = keys; level = level; leaf = l }))
          (under_name entry (leaf_values analyzer (column_tokenizer entry) (cut_to (precision_unit entry.precision)) l))
      by true json =
          (λ j. values_under (json_column_path entry keys) (leaf_values analyzer (tokenizer_json json j)
          (cut_json json j) l))
          ∙ sym (ap (λ (b : Bool). cond b (values_under (json_column_path entry keys)
          (leaf_values analyzer entry.fast_tokenizer (json_cut keys) l)) []) low)
      by false plain =
          λ j. values_under (json_column_path entry (place.plain plain j)) (leaf_values analyzer
          (column_tokenizer entry) (cut_plain plain j) l)

-- ---- below the deepest level

module _ (analyzer : Analyzer) (entry : FieldEntry) (json : is_json entry.kind ≡ true) where
  too_deep : (p : PlacedLeaf) → 20 < p.level → entry_leaf analyzer entry p ≡ []
  too_deep p deep =
      (λ j. cond (json j) (json_leaf_values analyzer entry p)
      (under_name entry (leaf_values analyzer (column_tokenizer entry) (cut_to
      (precision_unit entry.precision)) p.leaf)))
      ∙ ap (λ (b : Bool). cond b (values_under (json_column_path entry p.keys)
      (leaf_values analyzer entry.fast_tokenizer (json_cut p.keys) p.leaf)) []) high
    where
      high : nat_le p.level 20 ≡ false
      high = grind (arith, nat_tests, deep)

  abbrev nothing_in : List PlacedLeaf → Type 0
  nothing_in ps = flat_map (entry_leaf analyzer entry) ps ≡ []

  mutual
    pub deep_tree : (keys : List (List ℕ)) (level : ℕ) (t : Tree) → 20 < level → nothing_in (leaves_at keys level t)
    deep_tree keys level (leaf l) deep =
        ap (λ (v : List FastValue). v ++ []) (too_deep (record { keys = keys; level = level; leaf = l }) deep)
    deep_tree keys level (array ts) deep = deep_trees keys (level_in_array level) ts (in_array level deep)
      where
        in_array : (level : ℕ) → 20 < level → 20 < level_in_array level
        in_array zero deep = absurd (omega (arith, deep))
        in_array (suc n) deep = omega (arith, deep)
    deep_tree keys level (object ms) deep = deep_members keys (suc level) ms (omega (arith, deep))

    deep_trees : (keys : List (List ℕ)) (level : ℕ) (ts : Trees) → 20 < level
        → nothing_in (leaves_of_trees keys level ts)
    deep_trees keys level no_trees deep = refl
    deep_trees keys level (tree t ts) deep =
        flat_map-append (entry_leaf analyzer entry) (leaves_at keys level t) (leaves_of_trees keys level ts)
        ∙ (λ j. deep_tree keys level t deep j ++ deep_trees keys level ts deep j)

    deep_members : (keys : List (List ℕ)) (level : ℕ) (ms : Members) → 20 < level
        → nothing_in (leaves_of_members keys level ms)
    deep_members keys level no_members deep = refl
    deep_members keys level (member key t ms) deep =
        flat_map-append (entry_leaf analyzer entry) (leaves_at (keys ++ key ∷ []) level t) (leaves_of_members keys level ms)
        ∙ (λ j. deep_tree (keys ++ key ∷ []) level t deep j ++ deep_members keys level ms deep j)
