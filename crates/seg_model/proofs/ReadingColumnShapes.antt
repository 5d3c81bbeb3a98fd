-- The columns of a reading are of full shape.
use Rattle.std.proofs.Common.{◌≡◌, ℕ, zero, suc, ◌+◌, arith, Bool, true, false, cond, List, [], ◌∷◌, ◌++◌, map, Some, None, Option, sym, refl, ap, ◌∙◌, subst, inl, inr}
use Rattle.std.specs.Prelude.{◌||◌, ◌&&◌, ℤ, pos, nat_eq, nat_le, filter, is_some}
use mathlib.Core.Bool.{true≢false}
use Rattle.std.specs.List.{flat_map, list_any, slice_get, enumerate_from, AllByRecursion}
use Rattle.std.specs.Ordering.{nat_cmp, eq_by_cmp, is_eq, is_gt}
use Rattle.std.specs.Cmp.{tied_itself}
use Rattle.std.specs.Cmp.Lexicographic.{slice_cmp}
use Rattle.std.proofs.lemmas.List.Folds.{list_any-append}
use Rattle.std.proofs.lemmas.Bool.{or_right, and_parts}
use Rattle.seg_tokens.specs.declared.token.Token.{Token}
use Rattle.seg_values.specs.declared.schema.FieldEntry.{FieldEntry}
use Rattle.seg_values.specs.declared.schema.FieldKind.{FieldKind}
use Rattle.seg_values.specs.declared.schema.FieldKind.TheVariants as kinds
use Rattle.seg_common.specs.declared.column_type.ColumnType.{ColumnType}
use Rattle.seg_common.specs.declared.column_type.ColumnType.TheVariants.{I64, U64, Bytes, Str, Bool as Boolean, IpAddr, DateTime}
use Rattle.seg_values.specs.Tree.{Leaf, null, text, pre_tokenized, unsigned, signed, boolean, date, facet, byte_string, ip, Tree, leaf, array, object, Trees, no_trees, tree, Document}
use Rattle.seg_model.specs.Fields.{Schema, Analyzer, is_json, is_indexed, values_of}
use Rattle.seg_model.specs.Leaves.{PlacedLeaf, level_in_array, leaves_at, leaves_of_trees, leaves, leaves_of, joined_path}
use Rattle.seg_model.specs.AcceptedTrees.{is_of_kind, is_null, is_own_leaf, is_own_array, are_own_arrays, takes}
use Rattle.seg_common.specs.TabulatedMaps.{is_among}
use Rattle.seg_common.specs.DateUnits.{cut_to, precision_unit}
use Rattle.seg_common.proofs.Lists.{all_both}
use Rattle.seg_model.specs.Columns.{ColumnValue, number, bytes_value, text_value, boolean_value, ip_value, date_value, ColumnKey, column_cmp, type_place, value_types, value_keys, FastValue, token_texts, fast_texts, leaf_values, column_tokenizer, declared_values, value_text, inserted, sorted, json_column_path, json_cut, json_leaf_values, under_name, kind_fast_values, field_fast_values, fast_values, declared_type, column_named, declared_columns, is_declared, values_at, is_filled}
use Rattle.seg_model.specs.DocumentCheck.{is_json_leaf, IsSound}
use Rattle.seg_model.specs.Shape.{IsPathOf, IsJsonPath, is_json_type, has_type}
use Rattle.seg_common.proofs.TabulatedMaps.{same_key}
use Rattle.seg_model.proofs.JoinedColumns.{column_cmp_total, columns_apart}
use Rattle.seg_model.proofs.ColumnShapes.{IsUndeclared}
use Rattle.seg_model.proofs.Utf8Paths.{AreUtf8, IsUtf8-joined_path}
use Rattle.seg_model.proofs.ReadingTermShapes.{IsSoundValue, values_sound, IsSoundLeaf, sound_leaves_of, each-flat_map}

-- ---- types of values

same_place : (t : ColumnType) → nat_eq (type_place t) (type_place t) ≡ true
same_place I64 = refl
same_place U64 = refl
same_place Bytes = refl
same_place Str = refl
same_place Boolean = refl
same_place IpAddr = refl
same_place DateTime = refl

-- a value that is at a key has the key's type
type_of_key : (path : List ℕ) (ts : List ColumnType) (k : ColumnKey) → is_among column_cmp (map (λ t. record { path = path; type = t }) ts) k ≡ true → (k.path ≡ path) × (list_any (λ t. nat_eq (type_place k.type) (type_place t)) ts ≡ true)
type_of_key path [] k h = absurd (true≢false (sym h))
type_of_key path (t ∷ ts) k h = by (eq_by_cmp column_cmp k (record { path = path; type = t })) refl h (type_of_key path ts k)
  where
    by : (b : Bool) → eq_by_cmp column_cmp k (record { path = path; type = t }) ≡ b → (b || is_among column_cmp (map (λ t. record { path = path; type = t }) ts) k) ≡ true → (is_among column_cmp (map (λ t. record { path = path; type = t }) ts) k ≡ true → (k.path ≡ path) × (list_any (λ t. nat_eq (type_place k.type) (type_place t)) ts ≡ true)) → (k.path ≡ path) × ((nat_eq (type_place k.type) (type_place t) || list_any (λ t. nat_eq (type_place k.type) (type_place t)) ts) ≡ true)
    by true e h later =
        let is : k ≡ record { path = path; type = t } = same_key columns_apart k (record { path = path; type = t }) e in
        (ap (λ (x : ColumnKey). x.path) is, ap (λ (x : ColumnKey). nat_eq (type_place x.type) (type_place t) || list_any (λ s. nat_eq (type_place k.type) (type_place s)) ts) is ∙ ap (λ b. b || list_any (λ s. nat_eq (type_place k.type) (type_place s)) ts) (same_place t))
    by false e h later = ((later h).0, or_right _ _ (later h).1)

stands_at : (k : ColumnKey) (v : FastValue) → is_among column_cmp (value_keys v) k ≡ true → (k.path ≡ v.path) × (has_type k.type v.value ≡ true)
stands_at k v h = type_of_key v.path (value_types v.value) k h

-- the values at a key have its type
pub typed_values : (k : ColumnKey) (vs : List FastValue) → AllByRecursion (λ v. has_type k.type v ≡ true) (values_at k vs)
typed_values k [] = tt
typed_values k (v ∷ vs) = by (is_among column_cmp (value_keys v) k) refl (typed_values k vs)
  where
    by : (b : Bool) → is_among column_cmp (value_keys v) k ≡ b → AllByRecursion (λ v. has_type k.type v ≡ true) (values_at k vs) → AllByRecursion (λ v. has_type k.type v ≡ true) (map (λ (x : FastValue). x.value) (cond b (v ∷ filter (λ x. is_among column_cmp (value_keys x) k) vs) (filter (λ x. is_among column_cmp (value_keys x) k) vs)))
    by true e rest = ((stands_at k v e).1, rest)
    by false e rest = rest

-- the types of one value have one undeclared path
types_meet : (declared : List ColumnKey) (path : List ℕ) (v : ColumnValue) (kt dt : ColumnType) → has_type kt v ≡ true → has_type dt v ≡ true → IsUndeclared declared path kt → is_declared declared (record { path = path; type = dt }) ≡ false
types_meet declared path (number z) I64 I64 h k u = u.0
types_meet declared path (number z) I64 U64 h k u = u.1
types_meet declared path (number z) I64 dt h k u = absurd (true≢false (sym k))
types_meet declared path (number z) U64 I64 h k u = u.0
types_meet declared path (number z) U64 U64 h k u = u.1
types_meet declared path (number z) U64 dt h k u = absurd (true≢false (sym k))
types_meet declared path (bytes_value b) Bytes Bytes h k u = u
types_meet declared path (bytes_value b) Bytes dt h k u = absurd (true≢false (sym k))
types_meet declared path (text_value s) Str Str h k u = u
types_meet declared path (text_value s) Str dt h k u = absurd (true≢false (sym k))
types_meet declared path (boolean_value b) Boolean Boolean h k u = u
types_meet declared path (boolean_value b) Boolean dt h k u = absurd (true≢false (sym k))
types_meet declared path (ip_value a) IpAddr IpAddr h k u = u
types_meet declared path (ip_value a) IpAddr dt h k u = absurd (true≢false (sym k))
types_meet declared path (date_value z) DateTime DateTime h k u = u
types_meet declared path (date_value z) DateTime dt h k u = absurd (true≢false (sym k))
types_meet declared path v kt dt h k u = absurd (true≢false (sym h))

-- ---- the values of leaves

AreTexts : (tokens : List Token) → AllByRecursion (λ v. has_type Str v ≡ true) (token_texts tokens)
AreTexts [] = tt
AreTexts (t ∷ ts) = (refl, AreTexts ts)

fast_texts_typed : (analyzer : Analyzer) (tokenizer : Option (List ℕ)) (s : List ℕ) → AllByRecursion (λ v. has_type Str v ≡ true) (fast_texts analyzer tokenizer s)
fast_texts_typed analyzer None s = (refl, tt)
fast_texts_typed analyzer (Some name) s = AreTexts (analyzer name s)

-- a leaf of a kind has values of the kind's type
leaf_typed : (analyzer : Analyzer) (tokenizer : Option (List ℕ)) (cut : ℤ → ℤ) (kind : FieldKind) (type : ColumnType) (l : Leaf) → declared_type kind ≡ Some type → (is_null l || is_of_kind kind l) ≡ true → AllByRecursion (λ v. has_type type v ≡ true) (leaf_values analyzer tokenizer cut l)
leaf_typed analyzer tokenizer cut kind type null d h = tt
leaf_typed analyzer tokenizer cut kinds.Text type (text s) d h = subst (λ t. AllByRecursion (λ v. has_type t v ≡ true) (leaf_values analyzer tokenizer cut (text s))) (let z : Str ≡ type = cc in z) (fast_texts_typed analyzer tokenizer s)
leaf_typed analyzer tokenizer cut kinds.Text type (pre_tokenized p) d h = subst (λ t. AllByRecursion (λ v. has_type t v ≡ true) (leaf_values analyzer tokenizer cut (pre_tokenized p))) (let z : Str ≡ type = cc in z) (AreTexts p.tokens)
leaf_typed analyzer tokenizer cut kinds.U64 type (unsigned n) d h = subst (λ t. AllByRecursion (λ v. has_type t v ≡ true) (leaf_values analyzer tokenizer cut (unsigned n))) (let z : U64 ≡ type = cc in z) ((refl, tt))
leaf_typed analyzer tokenizer cut kinds.I64 type (signed z) d h = subst (λ t. AllByRecursion (λ v. has_type t v ≡ true) (leaf_values analyzer tokenizer cut (signed z))) (let z : I64 ≡ type = cc in z) ((refl, tt))
leaf_typed analyzer tokenizer cut kinds.Bool type (boolean b) d h = subst (λ t. AllByRecursion (λ v. has_type t v ≡ true) (leaf_values analyzer tokenizer cut (boolean b))) (let z : Boolean ≡ type = cc in z) ((refl, tt))
leaf_typed analyzer tokenizer cut kinds.Date type (date z) d h = subst (λ t. AllByRecursion (λ v. has_type t v ≡ true) (leaf_values analyzer tokenizer cut (date z))) (let z : DateTime ≡ type = cc in z) ((refl, tt))
leaf_typed analyzer tokenizer cut kinds.Facet type (facet s) d h = subst (λ t. AllByRecursion (λ v. has_type t v ≡ true) (leaf_values analyzer tokenizer cut (facet s))) (let z : Str ≡ type = cc in z) ((refl, tt))
leaf_typed analyzer tokenizer cut kinds.Bytes type (byte_string b) d h = subst (λ t. AllByRecursion (λ v. has_type t v ≡ true) (leaf_values analyzer tokenizer cut (byte_string b))) (let z : Bytes ≡ type = cc in z) ((refl, tt))
leaf_typed analyzer tokenizer cut kinds.IpAddr type (ip a) d h = subst (λ t. AllByRecursion (λ v. has_type t v ≡ true) (leaf_values analyzer tokenizer cut (ip a))) (let z : IpAddr ≡ type = cc in z) ((refl, tt))
leaf_typed analyzer tokenizer cut kind type l d h = absurd (true≢false (sym h))

mutual
  own_leaves : (kind : FieldKind) (keys : List (List ℕ)) (level : ℕ) (t : Tree) → is_own_array kind t ≡ true → AllByRecursion (λ p. (is_null p.leaf || is_of_kind kind p.leaf) ≡ true) (leaves_at keys level t)
  own_leaves kind keys level (leaf l) h = (h, tt)
  own_leaves kind keys level (array ts) h = own_tree_leaves kind keys (level_in_array level) ts h
  own_leaves kind keys level (object ms) h = absurd (true≢false (sym h))

  own_tree_leaves : (kind : FieldKind) (keys : List (List ℕ)) (level : ℕ) (ts : Trees) → are_own_arrays kind ts ≡ true → AllByRecursion (λ p. (is_null p.leaf || is_of_kind kind p.leaf) ≡ true) (leaves_of_trees keys level ts)
  own_tree_leaves kind keys level no_trees h = tt
  own_tree_leaves kind keys level (tree t ts) h = all_both _ _ _ (own_leaves kind keys level t (and_parts (is_own_array kind t) (are_own_arrays kind ts) h).0) (own_tree_leaves kind keys level ts (and_parts (is_own_array kind t) (are_own_arrays kind ts) h).1)

pub own_leaf_array : (kind : FieldKind) (t : Tree) → is_own_leaf kind t ≡ true → is_own_array kind t ≡ true
own_leaf_array kind (leaf l) h = or_right (is_null l) (is_of_kind kind l) h
own_leaf_array kind (array ts) h = absurd (true≢false (sym h))
own_leaf_array kind (object ms) h = absurd (true≢false (sym h))

module _ (e : FieldEntry) (fast : e.fast ≡ true) where
  -- a fast field that is not JSON takes its own kind
  own : is_json e.kind ≡ false → (t : Tree) → takes e t ≡ true → is_own_array e.kind t ≡ true
  own j t h = by (is_indexed e) (sym (λ i. cond (j i) true (cond (is_indexed e) (is_own_leaf e.kind t) (cond (fast i) (is_own_array e.kind t) true))) ∙ h)
    where
      by : (b : Bool) → cond b (is_own_leaf e.kind t) (is_own_array e.kind t) ≡ true → is_own_array e.kind t ≡ true
      by true k = own_leaf_array e.kind t k
      by false k = k

  declared_typed : (analyzer : Analyzer) (type : ColumnType) → is_json e.kind ≡ false → declared_type e.kind ≡ Some type → (values : List Tree) → AllByRecursion (IsSoundValue e) values → AllByRecursion (λ v. has_type type v ≡ true) (declared_values analyzer e values)
  declared_typed analyzer type j d values h =
      each-flat_map (λ v. has_type type v ≡ true) (λ p. (is_null p.leaf || is_of_kind e.kind p.leaf) ≡ true) (λ p. leaf_values analyzer (column_tokenizer e) (cut_to (precision_unit e.precision)) p.leaf)
      (λ p k. leaf_typed analyzer (column_tokenizer e) (cut_to (precision_unit e.precision)) e.kind type p.leaf d k) (leaves_of values)
      (each-flat_map (λ p. (is_null p.leaf || is_of_kind e.kind p.leaf) ≡ true) (IsSoundValue e) leaves (λ t s. own_leaves e.kind [] 0 t (own j t s.taken)) values h)

inserted_typed : (P : ColumnValue → Type 0) (v : ColumnValue) (vs : List ColumnValue) → P v → AllByRecursion P vs → AllByRecursion P (inserted v vs)
inserted_typed P v [] h k = (h, tt)
inserted_typed P v (w ∷ ws) h k = by (is_gt (slice_cmp nat_cmp (value_text v) (value_text w))) (inserted_typed P v ws h k.1)
  where
    by : (b : Bool) → AllByRecursion P (inserted v ws) → AllByRecursion P (cond b (w ∷ inserted v ws) (v ∷ w ∷ ws))
    by true rest = (k.0, rest)
    by false rest = (h, k)

sorted_typed : (P : ColumnValue → Type 0) (vs : List ColumnValue) → AllByRecursion P vs → AllByRecursion P (sorted vs)
sorted_typed P [] h = tt
sorted_typed P (v ∷ vs) h = inserted_typed P v (sorted vs) h.0 (sorted_typed P vs h.1)

-- ---- JSON values

json_number : (type : ColumnType) (z : ℤ) → has_type type (number z) ≡ true → is_json_type type ≡ true
json_number I64 z h = refl
json_number U64 z h = refl
json_number type z h = absurd (true≢false (sym h))

json_boolean : (type : ColumnType) (z : Bool) → has_type type (boolean_value z) ≡ true → is_json_type type ≡ true
json_boolean Boolean z h = refl
json_boolean type z h = absurd (true≢false (sym h))

json_date : (type : ColumnType) (z : ℤ) → has_type type (date_value z) ≡ true → is_json_type type ≡ true
json_date DateTime z h = refl
json_date type z h = absurd (true≢false (sym h))

json_text : (type : ColumnType) (v : ColumnValue) → has_type Str v ≡ true → has_type type v ≡ true → is_json_type type ≡ true
json_text Str (text_value s) k h = refl
json_text type (text_value s) k h = absurd (true≢false (sym h))
json_text type v k h = absurd (true≢false (sym k))

json_typed : (analyzer : Analyzer) (tokenizer : Option (List ℕ)) (cut : ℤ → ℤ) (l : Leaf) → is_json_leaf l ≡ true → (type : ColumnType) → AllByRecursion (λ v. has_type type v ≡ true → is_json_type type ≡ true) (leaf_values analyzer tokenizer cut l)
json_typed analyzer tokenizer cut null h type = tt
json_typed analyzer tokenizer cut (text s) h type = weaker _ (fast_texts_typed analyzer tokenizer s)
  where
    weaker : (vs : List ColumnValue) → AllByRecursion (λ v. has_type Str v ≡ true) vs → AllByRecursion (λ v. has_type type v ≡ true → is_json_type type ≡ true) vs
    weaker [] k = tt
    weaker (v ∷ vs) k = (json_text type v k.0, weaker vs k.1)
json_typed analyzer tokenizer cut (pre_tokenized p) h type = absurd (true≢false (sym h))
json_typed analyzer tokenizer cut (unsigned n) h type = (json_number type (pos n), tt)
json_typed analyzer tokenizer cut (signed z) h type = (json_number type z, tt)
json_typed analyzer tokenizer cut (boolean b) h type = (json_boolean type b, tt)
json_typed analyzer tokenizer cut (date z) h type = (json_date type (cut z), tt)
json_typed analyzer tokenizer cut (facet s) h type = absurd (true≢false (sym h))
json_typed analyzer tokenizer cut (byte_string b) h type = absurd (true≢false (sym h))
json_typed analyzer tokenizer cut (ip a) h type = absurd (true≢false (sym h))

-- ---- what a document records at undeclared keys

slice_declared : (schema : Schema) (i : ℕ) (e : FieldEntry) (type : ColumnType) → slice_get schema i ≡ Some e → e.fast ≡ true → declared_type e.kind ≡ Some type → is_declared (declared_columns schema) (record { path = e.name; type = type }) ≡ true
slice_declared [] i e type at fast d = absurd (true≢false (sym (ap is_some at)))
slice_declared (f ∷ schema) zero e type at fast d =
    let is : f ≡ e = some_is f e at in
    let columns : cond f.fast (column_named f.name (declared_type f.kind)) [] ≡ record { path = e.name; type = type } ∷ [] = ap (λ (x : FieldEntry). cond x.fast (column_named x.name (declared_type x.kind)) []) is ∙ (λ i. cond (fast i) (column_named e.name (d i)) []) in
    ap (λ l. is_among column_cmp (l ++ declared_columns schema) (record { path = e.name; type = type })) columns
    ∙ ap (λ b. b || is_declared (declared_columns schema) (record { path = e.name; type = type })) (ap is_eq (tied_itself column_cmp_total (record { path = e.name; type = type })))
  where
    some_is : (x y : FieldEntry) → Some x ≡ Some y → x ≡ y
    some_is x y h = cc
slice_declared (f ∷ schema) (suc i) e type at fast d =
    list_any-append (eq_by_cmp column_cmp (record { path = e.name; type = type })) (cond f.fast (column_named f.name (declared_type f.kind)) []) (declared_columns schema)
    ∙ or_right _ _ (slice_declared schema i e type at fast d)

module _ (schema : Schema) (analyzer : Analyzer) (path : List ℕ) (type : ColumnType) (u : IsUndeclared (declared_columns schema) path type) where
  -- a value that is at the key is at a JSON path
  abbrev IsFree : FastValue → Type 0
  IsFree v = is_among column_cmp (value_keys v) (record { path = path; type = type }) ≡ true → IsJsonPath schema path × (is_json_type type ≡ true)

  module _ (i : ℕ) (e : FieldEntry) (at : slice_get schema i ≡ Some e) (fast : e.fast ≡ true) where
    not_declared_value : (dt : ColumnType) → declared_type e.kind ≡ Some dt → (vs : List ColumnValue) → AllByRecursion (λ v. has_type dt v ≡ true) vs → AllByRecursion IsFree (under_name e vs)
    not_declared_value dt d [] h = tt
    not_declared_value dt d (v ∷ vs) h = (here, not_declared_value dt d vs h.1)
      where
        here : IsFree (record { path = e.name; value = v })
        here k =
            let stands = stands_at (record { path = path; type = type }) (record { path = e.name; value = v }) k in
            let P : List ℕ → Type 0 = λ x. is_declared (declared_columns schema) (record { path = x; type = dt }) ≡ false in
            absurd (true≢false (sym (slice_declared schema i e dt at fast d) ∙ subst P stands.0 (types_meet (declared_columns schema) path v type dt stands.1 h.0 u)))

    json_free : is_json e.kind ≡ true → (p : PlacedLeaf) → IsSoundLeaf p → AllByRecursion IsFree (json_leaf_values analyzer e p)
    json_free j p s = by (nat_le p.level 20)
      where
        one : (v : ColumnValue) → (has_type type v ≡ true → is_json_type type ≡ true) → IsFree (record { path = json_column_path e p.keys; value = v })
        one v t k =
            let stands = stands_at (record { path = path; type = type }) (record { path = json_column_path e p.keys; value = v }) k in
            (record { field = i; entry = e; in_schema = at; json = j; fast = fast; named = subst (IsPathOf e) (sym stands.0) (named p.keys s.keys_utf8) }, t stands.1)
          where
            named : (keys : List (List ℕ)) → AreUtf8 keys → IsPathOf e (json_column_path e keys)
            named [] h = inl refl
            named (key ∷ keys) h = inr (joined_path e.expand_dots (key ∷ keys), IsUtf8-joined_path e.expand_dots (key ∷ keys) h, refl)

        all : (vs : List ColumnValue) → AllByRecursion (λ v. has_type type v ≡ true → is_json_type type ≡ true) vs → AllByRecursion IsFree (map (λ v. record { path = json_column_path e p.keys; value = v }) vs)
        all [] h = tt
        all (v ∷ vs) h = (one v h.0, all vs h.1)

        by : (b : Bool) → AllByRecursion IsFree (cond b (map (λ v. record { path = json_column_path e p.keys; value = v }) (leaf_values analyzer e.fast_tokenizer (json_cut p.keys) p.leaf)) [])
        by true = all (leaf_values analyzer e.fast_tokenizer (json_cut p.keys) p.leaf) (json_typed analyzer e.fast_tokenizer (json_cut p.keys) p.leaf s.is_json type)
        by false = tt

    kind_free : (kind : FieldKind) → e.kind ≡ kind → (values : List Tree) → AllByRecursion (IsSoundValue e) values → AllByRecursion IsFree (kind_fast_values kind analyzer e values)
    kind_free kinds.Json is values h = each-flat_map IsFree IsSoundLeaf (json_leaf_values analyzer e) (json_free (ap is_json is)) (leaves_of values) (sound_leaves_of e (checked (is_indexed e)) values h)
      where
        checked : (b : Bool) → (is_json e.kind && (b || e.fast)) ≡ true
        checked true = λ j. is_json (is j) && true
        checked false = λ j. is_json (is j) && fast j
    kind_free kinds.Text is values h = not_declared_value Str (ap declared_type is) (declared_values analyzer e values) (declared_typed e fast analyzer Str (ap is_json is) (ap declared_type is) values h)
    kind_free kinds.U64 is values h = not_declared_value U64 (ap declared_type is) (declared_values analyzer e values) (declared_typed e fast analyzer U64 (ap is_json is) (ap declared_type is) values h)
    kind_free kinds.I64 is values h = not_declared_value I64 (ap declared_type is) (declared_values analyzer e values) (declared_typed e fast analyzer I64 (ap is_json is) (ap declared_type is) values h)
    kind_free kinds.Bool is values h = not_declared_value Boolean (ap declared_type is) (declared_values analyzer e values) (declared_typed e fast analyzer Boolean (ap is_json is) (ap declared_type is) values h)
    kind_free kinds.Date is values h = not_declared_value DateTime (ap declared_type is) (declared_values analyzer e values) (declared_typed e fast analyzer DateTime (ap is_json is) (ap declared_type is) values h)
    kind_free kinds.Facet is values h = not_declared_value Str (ap declared_type is) (sorted (declared_values analyzer e values)) (sorted_typed _ (declared_values analyzer e values) (declared_typed e fast analyzer Str (ap is_json is) (ap declared_type is) values h))
    kind_free kinds.Bytes is values h = not_declared_value Bytes (ap declared_type is) (declared_values analyzer e values) (declared_typed e fast analyzer Bytes (ap is_json is) (ap declared_type is) values h)
    kind_free kinds.IpAddr is values h = not_declared_value IpAddr (ap declared_type is) (declared_values analyzer e values) (declared_typed e fast analyzer IpAddr (ap is_json is) (ap declared_type is) values h)

  each_field_from : (n : ℕ) (xs : List FieldEntry) (d : Document) → ((i : ℕ) (e : FieldEntry) → slice_get xs i ≡ Some e → AllByRecursion IsFree (field_fast_values analyzer d (n + i, e))) → AllByRecursion IsFree (flat_map (field_fast_values analyzer d) (enumerate_from n xs))
  each_field_from n [] d h = tt
  each_field_from n (x ∷ xs) d h =
      all_both IsFree _ _ (subst (λ m. AllByRecursion IsFree (field_fast_values analyzer d (m, x))) (let z : n + 0 ≡ n = omega arith in z) (h 0 x refl))
      (each_field_from (n + 1) xs d (λ i e at. subst (λ m. AllByRecursion IsFree (field_fast_values analyzer d (m, e))) (let z : n + suc i ≡ n + 1 + i = omega arith in z) (h (suc i) e at)))

  free_values : (d : Document) → IsSound schema d → AllByRecursion IsFree (fast_values schema analyzer d)
  free_values d s = each_field_from 0 schema d (λ i e at. subst (λ m. AllByRecursion IsFree (field_fast_values analyzer d (m, e))) (let z : i ≡ 0 + i = omega arith in z) (one i e at))
    where
      one : (i : ℕ) (e : FieldEntry) → slice_get schema i ≡ Some e → AllByRecursion IsFree (field_fast_values analyzer d (i, e))
      one i e at = by e.fast refl
        where
          by : (b : Bool) → e.fast ≡ b → AllByRecursion IsFree (cond b (kind_fast_values e.kind analyzer e (values_of i d)) [])
          by true fast = kind_free i e at fast e.kind refl (values_of i d) (values_sound schema i e at d s)
          by false fast = tt

  value_there : (vs : List FastValue) → AllByRecursion IsFree vs → is_filled (values_at (record { path = path; type = type }) vs) ≡ true → IsJsonPath schema path × (is_json_type type ≡ true)
  value_there [] h k = absurd (true≢false (sym k))
  value_there (v ∷ vs) h k = by (is_among column_cmp (value_keys v) (record { path = path; type = type })) refl (value_there vs h.1) k
    where
      by : (b : Bool) → is_among column_cmp (value_keys v) (record { path = path; type = type }) ≡ b → (is_filled (values_at (record { path = path; type = type }) vs) ≡ true → IsJsonPath schema path × (is_json_type type ≡ true)) → is_filled (map (λ (x : FastValue). x.value) (cond b (v ∷ filter (λ x. is_among column_cmp (value_keys x) (record { path = path; type = type })) vs) (filter (λ x. is_among column_cmp (value_keys x) (record { path = path; type = type })) vs))) ≡ true → IsJsonPath schema path × (is_json_type type ≡ true)
      by true e later k = h.0 e
      by false e later k = later k

  -- an undeclared key at which sound documents record a value is one of a JSON field
  pub free_read : (ds : List Document) → AllByRecursion (IsSound schema) ds → list_any is_filled (map (values_at (record { path = path; type = type })) (map (fast_values schema analyzer) ds)) ≡ true → IsJsonPath schema path × (is_json_type type ≡ true)
  free_read [] h k = absurd (true≢false (sym k))
  free_read (d ∷ ds) h k = by (is_filled (values_at (record { path = path; type = type }) (fast_values schema analyzer d))) refl k (free_read ds h.1)
    where
      by : (b : Bool) → is_filled (values_at (record { path = path; type = type }) (fast_values schema analyzer d)) ≡ b → (b || list_any is_filled (map (values_at (record { path = path; type = type })) (map (fast_values schema analyzer) ds))) ≡ true → (list_any is_filled (map (values_at (record { path = path; type = type })) (map (fast_values schema analyzer) ds)) ≡ true → IsJsonPath schema path × (is_json_type type ≡ true)) → IsJsonPath schema path × (is_json_type type ≡ true)
      by true e k later = value_there (fast_values schema analyzer d) (free_values d h.0) e
      by false e k later = later k
