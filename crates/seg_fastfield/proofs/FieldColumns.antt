-- What a schema tells of its fields, and of the columns that it declares.
use Rattle.std.proofs.Common.{◌≡◌, ℕ, zero, suc, ◌<◌, Bool, true, false, cond, List, [], ◌∷◌, ◌++◌, map, filter, All, Option, None, Some, refl, sym, ap, subst, ◌∙◌, arith, unwrap_or}
use Rattle.std.specs.Prelude.{◌&&◌, ◌||◌, ℤ, nat_eq, nat_lt, not, is_some, IsSomeAnd, IfSome, IsTrue, length, ◌^◌, ◌-◌}
use Rattle.std.specs.Option.{option_map, option_or}
use Rattle.std.specs.List.{AllByRecursion, flat_map, list_all, slice_get}
use Rattle.std.specs.Str.{bytes_eq}
use Rattle.std.specs.Cmp.Lexicographic.{bytes_decides}
use Rattle.std.proofs.Math.Bool.{and-false}
use Rattle.std.proofs.lemmas.Bool.{and_parts, false≢true, not-true}
use Rattle.std.proofs.lemmas.Bool.Decides.{Decides-eqb}
use Rattle.std.proofs.lemmas.Option.{same_Some}
use Rattle.std.proofs.lemmas.Grind.{flat_map-append}
use Rattle.seg_common.specs.declared.column_type.ColumnType.{ColumnType}
use Rattle.seg_common.specs.DateUnits.{cut_to, precision_unit}
use Rattle.seg_values.specs.declared.schema.FieldEntry.{FieldEntry}
use Rattle.seg_values.specs.declared.schema.FieldKind.{FieldKind}
use Rattle.seg_values.specs.declared.schema.FieldKind.TheVariants as kinds
use Rattle.seg_values.specs.DistinctLists.{all_distinct}
use Rattle.seg_values.specs.SchemaRules.{is_entry, is_schema, same_name}
use Rattle.seg_values.specs.Tree.{Document, Leaf, null, facet, Tree, leaf, array, object, Trees, no_trees, tree}
use Rattle.seg_model.specs.DocumentCheck.{document_refusal, fields_refusal, leaves_refusal, limit_refusal, order_refusal, unless, value_refusal, wrong_value}
use Rattle.seg_model.specs.Columns.{ColumnValue, column_tokenizer, declared_type, json_column_path, leaf_values}
use Rattle.seg_model.specs.Fields.{Analyzer, Schema, is_indexed, is_json, is_text, values_of}
use Rattle.seg_model.specs.Leaves.{PlacedLeaf, leaves, leaves_at, leaves_of, leaves_of_trees, level_in_array}
use Rattle.seg_model.specs.AcceptedTrees.{are_own_arrays, is_null, is_of_kind, is_own_array, is_own_leaf, takes}
use Rattle.seg_model.specs.ValidInputs.{Known, has_unknown_fast_tokenizer, names_fit}
use Rattle.seg_model.proofs.Exports.{or_both, own_leaf_array}
use Rattle.seg_column_writer.specs.ValueKinds.{kind_of, kind_place}
use Rattle.seg_column_writer.specs.ColumnRecords.{ColumnRecord, RowedValue}
use Rattle.seg_column_writer.specs.RowOrderedColumns.{AreBelow, has_column}
use Rattle.seg_column_writer.specs.declared.value_kind.ValueKind.{ValueKind}
use Rattle.seg_column_writer.proofs.Exports.{AreEmpty, there_still}
use Rattle.seg_fastfield.specs.DeclaredColumns.{column_of, column_with, declared_among, declared_by, first_columns}
use Rattle.seg_fastfield.specs.FastLeaves.{IsKnown, IsTaken}
use Rattle.seg_column_format.specs.FastTokenizers.{AreKnown}
use Rattle.seg_fastfield.specs.RecordedLeaves.{IsFieldOf}
use Rattle.seg_fastfield.specs.FastFieldWriters.{AreUnderWay}
use Rattle.seg_fastfield.proofs.DocumentValues.{HaveTexts}
use Rattle.seg_fastfield.proofs.Facets.{AreTexts}
use Rattle.seg_fastfield.proofs.PathOwners.{AreApart, apart_owners, apart_rest, owns_itself, owns_keys, owns_path, unlike, unlike_at}

pub apart_from : (schema : Schema) → is_schema schema ≡ true → names_fit schema ≡ true → AreApart schema
apart_from schema valid fit = record {
  fit = fit;
  distinct = (and_parts (all_distinct same_name schema) (nat_lt (length schema) (2 ^ 32 - 1))
      (and_parts (list_all is_entry schema) (all_distinct same_name schema && nat_lt (length schema)
      (2 ^ 32 - 1)) valid).1).0;
}

-- ---- the columns of a schema

module _ (path : List ℕ) (kind : ValueKind) where
  -- the column of a field of another name
  skip : (x : FieldEntry) → bytes_eq path x.name ≡ false → (cs : List ColumnRecord)
      → (has_column path kind (column_of x ++ cs) ≡ has_column path kind cs)
      × (declared_among (column_of x ++ cs) path kind ≡ declared_among cs path kind)
  skip x other cs = by x.fast (declared_type x.kind)
    where
      not_named : (t : ColumnType) → (nat_eq (kind_place kind) (kind_place (kind_of t)) && bytes_eq path x.name) ≡ false
      not_named t = ap (λ (b : Bool). nat_eq (kind_place kind) (kind_place (kind_of t)) && b) other
          ∙ and-false (nat_eq (kind_place kind) (kind_place (kind_of t)))

      by : (b : Bool) (o : Option ColumnType)
          → (has_column path kind (cond b (column_with x o) [] ++ cs) ≡ has_column path kind cs)
          × (declared_among (cond b (column_with x o) [] ++ cs) path kind ≡ declared_among cs path kind)
      by false o = (refl, refl)
      by true None = (refl, refl)
      by true (Some t) = (
        ap (λ (b : Bool). b || has_column path kind cs) (not_named t),
        ap (λ (b : Bool). cond b (Some t) (declared_among cs path kind)) (not_named t),
      )

  -- no field has this name
  none_else : (xs : Schema) → ((j : ℕ) (e : FieldEntry) → slice_get xs j ≡ Some e → bytes_eq path e.name ≡ false)
      → declared_among (first_columns xs) path kind ≡ None
  none_else [] others = refl
  none_else (x ∷ xs) others =
      (skip x (others 0 x refl) (first_columns xs)).1 ∙ none_else xs (λ j e is. others (suc j) e is)

-- the column of a field is there, with its type
plain_column : (schema : Schema) → AreApart schema → (place : ℕ) (e : FieldEntry) → slice_get schema place ≡ Some e
    → e.fast ≡ true → (t : ColumnType) → declared_type e.kind ≡ Some t
    → (has_column e.name (kind_of t) (first_columns schema) ≡ true) × (declared_by schema e.name (kind_of t) ≡ Some t)
plain_column [] apart place e is fast t typed = absurd cc
plain_column (x ∷ xs) apart zero e is fast t typed =
    subst (λ (y : FieldEntry). (has_column e.name (kind_of t) (column_of y ++ first_columns xs) ≡ true)
    × (declared_among (column_of y ++ first_columns xs) e.name (kind_of t) ≡ Some t)) (sym (same_Some x e is)) own
  where
    named : (nat_eq (kind_place (kind_of t)) (kind_place (kind_of t)) && bytes_eq e.name e.name) ≡ true
    named = λ j. (Decides-eqb (kind_place (kind_of t)) (kind_place (kind_of t))).1 refl j &&
        (bytes_decides e.name e.name).1 refl j

    made : column_of e ≡ column_with e (Some t)
    made = λ j. cond (fast j) (column_with e (typed j)) []

    own : (has_column e.name (kind_of t) (column_of e ++ first_columns xs) ≡ true)
        × (declared_among (column_of e ++ first_columns xs) e.name (kind_of t) ≡ Some t)
    own = (
      (λ j. has_column e.name (kind_of t) (made j ++ first_columns xs))
          ∙ ap (λ (b : Bool). b || has_column e.name (kind_of t) (first_columns xs)) named,
      (λ j. declared_among (made j ++ first_columns xs) e.name (kind_of t))
          ∙ ap (λ (b : Bool). cond b (Some t) (declared_among (first_columns xs) e.name (kind_of t))) named,
    )
plain_column (x ∷ xs) apart (suc place) e is fast t typed =
    let other = unlike_at x xs (not-true (unlike x xs)
    (and_parts (not (unlike x xs)) (all_distinct same_name xs) apart.distinct).0) place e is in
    let past = skip e.name (kind_of t) x other (first_columns xs) in
    let there = plain_column xs (apart_rest x xs apart) place e is fast t typed in
    (past.0 ∙ there.0, past.1 ∙ there.1)

json_untyped : (k : FieldKind) → is_json k ≡ true → declared_type k ≡ None
json_untyped kinds.Json e = refl
json_untyped kind e = absurd (false≢true e)

-- no column is declared at a path of a JSON field
free_path : (schema : Schema) → AreApart schema → (place : ℕ) (e : FieldEntry) → slice_get schema place ≡ Some e
    → is_json e.kind ≡ true → (keys : List (List ℕ)) (kind : ValueKind)
    → declared_by schema (json_column_path e keys) kind ≡ None
free_path [] apart place e is json keys kind = refl
free_path (x ∷ xs) apart zero e is json keys kind =
    subst (λ (y : FieldEntry). declared_among (column_of y ++ first_columns xs) (json_column_path e keys) kind ≡ None)
    (sym (same_Some x e is)) (by e.fast)
  where
    other : (j : ℕ) (y : FieldEntry) → slice_get xs j ≡ Some y → bytes_eq (json_column_path e keys) y.name ≡ false
    other j y at = decide (bytes_eq (json_column_path e keys) y.name) refl
      where
        decide : (b : Bool) → bytes_eq (json_column_path e keys) y.name ≡ b → b ≡ false
        decide false f = refl
        decide true f = absurd (apart_owners x xs apart j y at (json_column_path e keys)
            (subst (λ (z : FieldEntry). owns_path z (json_column_path e keys) ≡ true) (sym (same_Some x e is))
            (owns_keys e keys json))
            (ap (owns_path y) ((bytes_decides (json_column_path e keys) y.name).0 f) ∙ owns_itself y))

    rest : declared_among (first_columns xs) (json_column_path e keys) kind ≡ None
    rest = none_else (json_column_path e keys) kind xs other

    by : (b : Bool) → declared_among (cond b (column_with e (declared_type e.kind)) [] ++ first_columns xs)
        (json_column_path e keys) kind ≡ None
    by true = ap (λ (o : Option ColumnType). declared_among (column_with e o ++ first_columns xs)
        (json_column_path e keys) kind)
        (json_untyped e.kind json) ∙ rest
    by false = rest
free_path (x ∷ xs) apart (suc place) e is json keys kind =
    (skip (json_column_path e keys) kind x (decide (bytes_eq (json_column_path e keys) x.name) refl)
    (first_columns xs)).1
    ∙ free_path xs (apart_rest x xs apart) place e is json keys kind
  where
    decide : (b : Bool) → bytes_eq (json_column_path e keys) x.name ≡ b → b ≡ false
    decide false f = refl
    decide true f = absurd (apart_owners x xs apart place e is (json_column_path e keys)
        (ap (owns_path x) ((bytes_decides (json_column_path e keys) x.name).0 f)
        ∙ owns_itself x) (owns_keys e keys json))

pub field_of : (schema : Schema) → AreApart schema → (place : ℕ) (e : FieldEntry) → slice_get schema place ≡ Some e
    → e.fast ≡ true → IsFieldOf schema e
field_of schema apart place e is fast = record {
  fast = fast;
  plain = plain_column schema apart place e is fast;
  free = free_path schema apart place e is;
}

-- ---- before any document

abbrev IsPartOf : Schema → Schema → Type 0
IsPartOf schema xs = (j : ℕ) (e : FieldEntry) → slice_get xs j ≡ Some e
    → (t : ColumnType) → e.fast ≡ true → declared_type e.kind ≡ Some t → declared_by schema e.name (kind_of t) ≡ Some t

no_values : All (λ (v : RowedValue). v.row < 0) []
no_values k d lt = absurd (omega (arith, lt))

below_at_first : (schema xs : Schema) → IsPartOf schema xs → AreBelow (declared_by schema) 0 (first_columns xs)
below_at_first schema [] part = tt
below_at_first schema (x ∷ xs) part = by x.fast (declared_type x.kind) refl refl
    (below_at_first schema xs (λ j e is. part (suc j) e is))
  where
    by : (b : Bool) (o : Option ColumnType) → x.fast ≡ b → declared_type x.kind ≡ o
        → AreBelow (declared_by schema) 0 (first_columns xs)
        → AreBelow (declared_by schema) 0 (cond b (column_with x o) [] ++ first_columns xs)
    by false o fast typed rest = rest
    by true None fast typed rest = rest
    by true (Some t) fast typed rest = (
      record {
        within = no_values;
        declared_is = sym
            (part 0 x refl t fast typed);
      },
      rest,
    )

pub under_way_at_first : (schema : Schema) → AreApart schema → AreUnderWay schema 0 (first_columns schema)
under_way_at_first schema apart = record {
  below = below_at_first schema schema (λ j e is t fast typed. (plain_column schema apart j e is fast t typed).1);
  there = there_still (first_columns schema);
}

pub empty_at_first : (schema : Schema) → AreEmpty (first_columns schema)
empty_at_first [] = tt
empty_at_first (x ∷ xs) = by x.fast (declared_type x.kind) (empty_at_first xs)
  where
    by : (b : Bool) (o : Option ColumnType) → AreEmpty (first_columns xs)
        → AreEmpty (cond b (column_with x o) [] ++ first_columns xs)
    by false o rest = rest
    by true None rest = rest
    by true (Some t) rest = (refl, rest)

-- ---- documents that pass the check

not_refused : (schema : Schema) (p : ℕ × Tree) (o : Option FieldEntry) → value_refusal p.0 p.1 o ≡ None
    → IsSomeAnd o (λ e. takes e p.1 ≡ true)
not_refused schema p None e = absurd (false≢true (sym (ap is_some e)))
not_refused schema p (Some entry) e = by (takes entry p.1) refl e
  where
    by : (b : Bool) → takes entry p.1 ≡ b → unless b (wrong_value p.0) ≡ None → takes entry p.1 ≡ true
    by true is e = is
    by false is e = absurd (false≢true (sym (ap is_some e)))

each_taken : (schema : Schema) (document : Document) → fields_refusal schema document ≡ None
    → AllByRecursion (IsTaken schema) document
each_taken schema [] e = tt
each_taken schema (p ∷ ps) e =
    let both = or_both (value_refusal p.0 p.1 (slice_get schema p.0)) (fields_refusal schema ps) e in
    (not_refused schema p (slice_get schema p.0) both.0, each_taken schema ps both.1)

pub all_taken : (schema : Schema) (analyzer : Analyzer) (document : Document)
    → document_refusal schema analyzer document ≡ None → AllByRecursion (IsTaken schema) document
all_taken schema analyzer document e =
    each_taken schema document (or_both (fields_refusal schema document)
    (option_or (leaves_refusal schema document)
    (option_or (order_refusal schema analyzer document) (limit_refusal schema analyzer document))) e).0

pub own_array : (e : FieldEntry) (t : Tree) → e.fast ≡ true → takes e t ≡ true
    → (is_json e.kind || is_own_array e.kind t) ≡ true
own_array e t fast taken = by (is_json e.kind) (is_indexed e) e.fast fast taken
  where
    by : (j i f : Bool) → f ≡ true
        → cond j true (cond i (is_own_leaf e.kind t) (cond f (is_own_array e.kind t) true)) ≡ true
        → (j || is_own_array e.kind t) ≡ true
    by true i f fast taken = refl
    by false true f fast taken = own_leaf_array e.kind t taken
    by false false true fast taken = taken
    by false false false fast taken = absurd (false≢true fast)

-- ---- the texts of facets

texts_both : (xs ys : List ColumnValue) → AreTexts xs → AreTexts ys → AreTexts (xs ++ ys)
texts_both [] ys first rest = rest
texts_both (x ∷ xs) ys first rest = (first.0, texts_both xs ys first.1 rest)

module _ (analyzer : Analyzer) (tokenizer : Option (List ℕ)) (cut : ℤ → ℤ) where
  abbrev values_in : PlacedLeaf → List ColumnValue
  values_in p = leaf_values analyzer tokenizer cut p.leaf

  facet_leaf : (l : Leaf) → (is_null l || is_of_kind kinds.Facet l) ≡ true
      → AreTexts (leaf_values analyzer tokenizer cut l)
  facet_leaf null e = tt
  facet_leaf (facet s) e = (tt, tt)
  facet_leaf l e = absurd (false≢true e)

  mutual
    facet_tree : (keys : List (List ℕ)) (level : ℕ) (t : Tree) → is_own_array kinds.Facet t ≡ true
        → AreTexts (flat_map values_in (leaves_at keys level t))
    facet_tree keys level (leaf l) e = texts_both (leaf_values analyzer tokenizer cut l) [] (facet_leaf l e) tt
    facet_tree keys level (array ts) e = facet_trees keys (level_in_array level) ts e
    facet_tree keys level (object ms) e = absurd (false≢true e)

    facet_trees : (keys : List (List ℕ)) (level : ℕ) (ts : Trees) → are_own_arrays kinds.Facet ts ≡ true
        → AreTexts (flat_map values_in (leaves_of_trees keys level ts))
    facet_trees keys level no_trees e = tt
    facet_trees keys level (tree t ts) e =
        let both = and_parts (is_own_array kinds.Facet t) (are_own_arrays kinds.Facet ts) e in
        subst AreTexts (sym (flat_map-append values_in (leaves_at keys level t) (leaves_of_trees keys level ts)))
        (texts_both (flat_map values_in (leaves_at keys level t)) (flat_map values_in (leaves_of_trees keys level ts))
        (facet_tree keys level t both.0) (facet_trees keys level ts both.1))

  facet_values : (ts : List Tree) → AllByRecursion (λ t. is_own_array kinds.Facet t ≡ true) ts
      → AreTexts (flat_map values_in (leaves_of ts))
  facet_values [] each = tt
  facet_values (t ∷ ts) each =
      subst AreTexts (sym (flat_map-append values_in (leaves t) (leaves_of ts)))
      (texts_both (flat_map values_in (leaves t)) (flat_map values_in (leaves_of ts)) (facet_tree [] 0 t each.0)
      (facet_values ts each.1))

module _ (schema : Schema) (document : Document) (taken : AllByRecursion (IsTaken schema) document) where
  -- the values of a field are values that it takes
  values_taken : (n : ℕ) (e : FieldEntry) → slice_get schema n ≡ Some e → e.fast ≡ true → is_json e.kind ≡ false
      → (ps : Document) → AllByRecursion (IsTaken schema) ps
      → AllByRecursion (λ t. is_own_array e.kind t ≡ true) (values_of n ps)
  values_taken n e is fast plain [] each = tt
  values_taken n e is fast plain (p ∷ ps) each = by (nat_eq n p.0) refl (values_taken n e is fast plain ps each.1)
    where
      by : (b : Bool) → nat_eq n p.0 ≡ b → AllByRecursion (λ t. is_own_array e.kind t ≡ true) (values_of n ps)
          → AllByRecursion (λ t. is_own_array e.kind t ≡ true) (map (λ (q : ℕ × Tree). q.1)
          (cond b (p ∷ filter (λ (q : ℕ × Tree). nat_eq n q.0) ps) (filter (λ (q : ℕ × Tree). nat_eq n q.0) ps)))
      by false same rest = rest
      by true same rest =
          let at : slice_get schema p.0 ≡ Some e =
          ap (slice_get schema) (sym ((Decides-eqb n p.0).0 same)) ∙ is in
          let one : takes e p.1 ≡ true = subst (λ (o : Option FieldEntry). IsSomeAnd o
          (λ x. takes x p.1 ≡ true)) at each.0 in
          (ap (λ (b : Bool). b || is_own_array e.kind p.1) (sym plain) ∙ own_array e p.1 fast one, rest)

  pub texts_taken : (analyzer : Analyzer) → HaveTexts analyzer schema document
  texts_taken analyzer n e is facets fast =
      facet_values analyzer (column_tokenizer e) (cut_to (precision_unit e.precision)) (values_of n document)
      (subst (λ (k : FieldKind). AllByRecursion (λ t. is_own_array k t ≡ true) (values_of n document)) facets
      (values_taken n e is fast (ap is_json facets) document taken))

-- ---- tokenizers

pub known_one : (known : Known) (e : FieldEntry) → has_unknown_fast_tokenizer known e ≡ false → IsKnown known e
known_one known e none = by e.fast (is_text e.kind || is_json e.kind) e.fast_tokenizer none
  where
    by : (f t : Bool) (o : Option (List ℕ))
        → ((f && t) && unwrap_or (option_map (λ name. not (known name)) o) false) ≡ false
        → IfSome (cond (f && t) o None) (λ name. IsTrue (known name))
    by false t o e = tt
    by true false o e = tt
    by true true None e = tt
    by true true (Some name) e = known_from (known name) e
      where
        known_from : (b : Bool) → not b ≡ false → IsTrue b
        known_from true e = refl
        known_from false e = absurd (false≢true (sym e))

pub known_at : (known : Known) (schema : Schema) → AreKnown known schema → (place : ℕ) (e : FieldEntry)
    → slice_get schema place ≡ Some e → IsKnown known e
known_at known [] all place e is = absurd cc
known_at known (x ∷ xs) all zero e is = subst (IsKnown known) (same_Some x e is) (known_one known x all.0)
known_at known (x ∷ xs) all (suc place) e is = known_at known xs all.1 place e is
