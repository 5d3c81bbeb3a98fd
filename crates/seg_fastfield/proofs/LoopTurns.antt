-- One more turn of the loops over fields, tokens, pairs, arrays and objects.
use Rattle.std.proofs.Common.{◌≡◌, ℕ, zero, suc, ◌+◌, ◌<◌, Bool, true, false, cond, List, [], ◌∷◌, ◌++◌, length, drop, get_or, Option, None, Some, Result, Ok, Err, OnOk, refl, sym, ap, subst, ◌∙◌, append-nil, append_assoc}
use Rattle.std.specs.Prelude.{◌&&◌, ◌||◌, nat_eq, not}
use Rattle.std.specs.List.{AllByRecursion, flat_map, list_any, slice_get}
use Rattle.std.specs.Str.{bytes_eq}
use Rattle.std.proofs.Math.Bool.{and-false}
use Rattle.std.proofs.lemmas.Bool.{and_parts, false≢true, or_from, or_parts, not-true}
use Rattle.std.proofs.lemmas.List.Folds.{list_any-append}
use Rattle.std.proofs.lemmas.Grind.{flat_map-append}
use Rattle.seg_common.proofs.Lists.{drop-get_or, drop-slice_get}
use Rattle.seg_common.specs.declared.column_type.ColumnType.{ColumnType}
use Rattle.seg_columns.specs.declared.error.ColumnError.{ColumnError}
use Rattle.seg_tokens.specs.declared.token.Token.{Token}
use Rattle.seg_values.specs.declared.schema.FieldEntry.{FieldEntry}
use Rattle.seg_values.specs.declared.value.OwnedValue.{OwnedValue}
use Rattle.seg_values.specs.declared.value.OwnedValue.TheVariants as values
use Rattle.seg_values.specs.DistinctLists.{all_distinct}
use Rattle.seg_values.specs.SchemaRules.{same_name}
use Rattle.seg_values.specs.Tree.{Document, Tree, trees_from, members_from, leaf}
use Rattle.seg_values.specs.ValueTrees.{tree_of}
use Rattle.seg_model.specs.Columns.{FastValue, text_value, token_texts, declared_type}
use Rattle.seg_model.specs.Fields.{Analyzer, Schema, is_facet, is_json}
use Rattle.seg_model.specs.Leaves.{leaves_at, leaves_of_members, leaves_of_trees}
use Rattle.seg_model.specs.AcceptedTrees.{are_own_arrays, is_own_array}
use Rattle.seg_column_writer.specs.DocumentRows.{with_values}
use Rattle.seg_column_writer.specs.ValueKinds.{kind_of, kind_place}
use Rattle.seg_column_writer.specs.ColumnRecords.{ColumnRecord, is_named, with_type}
use Rattle.seg_column_writer.specs.RowOrderedColumns.{has_column}
use Rattle.seg_column_writer.specs.RecordingRules.{with_change, with_recorded}
use Rattle.seg_column_writer.specs.declared.value_kind.ValueKind.{ValueKind}
use Rattle.seg_column_writer.specs.declared.value_kind.ValueKind.TheVariants.{Str}
use Rattle.seg_column_writer.proofs.Exports.{with_change_new}
use Rattle.seg_paths.specs.NumberedLeaves.{leaf_in}
use Rattle.seg_fastfield.specs.FastLeaves.{IsTaken, entry_leaf, pair_values, recorded_values, values_under}
use Rattle.seg_fastfield.specs.DeclaredColumns.{column_of, column_with, first_columns}
use Rattle.seg_fastfield.proofs.PathOwners.{unlike}
use Rattle.seg_fastfield.proofs.LeafRecords.{values_both}

-- ---- declared columns

abbrev pub is_taken : List ℕ → List ColumnRecord → Bool
is_taken name columns = list_any (λ c. bytes_eq name c.path) columns

-- no column has the name of a field that is left
abbrev pub AreNew : Schema → List ColumnRecord → Type 0
AreNew left columns = AllByRecursion (λ e. is_taken e.name columns ≡ false) left

pub not_there : (name : List ℕ) (kind : ValueKind) (cs : List ColumnRecord) → is_taken name cs ≡ false
    → has_column name kind cs ≡ false
not_there name kind [] none = refl
not_there name kind (c ∷ cs) none =
    let parts = or_parts (bytes_eq name c.path) (is_taken name cs) none in
    or_from (is_named name kind c) (has_column name kind cs)
    (ap (λ (b : Bool). nat_eq (kind_place kind) (kind_place c.recording.kind) && b) parts.0
    ∙ and-false (nat_eq (kind_place kind) (kind_place c.recording.kind)))
    (not_there name kind cs parts.1)

pub declared_more : (entry : FieldEntry) (t : ColumnType) (sorts : Bool) (old new : List ColumnRecord)
    → entry.fast ≡ true → declared_type entry.kind ≡ Some t → sorts ≡ is_facet entry.kind
    → is_taken entry.name old ≡ false
    → new ≡ with_change entry.name (kind_of t) (with_type t sorts) old → new ≡ old ++ column_of entry
declared_more entry t sorts old new fast typed facet none is =
    is ∙ (λ j. with_change entry.name (kind_of t) (with_type t (facet j)) old)
    ∙ with_change_new entry.name (kind_of t) (with_type t (is_facet entry.kind)) old (not_there entry.name
    (kind_of t) old none)
    ∙ sym (λ j. old ++ cond (fast j) (column_with entry (typed j)) [])

nothing_declared : (entry : FieldEntry) (old : List ColumnRecord) → entry.fast ≡ false → old ≡ old ++ column_of entry
nothing_declared entry old slow = sym (ap (λ (b : Bool). old ++ cond b (column_with entry
    (declared_type entry.kind)) []) slow
    ∙ append-nil old)

pub declared_none : (entry : FieldEntry) (old : List ColumnRecord) → declared_type entry.kind ≡ None
    → old ≡ old ++ column_of entry
declared_none entry old typed = by entry.fast
  where
    by : (b : Bool) → old ≡ old ++ cond b (column_with entry (declared_type entry.kind)) []
    by true = sym (ap (λ (o : Option ColumnType). old ++ column_with entry o) typed ∙ append-nil old)
    by false = sym (append-nil old)

taken_by : (name : List ℕ) (e : FieldEntry) → bytes_eq name e.name ≡ false → is_taken name (column_of e) ≡ false
taken_by name e other = by e.fast (declared_type e.kind)
  where
    by : (b : Bool) (o : Option ColumnType) → is_taken name (cond b (column_with e o) []) ≡ false
    by false o = refl
    by true None = refl
    by true (Some t) = ap (λ (b : Bool). b || false) other

new_still : (e : FieldEntry) (es : Schema) (cs : List ColumnRecord) → AreNew es cs → unlike e es ≡ false
    → AreNew es (cs ++ column_of e)
new_still e [] cs new other = tt
new_still e (x ∷ xs) cs new other =
    let parts = or_parts (same_name x e) (unlike e xs) other in (
      list_any-append (λ c. bytes_eq x.name c.path) cs (column_of e)
          ∙ or_from (is_taken x.name cs) (is_taken x.name (column_of e)) new.0 (taken_by x.name e parts.0),
      new_still e xs cs new.1 parts.1,
    )

module _ (schema : Schema) (i : ℕ) (e : FieldEntry) (lt : i < length schema) (is : e ≡ get_or schema i e) where
  left : drop i schema ≡ e ∷ drop (i + 1) schema
  left = drop-get_or schema i (i + 1) e lt refl is

  pub entry_new : (cs : List ColumnRecord) → AreNew (drop i schema) cs → is_taken e.name cs ≡ false
  entry_new cs new = (subst (λ (l : Schema). AreNew l cs) left new).0

  unlike_left : all_distinct same_name (drop i schema) ≡ true
      → (not (unlike e (drop (i + 1) schema)) ≡ true) × (all_distinct same_name (drop (i + 1) schema) ≡ true)
  unlike_left distinct = and_parts (not (unlike e (drop (i + 1) schema))) (all_distinct same_name (drop (i + 1) schema))
      (sym (ap (all_distinct same_name) left) ∙ distinct)

  pub distinct_turn : all_distinct same_name (drop i schema) ≡ true
      → all_distinct same_name (drop (i + 1) schema) ≡ true
  distinct_turn distinct = (unlike_left distinct).1

  pub new_turn : (cs new : List ColumnRecord) → AreNew (drop i schema) cs
      → all_distinct same_name (drop i schema) ≡ true
      → new ≡ cs ++ column_of e → AreNew (drop (i + 1) schema) new
  new_turn cs new are_new distinct made = subst (AreNew (drop (i + 1) schema)) (sym made)
      (new_still e (drop (i + 1) schema) cs (subst (λ (l : Schema). AreNew l cs) left are_new).1
      (not-true (unlike e (drop (i + 1) schema)) (unlike_left distinct).0))

  pub columns_turn : (cs new : List ColumnRecord) → new ≡ cs ++ column_of e
      → new ++ first_columns (drop (i + 1) schema) ≡ cs ++ first_columns (drop i schema)
  columns_turn cs new made =
      ap (λ (l : List ColumnRecord). l ++ first_columns (drop (i + 1) schema)) made
      ∙ append_assoc cs (column_of e) (first_columns (drop (i + 1) schema))
      ∙ ap (λ (l : Schema). cs ++ first_columns l) (sym left)

-- ---- tokens

pub token_turn : (row : ℕ) (path : List ℕ) (tokens : List Token) (i : ℕ) (t : Token) (s : List ℕ)
    (old new : List ColumnRecord) → i < length tokens → t ≡ get_or tokens i t → s ≡ t.text
    → new ≡ with_recorded path Str row (text_value s) old
    → with_values row (values_under path (token_texts (drop (i + 1) tokens))) new
    ≡ with_values row (values_under path (token_texts (drop i tokens))) old
token_turn row path tokens i t s old new lt is text made =
    ap (with_values row (values_under path (token_texts (drop (i + 1) tokens))))
    (made ∙ ap (λ (x : List ℕ). with_recorded path Str row (text_value x) old) text)
    ∙ ap (λ (l : List Token). with_values row (values_under path (token_texts l)) old)
    (sym (drop-get_or tokens i (i + 1) t lt refl is))

-- ---- pairs

pub pair_turn : (row : ℕ) (schema : Schema) (analyzer : Analyzer) (document : Document) (i : ℕ) (p : ℕ × Tree)
    (old new : List ColumnRecord) → slice_get document i ≡ Some p
    → new ≡ with_values row (pair_values analyzer p.1 (slice_get schema p.0)) old
    → with_values row (recorded_values schema analyzer (drop (i + 1) document)) new
    ≡ with_values row (recorded_values schema analyzer (drop i document)) old
pair_turn row schema analyzer document i p old new at made =
    ap (with_values row (recorded_values schema analyzer (drop (i + 1) document))) made
    ∙ sym (values_both row (pair_values analyzer p.1 (slice_get schema p.0))
    (recorded_values schema analyzer (drop (i + 1) document)) old)
    ∙ ap (λ (l : Document). with_values row (recorded_values schema analyzer l) old) (sym
    (drop-slice_get document i p at))

pub pair_taken : (schema : Schema) (document : Document) (i : ℕ) (p : ℕ × Tree) → slice_get document i ≡ Some p
    → AllByRecursion (IsTaken schema) (drop i document)
    → IsTaken schema p × AllByRecursion (IsTaken schema) (drop (i + 1) document)
pair_taken schema document i p at all = subst (AllByRecursion (IsTaken schema)) (drop-slice_get document i p at) all

-- ---- arrays and objects

module _ (row : ℕ) (analyzer : Analyzer) (entry : FieldEntry) (keys : List (List ℕ)) (level : ℕ) (t : Tree)
    (old new : List ColumnRecord) where
  pub tree_turn : (ts : List Tree) (i : ℕ) → slice_get ts i ≡ Some t
      → new ≡ with_values row (flat_map (entry_leaf analyzer entry) (leaves_at keys level t)) old
      → with_values row (flat_map (entry_leaf analyzer entry) (leaves_of_trees keys level (trees_from (drop
      (i + 1) ts)))) new
      ≡ with_values row (flat_map (entry_leaf analyzer entry) (leaves_of_trees keys level (trees_from (drop i ts)))) old
  tree_turn ts i at made =
      ap (with_values row (flat_map (entry_leaf analyzer entry) (leaves_of_trees keys level (trees_from (drop
      (i + 1) ts))))) made
      ∙ sym (values_both row (flat_map (entry_leaf analyzer entry) (leaves_at keys level t))
      (flat_map (entry_leaf analyzer entry) (leaves_of_trees keys level (trees_from (drop (i + 1) ts)))) old)
      ∙ ap (λ (vs : List FastValue). with_values row vs old)
      (sym (flat_map-append (entry_leaf analyzer entry) (leaves_at keys level t) (leaves_of_trees keys level (trees_from
      (drop (i + 1) ts)))))
      ∙ ap (λ (l : List Tree). with_values row (flat_map (entry_leaf analyzer entry) (leaves_of_trees keys level
      (trees_from l))) old)
      (sym (drop-slice_get ts i t at))

  pub member_turn : (ms : List (List ℕ × Tree)) (i : ℕ) (key : List ℕ) → slice_get ms i ≡ Some (key, t)
      → new ≡ with_values row (flat_map (entry_leaf analyzer entry) (leaves_at (keys ++ key ∷ []) level t)) old
      → with_values row (flat_map (entry_leaf analyzer entry) (leaves_of_members keys level (members_from (drop
      (i + 1) ms)))) new
      ≡ with_values row (flat_map (entry_leaf analyzer entry) (leaves_of_members keys level (members_from
      (drop i ms)))) old
  member_turn ms i key at made =
      ap (with_values row (flat_map (entry_leaf analyzer entry) (leaves_of_members keys level (members_from (drop
      (i + 1) ms))))) made
      ∙ sym (values_both row (flat_map (entry_leaf analyzer entry) (leaves_at (keys ++ key ∷ []) level t))
      (flat_map (entry_leaf analyzer entry) (leaves_of_members keys level (members_from (drop (i + 1) ms)))) old)
      ∙ ap (λ (vs : List FastValue). with_values row vs old)
      (sym (flat_map-append (entry_leaf analyzer entry) (leaves_at (keys ++ key ∷ []) level t)
      (leaves_of_members keys level (members_from (drop (i + 1) ms)))))
      ∙ ap (λ (l : List (List ℕ × Tree)). with_values row (flat_map (entry_leaf analyzer entry)
      (leaves_of_members keys level (members_from l))) old) (sym (drop-slice_get ms i (key, t) at))

-- what a field takes it takes of each value of an array
pub takes_tree : (entry : FieldEntry) (ts : List Tree) (i : ℕ) (t : Tree) → slice_get ts i ≡ Some t
    → (is_json entry.kind || are_own_arrays entry.kind (trees_from ts)) ≡ true
    → (is_json entry.kind || is_own_array entry.kind t) ≡ true
takes_tree entry ts i t at takes = by (is_json entry.kind) takes
  where
    each : (ts : List Tree) (i : ℕ) → slice_get ts i ≡ Some t → are_own_arrays entry.kind (trees_from ts) ≡ true
        → is_own_array entry.kind t ≡ true
    each [] i at own = absurd cc
    each (x ∷ xs) zero at own =
        sym (ap (is_own_array entry.kind) (same x at))
        ∙ (and_parts (is_own_array entry.kind x) (are_own_arrays entry.kind (trees_from xs)) own).0
      where
        same : (x : Tree) → Some x ≡ Some t → x ≡ t
        same x e = cc
    each (x ∷ xs) (suc i) at own =
        each xs i at (and_parts (is_own_array entry.kind x) (are_own_arrays entry.kind (trees_from xs)) own).1

    by : (b : Bool) → (b || are_own_arrays entry.kind (trees_from ts)) ≡ true → (b || is_own_array entry.kind t) ≡ true
    by true takes = refl
    by false takes = each ts i at takes

-- only a JSON field takes an object
pub object_json : (entry : FieldEntry) → (is_json entry.kind || false) ≡ true → is_json entry.kind ≡ true
object_json entry takes = by (is_json entry.kind) takes
  where
    by : (b : Bool) → (b || false) ≡ true → b ≡ true
    by true takes = refl
    by false takes = absurd (false≢true takes)

pub is_leaf : (v : OwnedValue) → ((ts : List Tree) → v ≡ values.Array ts → ⊥)
    → ((ms : List (List ℕ × Tree)) → v ≡ values.Object ms → ⊥) → tree_of v ≡ leaf (leaf_in (tree_of v))
is_leaf values.Null no_array no_object = refl
is_leaf (values.Str s) no_array no_object = refl
is_leaf (values.PreTokStr p) no_array no_object = refl
is_leaf (values.U64 n) no_array no_object = refl
is_leaf (values.I64 z) no_array no_object = refl
is_leaf (values.Bool b) no_array no_object = refl
is_leaf (values.Date z) no_array no_object = refl
is_leaf (values.Facet s) no_array no_object = refl
is_leaf (values.Bytes b) no_array no_object = refl
is_leaf (values.Array ts) no_array no_object = absurd (no_array ts refl)
is_leaf (values.Object ms) no_array no_object = absurd (no_object ms refl)
is_leaf (values.IpAddr a) no_array no_object = refl

-- as the last call answers
pub declared_result : (entry : FieldEntry) (name : List ℕ) (t : ColumnType) (sorts : Bool) (old new : List ColumnRecord)
    (result : Result (Unit {0}) ColumnError) → entry.fast ≡ true → declared_type entry.kind ≡ Some t
    → sorts ≡ is_facet entry.kind → is_taken entry.name old ≡ false → name ≡ entry.name
    → OnOk result (new ≡ with_change name (kind_of t) (with_type t sorts) old)
    → OnOk result (new ≡ old ++ column_of entry)
declared_result entry name t sorts old new (Ok tt) fast typed facet none named is =
    declared_more entry t sorts old new fast typed facet none
    (is ∙ ap (λ (n : List ℕ). with_change n (kind_of t) (with_type t sorts) old) named)
declared_result entry name t sorts old new (Err e) fast typed facet none named is = tt
