-- What a document records pair by pair has at each key the values of the model, field by field.
use Rattle.std.proofs.Common.{◌≡◌, ℕ, zero, suc, ◌+◌, ◌<◌, Bool, true, false, cond, List, [], ◌∷◌, ◌++◌, map, filter, Option, None, Some, refl, sym, ap, subst, ◌∙◌, arith, append-nil}
use Rattle.std.specs.Prelude.{◌&&◌, ◌||◌, nat_eq, nat_le}
use Rattle.std.specs.List.{enumerate_from, flat_map, list_any, slice_get}
use Rattle.std.specs.Ordering.{eq_by_cmp}
use Rattle.std.specs.Str.{bytes_eq}
use Rattle.std.specs.Cmp.Lexicographic.{bytes_decides}
use Rattle.std.proofs.lemmas.Bool.{false≢true}
use Rattle.std.proofs.lemmas.Bool.Decides.{Decides-eqb}
use Rattle.std.proofs.Math.Bool.{and-false}
use Rattle.std.proofs.lemmas.List.{map-append}
use Rattle.std.proofs.lemmas.List.Elements.{filter-append}
use Rattle.std.proofs.lemmas.Grind.{flat_map-append}
use Rattle.seg_common.specs.TabulatedMaps.{is_among}
use Rattle.seg_common.specs.declared.column_type.ColumnType.{ColumnType}
use Rattle.seg_common.specs.declared.column_type.ColumnType.TheVariants as types
use Rattle.seg_common.specs.DateUnits.{cut_to, precision_unit}
use Rattle.seg_common.proofs.Lists.{flat_map-none}
use Rattle.seg_values.specs.declared.schema.FieldEntry.{FieldEntry}
use Rattle.seg_values.specs.declared.schema.FieldKind.{FieldKind}
use Rattle.seg_values.specs.declared.schema.FieldKind.TheVariants as kinds
use Rattle.seg_values.specs.Tree.{Document, Tree}
use Rattle.seg_model.specs.Columns.{ColumnKey, ColumnValue, FastValue, column_cmp, column_tokenizer, declared_type, declared_values, fast_values, field_fast_values, json_column_path, json_cut, json_leaf_values, kind_fast_values, leaf_values, sorted, type_place, under_name, value_keys, value_types, values_at}
use Rattle.seg_model.specs.Fields.{Analyzer, Schema, is_facet, is_json, values_of}
use Rattle.seg_model.specs.Leaves.{PlacedLeaf, leaves, leaves_of}
use Rattle.seg_column_writer.specs.DocumentRows.{arranged, sorts_at}
use Rattle.seg_column_writer.specs.ValueKinds.{kind_of, kind_place}
use Rattle.seg_column_writer.specs.ColumnRecords.{ColumnRecord, is_named}
use Rattle.seg_column_writer.specs.declared.value_kind.ValueKind.TheVariants.{Str}
use Rattle.seg_column_writer.proofs.Exports.{is_at, key_eq}
use Rattle.seg_fastfield.specs.DeclaredColumns.{column_of, column_with, first_columns}
use Rattle.seg_fastfield.specs.FastLeaves.{entry_leaf, entry_values, pair_values, recorded_values, values_under}
use Rattle.seg_fastfield.proofs.Facets.{AreTexts, facets_at}
use Rattle.seg_fastfield.proofs.PathOwners.{AreApart, IsOwner, owner_of, owns_itself, owns_keys, owns_path}

-- ---- values at a key

pub at-append : (key : ColumnKey) (xs ys : List FastValue)
    → values_at key (xs ++ ys) ≡ values_at key xs ++ values_at key ys
at-append key xs ys =
    let test : FastValue → Bool = λ v. is_among column_cmp (value_keys v) key in
    ap (map (λ (v : FastValue). v.value)) (filter-append test xs ys)
    ∙ map-append (λ (v : FastValue). v.value) (filter test xs) (filter test ys)

pub at-flat : {X : Type 0} (key : ColumnKey) (f : X → List FastValue) (xs : List X)
    → values_at key (flat_map f xs) ≡ flat_map (λ x. values_at key (f x)) xs
at-flat key f [] = refl
at-flat key f (x ∷ xs) = at-append key (f x) (flat_map f xs) ∙ ap (λ l. values_at key (f x) ++ l) (at-flat key f xs)

no_keys : (key : ColumnKey) (path : List ℕ) → bytes_eq key.path path ≡ false → (ts : List ColumnType)
    → list_any (eq_by_cmp column_cmp key) (map (λ (t : ColumnType). record { path = path; type = t }) ts) ≡ false
no_keys key path other [] = refl
no_keys key path other (t ∷ ts) = λ j. (key_eq key (record { path = path; type = t })
    ∙ (λ k. other k && nat_eq (type_place key.type) (type_place t))) j || no_keys key path other ts j

not_under : (key : ColumnKey) (path : List ℕ) → bytes_eq key.path path ≡ false → (vs : List ColumnValue)
    → values_at key (values_under path vs) ≡ []
not_under key path other [] = refl
not_under key path other (v ∷ vs) =
    let here : FastValue = record { path = path; value = v } in
    let rest : List FastValue = filter (λ (w : FastValue). is_among column_cmp (value_keys w) key)
    (values_under path vs) in
    ap (λ (b : Bool). map (λ (w : FastValue). w.value) (cond b (here ∷ rest) rest)) (no_keys key path other
    (value_types v))
    ∙ not_under key path other vs

map-flat : {X Y Z : Type 0} (f : Y → Z) (g : X → List Y) (xs : List X)
    → map f (flat_map g xs) ≡ flat_map (λ x. map f (g x)) xs
map-flat f g [] = refl
map-flat f g (x ∷ xs) = map-append f (g x) (flat_map g xs) ∙ ap (λ l. map f (g x) ++ l) (map-flat f g xs)

-- ---- values of a field

abbrev cut_values : Analyzer → FieldEntry → PlacedLeaf → List ColumnValue
cut_values analyzer entry p =
    leaf_values analyzer (column_tokenizer entry) (cut_to (precision_unit entry.precision)) p.leaf

abbrev json_values : Analyzer → FieldEntry → PlacedLeaf → List ColumnValue
json_values analyzer entry p = leaf_values analyzer entry.fast_tokenizer (json_cut p.keys) p.leaf

-- what the leaves of a field give, in the order of the document
abbrev pub raw : Analyzer → FieldEntry → List Tree → List FastValue
raw analyzer entry values = flat_map (entry_leaf analyzer entry) (leaves_of values)

-- and those of a fast field, if there is one
abbrev raw_field : Analyzer → Option FieldEntry → List Tree → List FastValue
raw_field analyzer None values = []
raw_field analyzer (Some entry) values = cond entry.fast (raw analyzer entry values) []

raw_more : (analyzer : Analyzer) (o : Option FieldEntry) (t : Tree) (ts : List Tree)
    → raw_field analyzer o (t ∷ ts) ≡ pair_values analyzer t o ++ raw_field analyzer o ts
raw_more analyzer None t ts = refl
raw_more analyzer (Some entry) t ts = by entry.fast
  where
    by : (b : Bool) → cond b (raw analyzer entry (t ∷ ts)) []
        ≡ cond b (entry_values analyzer entry t) [] ++ cond b (raw analyzer entry ts) []
    by true = flat_map-append (entry_leaf analyzer entry) (leaves t) (leaves_of ts)
    by false = refl

-- ---- a field whose paths are others

module _ (analyzer : Analyzer) (key : ColumnKey) where
  apart : (entry : FieldEntry) (path : List ℕ) → owns_path entry path ≡ true → owns_path entry key.path ≡ false
      → bytes_eq key.path path ≡ false
  apart entry path own other = by (bytes_eq key.path path) refl
    where
      by : (b : Bool) → bytes_eq key.path path ≡ b → b ≡ false
      by false e = refl
      by true e = absurd (false≢true (sym other ∙ ap (owns_path entry) ((bytes_decides key.path path).0 e) ∙ own))

  leaf_elsewhere : (entry : FieldEntry) → owns_path entry key.path ≡ false → (p : PlacedLeaf)
      → values_at key (entry_leaf analyzer entry p) ≡ []
  leaf_elsewhere entry other p = by (is_json entry.kind) refl
    where
      within : is_json entry.kind ≡ true → (b : Bool)
          → values_at key (cond b (values_under (json_column_path entry p.keys) (json_values analyzer entry p)) []) ≡ []
      within json true = not_under key (json_column_path entry p.keys)
          (apart entry (json_column_path entry p.keys) (owns_keys entry p.keys json) other)
          (json_values analyzer entry p)
      within json false = refl

      by : (b : Bool) → is_json entry.kind ≡ b
          → values_at key (cond b (json_leaf_values analyzer entry p) (under_name entry
          (cut_values analyzer entry p))) ≡ []
      by true json = within json (nat_le p.level 20)
      by false json = not_under key entry.name (apart entry entry.name (owns_itself entry) other)
          (cut_values analyzer entry p)

  leaves_elsewhere : (entry : FieldEntry) → owns_path entry key.path ≡ false → (ps : List PlacedLeaf)
      → values_at key (flat_map (entry_leaf analyzer entry) ps) ≡ []
  leaves_elsewhere entry other ps =
      at-flat key (entry_leaf analyzer entry) ps
      ∙ flat_map-none (λ p. values_at key (entry_leaf analyzer entry p)) (leaf_elsewhere entry other) ps

  pair_elsewhere : (entry : FieldEntry) → owns_path entry key.path ≡ false → (t : Tree)
      → values_at key (pair_values analyzer t (Some entry)) ≡ []
  pair_elsewhere entry other t = by entry.fast
    where
      by : (b : Bool) → values_at key (cond b (entry_values analyzer entry t) []) ≡ []
      by true = leaves_elsewhere entry other (leaves t)
      by false = refl

  field_elsewhere : (entry : FieldEntry) → owns_path entry key.path ≡ false → (values : List Tree)
      → values_at key (raw_field analyzer (Some entry) values) ≡ []
  field_elsewhere entry other values = by entry.fast
    where
      by : (b : Bool) → values_at key (cond b (raw analyzer entry values) []) ≡ []
      by true = leaves_elsewhere entry other (leaves_of values)
      by false = refl

-- ---- a field as the model has it

-- values of fields that aren't JSON stand under the name
raw_plain : (analyzer : Analyzer) (entry : FieldEntry) (values : List Tree) → is_json entry.kind ≡ false
    → raw analyzer entry values ≡ under_name entry (declared_values analyzer entry values)
raw_plain analyzer entry values plain =
    (λ j. flat_map (λ p. cond (plain j) (json_leaf_values analyzer entry p) (under_name entry
    (cut_values analyzer entry p)))
    (leaves_of values))
    ∙ sym (map-flat (λ (v : ColumnValue). record { path = entry.name; value = v }) (cut_values analyzer entry)
    (leaves_of values))

raw_json : (analyzer : Analyzer) (entry : FieldEntry) (values : List Tree) → is_json entry.kind ≡ true
    → raw analyzer entry values ≡ flat_map (json_leaf_values analyzer entry) (leaves_of values)
raw_json analyzer entry values json =
    λ j. flat_map (λ p. cond (json j) (json_leaf_values analyzer entry p) (under_name entry
    (cut_values analyzer entry p)))
    (leaves_of values)

module _ (analyzer : Analyzer) (key : ColumnKey) (entry : FieldEntry) (values : List Tree)
    (texts : entry.kind ≡ kinds.Facet → entry.fast ≡ true → AreTexts (declared_values analyzer entry values)) where
  unsorted : is_facet entry.kind ≡ false → (o : Option ColumnType) → sorts_at (column_with entry o) key ≡ false
  unsorted none None = refl
  unsorted none (Some t) = by (is_named key.path (kind_of key.type) (record {
    path = entry.name;
    recording = record { kind = kind_of t; declared = Some t; sorts = is_facet entry.kind; values = [] };
  }))
    where
      by : (b : Bool) → cond b (is_facet entry.kind) false ≡ false
      by true = none
      by false = refl

  plain : (t : ColumnType) → is_json entry.kind ≡ false → is_facet entry.kind ≡ false
      → values_at key (under_name entry (declared_values analyzer entry values))
      ≡ arranged (sorts_at (column_with entry (Some t)) key) (values_at key (raw analyzer entry values))
  plain t json none =
      sym (λ j. arranged (unsorted none (Some t) j) (values_at key (raw_plain analyzer entry values json j)))

  in_facets : entry.fast ≡ true → entry.kind ≡ kinds.Facet
      → values_at key (under_name entry (sorted (declared_values analyzer entry values)))
      ≡ arranged (sorts_at (column_with entry (Some types.Str)) key) (values_at key (raw analyzer entry values))
  in_facets fast is =
      facets_at key entry.name (declared_values analyzer entry values) (texts is fast)
      ∙ sym (λ j. arranged (cond (is_at key entry.name Str) (is_facet (is j)) false)
      (values_at key (raw_plain analyzer entry values (ap is_json is) j)))

  by_kind : entry.fast ≡ true → (k : FieldKind) → entry.kind ≡ k
      → values_at key (kind_fast_values k analyzer entry values)
      ≡ arranged (sorts_at (column_with entry (declared_type k)) key) (values_at key (raw analyzer entry values))
  by_kind fast kinds.Text is = plain types.Str (ap is_json is) (ap is_facet is)
  by_kind fast kinds.U64 is = plain types.U64 (ap is_json is) (ap is_facet is)
  by_kind fast kinds.I64 is = plain types.I64 (ap is_json is) (ap is_facet is)
  by_kind fast kinds.Bool is = plain types.Bool (ap is_json is) (ap is_facet is)
  by_kind fast kinds.Date is = plain types.DateTime (ap is_json is) (ap is_facet is)
  by_kind fast kinds.Facet is = in_facets fast is
  by_kind fast kinds.Bytes is = plain types.Bytes (ap is_json is) (ap is_facet is)
  by_kind fast kinds.IpAddr is = plain types.IpAddr (ap is_json is) (ap is_facet is)
  by_kind fast kinds.Json is = ap (values_at key) (sym (raw_json analyzer entry values (ap is_json is)))

  field_same : values_at key (cond entry.fast (kind_fast_values entry.kind analyzer entry values) [])
      ≡ arranged (sorts_at (column_of entry) key) (values_at key (raw_field analyzer (Some entry) values))
  field_same = by entry.fast refl
    where
      by : (b : Bool) → entry.fast ≡ b → values_at key (cond b (kind_fast_values entry.kind analyzer entry values) [])
          ≡ arranged (sorts_at (cond b (column_with entry (declared_type entry.kind)) []) key)
          (values_at key (cond b (raw analyzer entry values) []))
      by true fast = by_kind fast entry.kind refl
      by false fast = refl

arranged_nothing : (b : Bool) → arranged b [] ≡ []
arranged_nothing true = refl
arranged_nothing false = refl

-- ---- all fields

-- texts come in facet fields
abbrev pub HaveTexts : Analyzer → Schema → Document → Type 0
HaveTexts analyzer schema document = (n : ℕ) (e : FieldEntry) → slice_get schema n ≡ Some e → e.kind ≡ kinds.Facet
    → e.fast ≡ true → AreTexts (declared_values analyzer e (values_of n document))

module _ (analyzer : Analyzer) (key : ColumnKey) (schema : Schema) (document : Document)
    (texts : HaveTexts analyzer schema document) (place : ℕ) (owner : IsOwner schema key.path place) where
  -- fields from one on
  abbrev IsBehind : ℕ → Schema → Type 0
  IsBehind n es = (k : ℕ) (e : FieldEntry) → slice_get es k ≡ Some e → slice_get schema (n + k) ≡ Some e

  next : (n : ℕ) (e : FieldEntry) (es : Schema) → IsBehind n (e ∷ es) → IsBehind (n + 1) es
  next n e es after k x is =
      let s : n + suc k ≡ n + 1 + k = omega arith in subst (λ (m : ℕ). slice_get schema m ≡ Some x) s (after
      (suc k) x is)

  first : (n : ℕ) (e : FieldEntry) (es : Schema) → IsBehind n (e ∷ es) → slice_get schema n ≡ Some e
  first n e es after =
      let s : n + 0 ≡ n = omega arith in subst (λ (m : ℕ). slice_get schema m ≡ Some e) s (after 0 e refl)

  abbrev field_at : ℕ → FieldEntry → List ColumnValue
  field_at n e = values_at key (field_fast_values analyzer document (n, e))

  same_at : (n : ℕ) (e : FieldEntry) → slice_get schema n ≡ Some e → field_at n e
      ≡ arranged (sorts_at (column_of e) key) (values_at key (raw_field analyzer (Some e) (values_of n document)))
  same_at n e is = field_same analyzer key e (values_of n document) (texts n e is)

  none_at : (n : ℕ) (e : FieldEntry) → slice_get schema n ≡ Some e → (n ≡ place → ⊥) → field_at n e ≡ []
  none_at n e is other =
      same_at n e is
      ∙ ap (arranged (sorts_at (column_of e) key))
      (field_elsewhere analyzer key e (owner.others n e is other) (values_of n document))
      ∙ arranged_nothing (sorts_at (column_of e) key)

  past : (n : ℕ) (es : Schema) → IsBehind n es → place < n
      → values_at key (flat_map (field_fast_values analyzer document) (enumerate_from n es)) ≡ []
  past n [] after lt = refl
  past n (e ∷ es) after lt =
      at-append key (field_fast_values analyzer document (n, e))
      (flat_map (field_fast_values analyzer document) (enumerate_from (n + 1) es))
      ∙ (λ j. none_at n e (first n e es after) (λ same. omega (arith, same, lt)) j
      ++ past (n + 1) es (next n e es after) (omega (arith, lt)) j)

  abbrev own_field : Option FieldEntry → List ColumnValue
  own_field None = []
  own_field (Some e) = field_at place e

  until : (m n : ℕ) (es : Schema) → IsBehind n es → n + m ≡ place
      → values_at key (flat_map (field_fast_values analyzer document) (enumerate_from n es)) ≡ own_field
      (slice_get es m)
  until m n [] after is = refl
  until zero n (e ∷ es) after is =
      let same : n ≡ place = omega (arith, is) in
      at-append key (field_fast_values analyzer document (n, e))
      (flat_map (field_fast_values analyzer document) (enumerate_from (n + 1) es))
      ∙ (λ j. field_at (same j) e ++ past (n + 1) es (next n e es after) (omega (arith, is)) j)
      ∙ append-nil (field_at place e)
  until (suc m) n (e ∷ es) after is =
      at-append key (field_fast_values analyzer document (n, e))
      (flat_map (field_fast_values analyzer document) (enumerate_from (n + 1) es))
      ∙ (λ j. none_at n e (first n e es after) (λ same. omega (arith, same, is)) j
      ++ until m (n + 1) es (next n e es after) (omega (arith, is)) j)

  -- ---- pair by pair

  pair_none : (p : ℕ × Tree) → (p.0 ≡ place → ⊥) → values_at key (pair_values analyzer p.1 (slice_get schema p.0)) ≡ []
  pair_none p other = by (slice_get schema p.0) refl
    where
      by : (o : Option FieldEntry) → slice_get schema p.0 ≡ o → values_at key (pair_values analyzer p.1 o) ≡ []
      by None is = refl
      by (Some e) is = pair_elsewhere analyzer key e (owner.others p.0 e is other) p.1

  pairs_at : (ps : Document) → values_at key (recorded_values schema analyzer ps)
      ≡ values_at key (raw_field analyzer (slice_get schema place) (values_of place ps))
  pairs_at [] = sym (by (slice_get schema place))
    where
      by : (o : Option FieldEntry) → values_at key (raw_field analyzer o []) ≡ []
      by None = refl
      by (Some e) = fast e.fast
        where
          fast : (b : Bool) → values_at key (cond b (raw analyzer e []) []) ≡ []
          fast true = refl
          fast false = refl
  pairs_at (p ∷ ps) =
      at-append key (pair_values analyzer p.1 (slice_get schema p.0)) (recorded_values schema analyzer ps)
      ∙ by (nat_eq place p.0) refl (pairs_at ps)
    where
      by : (b : Bool) → nat_eq place p.0 ≡ b
          → values_at key (recorded_values schema analyzer ps)
          ≡ values_at key (raw_field analyzer (slice_get schema place) (values_of place ps))
          → values_at key (pair_values analyzer p.1 (slice_get schema p.0)) ++ values_at key
          (recorded_values schema analyzer ps)
          ≡ values_at key (raw_field analyzer (slice_get schema place)
          (map (λ (q : ℕ × Tree). q.1) (cond b (p ∷ filter (λ (q : ℕ × Tree). nat_eq place q.0) ps)
          (filter (λ (q : ℕ × Tree). nat_eq place q.0) ps))))
      by true is rest =
          let here : p.0 ≡ place = sym ((Decides-eqb place p.0).0 is) in
          (λ j. values_at key (pair_values analyzer p.1 (slice_get schema (here j))) ++ rest j)
          ∙ sym (at-append key (pair_values analyzer p.1 (slice_get schema place))
          (raw_field analyzer (slice_get schema place) (values_of place ps)))
          ∙ ap (values_at key) (sym (raw_more analyzer (slice_get schema place) p.1 (values_of place ps)))
      by false is rest =
          (λ j. pair_none p (λ same. false≢true (sym is ∙ (Decides-eqb place p.0).1 (sym same))) j ++ rest j)

  -- ---- which columns put their rows in order

  sorts_elsewhere : (e : FieldEntry) → owns_path e key.path ≡ false → (cs : List ColumnRecord)
      → sorts_at (column_of e ++ cs) key ≡ sorts_at cs key
  sorts_elsewhere e other cs = by e.fast (declared_type e.kind)
    where
      by : (b : Bool) (o : Option ColumnType) → sorts_at (cond b (column_with e o) [] ++ cs) key ≡ sorts_at cs key
      by false o = refl
      by true None = refl
      by true (Some t) =
          ap (λ (x : Bool). cond (nat_eq (kind_place (kind_of key.type)) (kind_place (kind_of t)) && x)
          (is_facet e.kind) (sorts_at cs key))
          (apart analyzer key e e.name (owns_itself e) other)
          ∙ ap (λ (x : Bool). cond x (is_facet e.kind) (sorts_at cs key))
          (and-false (nat_eq (kind_place (kind_of key.type)) (kind_place (kind_of t))))

  sorts_past : (n : ℕ) (es : Schema) → IsBehind n es → place < n → sorts_at (first_columns es) key ≡ false
  sorts_past n [] after lt = refl
  sorts_past n (e ∷ es) after lt =
      sorts_elsewhere e (owner.others n e (first n e es after) (λ same. omega (arith, same, lt))) (first_columns es)
      ∙ sorts_past (n + 1) es (next n e es after) (omega (arith, lt))

  abbrev own_sorts : Option FieldEntry → Bool
  own_sorts None = false
  own_sorts (Some e) = sorts_at (column_of e) key

  sorts_until : (m n : ℕ) (es : Schema) → IsBehind n es → n + m ≡ place
      → sorts_at (first_columns es) key ≡ own_sorts (slice_get es m)
  sorts_until m n [] after is = refl
  sorts_until zero n (e ∷ es) after is = by e.fast (declared_type e.kind)
    where
      rest : sorts_at (first_columns es) key ≡ false
      rest = sorts_past (n + 1) es (next n e es after) (omega (arith, is))

      by : (b : Bool) (o : Option ColumnType) → sorts_at (cond b (column_with e o) [] ++ first_columns es) key
          ≡ sorts_at (cond b (column_with e o) []) key
      by false o = rest
      by true None = rest
      by true (Some t) = ap (λ (x : Bool). cond (is_at key e.name (kind_of t)) (is_facet e.kind) x) rest
  sorts_until (suc m) n (e ∷ es) after is =
      sorts_elsewhere e (owner.others n e (first n e es after) (λ same. omega (arith, same, is))) (first_columns es)
      ∙ sorts_until m (n + 1) es (next n e es after) (omega (arith, is))

  whole : IsBehind 0 schema
  whole k e is = let s : k ≡ 0 + k = omega arith in subst (λ (m : ℕ). slice_get schema m ≡ Some e) s is

  pub document_at : values_at key (fast_values schema analyzer document)
      ≡ arranged (sorts_at (first_columns schema) key) (values_at key (recorded_values schema analyzer document))
  document_at =
      until place 0 schema whole (omega arith)
      ∙ by (slice_get schema place) refl
      ∙ sym (λ j. arranged (sorts_until place 0 schema whole (omega arith) j) (pairs_at document j))
    where
      by : (o : Option FieldEntry) → slice_get schema place ≡ o
          → own_field o ≡ arranged (own_sorts o) (values_at key (raw_field analyzer o (values_of place document)))
      by None is = refl
      by (Some e) is = same_at place e is

-- what a document records has at each key what the model says
pub document_arranged : (analyzer : Analyzer) (schema : Schema) (document : Document) → AreApart schema
    → HaveTexts analyzer schema document → (key : ColumnKey)
    → values_at key (fast_values schema analyzer document)
    ≡ arranged (sorts_at (first_columns schema) key) (values_at key (recorded_values schema analyzer document))
document_arranged analyzer schema document are_apart texts key =
    let o = owner_of schema key.path are_apart in
    document_at analyzer key schema document texts o.place o.is_owner
