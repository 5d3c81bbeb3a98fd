-- The ids of columns, and those of fields.
use Rattle.std.proofs.Common.{◌≡◌, ℕ, zero, suc, ◌+◌, ◌<◌, true, false, List, [], ◌∷◌, ◌++◌, length, get_or, take, Option, None, Some, refl, sym, ap, subst, ◌∙◌, arith}
use Rattle.std.specs.Prelude.{◌||◌}
use Rattle.std.specs.List.{join_with_byte, slice_get}
use Rattle.std.proofs.lemmas.List.{take_more}
use Rattle.std.proofs.lemmas.Option.{same_Some, slice_get-get_or}
use Rattle.seg_common.specs.declared.column_type.ColumnType.{ColumnType}
use Rattle.seg_common.specs.declared.column_type.ColumnType.TheVariants as types
use Rattle.seg_values.specs.declared.schema.FieldEntry.{FieldEntry}
use Rattle.seg_values.specs.declared.schema.FieldKind.{FieldKind}
use Rattle.seg_values.specs.declared.schema.FieldKind.TheVariants as kinds
use Rattle.seg_values.specs.SchemaRules.{is_schema}
use Rattle.seg_values.specs.Tree.{Leaf, null, text, pre_tokenized, unsigned, signed, boolean, date, facet, byte_string, ip, Tree, leaf}
use Rattle.seg_model.specs.Columns.{declared_type, json_column_path}
use Rattle.seg_common.specs.JsonPaths.{JsonPath}
use Rattle.seg_model.specs.Fields.{Schema, is_json}
use Rattle.seg_model.specs.AcceptedTrees.{is_null, is_of_kind, is_own_array}
use Rattle.seg_model.specs.ValidInputs.{Known, names_fit}
use Rattle.seg_column_writer.specs.ValueKinds.{kind_of}
use Rattle.seg_column_writer.specs.ColumnRecords.{ColumnRecord, place_of, with_column}
use Rattle.seg_column_writer.specs.RowOrderedColumns.{AreThere}
use Rattle.seg_column_writer.specs.declared.value_kind.ValueKind.{ValueKind}
use Rattle.seg_column_writer.specs.declared.writer.ColumnId.{ColumnId}
use Rattle.seg_column_writer.proofs.Exports.{there_already}
use Rattle.seg_fastfield.specs.FieldColumns.{AreFieldColumns, IsColumnOf, IsFieldColumn, IsLeafColumn, IsThere}
use Rattle.seg_fastfield.specs.DeclaredColumns.{first_columns}
use Rattle.seg_fastfield.specs.RecordedLeaves.{CanRecord, IsFieldOf}
use Rattle.seg_fastfield.specs.FastLeaves.{IsTaken}
use Rattle.seg_fastfield.proofs.FieldColumns.{apart_from, field_of}
use Rattle.seg_fastfield.proofs.DocumentSteps.{entry_at}
use Rattle.seg_fastfield.proofs.LeafRecords.{own_type, path_is}

-- ---- a column stays where it is

pub column_still : (column : Option ColumnId) (path : List ℕ) (kind : ValueKind) (old new : List ColumnRecord)
    → AreThere old new → IsColumnOf column path kind old → IsColumnOf column path kind new
column_still None path kind old new there is = tt
column_still (Some id) path kind old new there is =
    let now = there path kind is.0 in (now.0, is.1 ∙ sym now.1)

-- ---- the column of a leaf

module _ (schema : Schema) (entry : FieldEntry) (field : IsFieldOf schema entry) (id : ColumnId)
    (own : IsFieldColumn (first_columns schema) entry (Some id)) (cs : List ColumnRecord) (there : AreThere
    (first_columns schema) cs) where
  in_column : (t : ColumnType) → declared_type entry.kind ≡ Some t → IsColumnOf (Some id) entry.name (kind_of t) cs
  in_column t typed =
      column_still (Some id) entry.name (kind_of t) (first_columns schema) cs there
      ((field.plain t typed).0, own.1 t typed)

  own_leaf_column : (l : Leaf) → (is_null l || is_of_kind entry.kind l) ≡ true → IsLeafColumn (Some id) entry.name l cs
  own_leaf_column null e = tt
  own_leaf_column (text s) e = in_column types.Str (own_type entry.kind (text s) e)
  own_leaf_column (pre_tokenized p) e = in_column types.Str (own_type entry.kind (pre_tokenized p) e)
  own_leaf_column (unsigned n) e = in_column types.U64 (own_type entry.kind (unsigned n) e)
  own_leaf_column (signed z) e = in_column types.I64 (own_type entry.kind (signed z) e)
  own_leaf_column (boolean b) e = in_column types.Bool (own_type entry.kind (boolean b) e)
  own_leaf_column (date z) e = in_column types.DateTime (own_type entry.kind (date z) e)
  own_leaf_column (facet s) e = in_column types.Str (own_type entry.kind (facet s) e)
  own_leaf_column (byte_string b) e = in_column types.Bytes (own_type entry.kind (byte_string b) e)
  own_leaf_column (ip a) e = in_column types.IpAddr (own_type entry.kind (ip a) e)

no_column : (path : List ℕ) (l : Leaf) (cs : List ColumnRecord) → IsLeafColumn None path l cs
no_column path null cs = tt
no_column path (text s) cs = tt
no_column path (pre_tokenized p) cs = tt
no_column path (unsigned n) cs = tt
no_column path (signed z) cs = tt
no_column path (boolean b) cs = tt
no_column path (date z) cs = tt
no_column path (facet s) cs = tt
no_column path (byte_string b) cs = tt
no_column path (ip a) cs = tt

pub leaf_column : (known : Known) (schema : Schema) (row : ℕ) (entry : FieldEntry) (path : JsonPath) (level : ℕ)
    (t : Tree)
    (l : Leaf) (written : List ℕ) (cs : List ColumnRecord) (column : Option ColumnId)
    → CanRecord known schema row entry path level t cs → IsFieldColumn (first_columns schema) entry column → t ≡ leaf l
    → written ≡ join_with_byte 1 path.keys → IsLeafColumn column written l cs
leaf_column known schema row entry path level t l written cs None can own is told = no_column written l cs
leaf_column known schema row entry path level t l written cs (Some id) can own is told =
    subst (λ (p : List ℕ). IsLeafColumn (Some id) p l cs) (sym name)
    (own_leaf_column schema entry can.field id own cs can.under_way.there l
    (sym (λ j. own.0 j || is_own_array entry.kind (is j)) ∙ can.takes))
  where
    name : written ≡ entry.name
    name = told ∙ ap (λ (p : JsonPath). join_with_byte 1 p.keys) can.place.path_is ∙ path_is entry can.keys
        ∙ ap (json_column_path entry) (can.place.plain own.0)

-- ---- the ids of fields

pub field_column_at : (columns : List ColumnRecord) (xs : Schema) (ids : List (Option ColumnId))
    → AreFieldColumns columns xs ids → (i : ℕ)
    (e : FieldEntry) (d : Option ColumnId) → slice_get xs i ≡ Some e
    → (i < length ids) × IsFieldColumn columns e (get_or ids i d)
field_column_at columns [] [] all i e d is = absurd cc
field_column_at columns [] (id ∷ ids) all i e d is = absurd all
field_column_at columns (x ∷ xs) [] all i e d is = absurd all
field_column_at columns (x ∷ xs) (id ∷ ids) all zero e d is =
    (omega arith, subst (λ (y : FieldEntry). IsFieldColumn columns y id) (same_Some x e is) all.0)
field_column_at columns (x ∷ xs) (id ∷ ids) all (suc i) e d is =
    let rest = field_column_at columns xs ids all.1 i e d is in (omega (arith, rest.0), rest.1)

pub field_columns_more : (columns : List ColumnRecord) (xs : Schema) (ids : List (Option ColumnId)) (e : FieldEntry)
    (id : Option ColumnId)
    → AreFieldColumns columns xs ids → IsFieldColumn columns e id
    → AreFieldColumns columns (xs ++ e ∷ []) (ids ++ id ∷ [])
field_columns_more columns [] [] e id all one = (one, tt)
field_columns_more columns [] (i ∷ ids) e id all one = absurd all
field_columns_more columns (x ∷ xs) [] e id all one = absurd all
field_columns_more columns (x ∷ xs) (i ∷ ids) e id all one = (all.0, field_columns_more columns xs ids e id all.1 one)

-- ---- finding the ids

typed_plain : (k : FieldKind) (t : ColumnType) → declared_type k ≡ Some t → is_json k ≡ false
typed_plain kinds.Text t e = refl
typed_plain kinds.U64 t e = refl
typed_plain kinds.I64 t e = refl
typed_plain kinds.Bool t e = refl
typed_plain kinds.Date t e = refl
typed_plain kinds.Facet t e = refl
typed_plain kinds.Bytes t e = refl
typed_plain kinds.IpAddr t e = refl
typed_plain kinds.Json t e = absurd cc

pub found_column : (entry : FieldEntry) (name : List ℕ) (t : ColumnType) (kind : ValueKind)
    (old new : List ColumnRecord)
    (id : ColumnId) → IsThere old entry → entry.fast ≡ true → declared_type entry.kind ≡ Some t → name ≡ entry.name
    → kind ≡ kind_of t → new ≡ with_column old name kind → id.place ≡ place_of old name kind
    → (new ≡ old) × IsFieldColumn old entry (Some id)
found_column entry name t kind old new id there fast typed named of made placed = (
  made ∙ (λ j. with_column old (named j) (of j)) ∙ there_already entry.name (kind_of t) old (there t fast typed),
  (
    typed_plain entry.kind t typed,
    λ u also. placed ∙ (λ j. place_of old (named j) (of j))
        ∙ ap (λ (k : ColumnType). place_of old entry.name (kind_of k)) (same_Some t u (sym typed ∙ also)),
  ),
)

pub all_there : (schema : Schema) → is_schema schema ≡ true → names_fit schema ≡ true → (i : ℕ) (e : FieldEntry)
    → i < length schema → e ≡ get_or schema i e → IsThere (first_columns schema) e
all_there schema valid fit i e lt is t fast typed =
    ((field_of schema (apart_from schema valid fit) i e
    (slice_get-get_or schema i e lt ∙ ap Some (sym is)) fast).plain t typed).0

module _ (schema : Schema) (columns : List ColumnRecord) (i : ℕ) (e : FieldEntry) (lt : i < length schema)
    (is : e ≡ get_or schema i e) where
  pub ids_turn : (ids new : List (Option ColumnId)) (id : Option ColumnId) → AreFieldColumns columns (take i schema) ids
      → IsFieldColumn columns e id → new ≡ ids ++ id ∷ [] → AreFieldColumns columns (take (i + 1) schema) new
  ids_turn ids new id all one made =
      let more : take (i + 1) schema ≡ take i schema ++ e ∷ [] =
      take_more schema i e lt ∙ ap (λ (x : FieldEntry). take i schema ++ x ∷ []) (sym is) in
      subst (λ (X : Type 0). X) (sym (λ j. AreFieldColumns columns (more j) (made j)))
      (field_columns_more columns (take i schema) ids e id all one)

pub field_column_in : (schema : Schema) (ids : List (Option ColumnId)) (p : ℕ × Tree) (n : ℕ) (e : FieldEntry)
    (d : Option ColumnId) → AreFieldColumns (first_columns schema) schema ids → IsTaken schema p → n ≡ p.0
    → (n < length ids) × IsFieldColumn (first_columns schema) (get_or schema n e) (get_or ids n d)
field_column_in schema ids p n e d all taken same =
    let at = entry_at schema p n e taken same in
    let told = field_column_at (first_columns schema) schema ids all p.0 (get_or schema n e) d at in
    subst (λ (m : ℕ). (m < length ids) × IsFieldColumn (first_columns schema) (get_or schema n e) (get_or ids m d))
    (sym same) told

pub shared_columns : (schema shared second third : Schema) (cs : List ColumnRecord) (ids : List (Option ColumnId))
    → shared ≡ schema → second ≡ schema → third ≡ schema → cs ≡ first_columns second → AreFieldColumns cs third ids
    → AreFieldColumns (first_columns shared) shared ids
shared_columns schema shared second third cs ids is_shared is_second is_third made all =
    subst (λ (s : Schema). AreFieldColumns (first_columns s) s ids) (sym is_shared)
    (subst (λ (X : Type 0). X)
    (λ j. AreFieldColumns ((made ∙ ap first_columns is_second) j) (is_third j) ids) all)
