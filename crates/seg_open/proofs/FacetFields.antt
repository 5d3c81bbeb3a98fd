-- Each segment has the column of each facet field.
use Rattle.std.proofs.Common.{◌≡◌, ℕ, ◌||◌, Bool, true, false, cond, List, [], ◌∷◌, map, Option, Some, None, inl, inr, refl, sym, ap, subst, ◌∙◌}
use Rattle.std.specs.Prelude.{◌&&◌, is_some}
use Rattle.std.specs.List.{list_all, slice_get}
use Rattle.std.specs.Ordering.{eq_by_cmp}
use Rattle.std.specs.Option.{option_map, option_or}
use Rattle.std.specs.Str.{bytes_eq}
use Rattle.std.proofs.lemmas.Bool.{false≢true}
use Rattle.std.proofs.lemmas.List.Quantifiers.{position-Some}
use Rattle.std.proofs.lemmas.List.Sums.{AllPass-from_list_all}
use Rattle.std.proofs.lemmas.Map.Keys.{any_passes_from_place}
use Rattle.std.proofs.lemmas.Option.{get_or_from_slice_get, none-some, same_Some, slice_get_within}
use Rattle.std.proofs.lemmas.Slice.Eq.{bytes_eq-Decides}
use Rattle.std.specs.Cmp.{first_so, second_so}
use Rattle.seg_model.specs.DocumentCheck.{first_of}
use Rattle.seg_common.specs.TabulatedMaps.{is_among}
use Rattle.seg_common.specs.declared.column_type.ColumnType.TheVariants.{Str}
use Rattle.seg_values.specs.NameSearch.{Finds, longest_part, no_part, whole_name}
use Rattle.seg_values.specs.FieldNames.{field_named, is_allowed}
use Rattle.seg_values.specs.SchemaRules.{is_entry, is_kept_as, is_basic, is_schema}
use Rattle.seg_values.specs.declared.error.TantivyError.{TantivyError}
use Rattle.seg_values.specs.declared.error.TantivyError.TheVariants.{OutOfMemory}
use Rattle.seg_values.specs.declared.schema.FieldEntry.{FieldEntry}
use Rattle.seg_values.specs.declared.schema.FieldKind.{FieldKind}
use Rattle.seg_values.specs.declared.schema.FieldKind.TheVariants.{Facet}
use Rattle.seg_columns.specs.DynamicColumns.{StoredColumn, type_of}
use Rattle.seg_columns.specs.TermColumns.{TermColumn}
use Rattle.seg_columns.specs.declared.dynamic_column.DynamicColumn.{DynamicColumn}
use Rattle.seg_columns.specs.declared.dynamic_column.DynamicColumn.TheVariants as columns
use Rattle.seg_column_file.specs.ColumnFiles.{ColumnFile, NamedColumn, is_selected, stored_where}
use Rattle.seg_column_format.specs.ModelColumns.{column_key}
use Rattle.seg_fastfield.specs.Answers.{GoesBy, IsRefused}
use Rattle.seg_fastfield.specs.ColumnNames.{FindsNotFast, IsNotFast, StandsFor, found_path, is_fast, path_in}
use Rattle.seg_fastfield.specs.OpenFastFields.{FastFields, columns_at, str_column}
use Rattle.seg_model.specs.Columns.{ColumnKey, column_cmp, declared_columns, declared_type, is_declared}
use Rattle.seg_model.specs.Fields.{Schema, is_facet}
use Rattle.seg_model.specs.Shape.{HasFullShape}
use Rattle.seg_column_format.proofs.Exports.{declared_is, is_there, same_column}
use Rattle.seg_column_format.specs.SchemaColumns.{declares, is_type}
use Rattle.seg_open.specs.FacetColumns.{has_facets, has_facets_at, text_column}
use Rattle.seg_open.specs.OpenSegment.{OpenSegment, contents_of}

-- ---- the field of a name

facet_kind : (kind : FieldKind) → is_facet kind ≡ true → kind ≡ Facet
facet_kind Facet h = refl
facet_kind kind h = absurd (false≢true h)

module _ (schema : Schema) (name : List ℕ) where
  -- a name is that of a facet field, which is fast
  record NamesFacet : Type 0 where
    field : ℕ
    named : field_named schema name ≡ Some field
    entry : FieldEntry
    at : slice_get schema field ≡ Some entry
    kind_is : entry.kind ≡ Facet
    fast : entry.fast ≡ true
    name_is : entry.name ≡ name

  module _ (valid : is_schema schema ≡ true) where
    is_kept : (field : ℕ) (entry : FieldEntry) → slice_get schema field ≡ Some entry → is_kept_as entry.kind entry ≡ true
    is_kept field entry at =
        second_so (is_allowed entry.kind entry.index) (is_kept_as entry.kind entry)
        (ap is_entry (sym (get_or_from_slice_get schema field entry entry at))
        ∙ AllPass-from_list_all is_entry schema (first_so (list_all is_entry schema) _ valid) field entry (slice_get_within schema field entry at))

    of_field : (field : ℕ) → field_named schema name ≡ Some field → (entry : FieldEntry) → slice_get schema field ≡ Some entry
        → is_facet entry.kind ≡ true → NamesFacet
    of_field field named entry at facet =
        let kind_is = facet_kind entry.kind facet in
        let kept : is_kept_as Facet entry ≡ true = subst (λ (k : FieldKind). is_kept_as k entry ≡ true) kind_is (is_kept field entry at) in
        let passes = position-Some (λ (e : FieldEntry). bytes_eq e.name name) schema field entry named in
        record {
          field = field;
          named = named;
          entry = entry;
          at = at;
          kind_is = kind_is;
          fast = first_so entry.fast _ (second_so (is_basic entry.index) _ kept);
          name_is = (bytes_eq-Decides entry.name name).0
              (ap (λ (e : FieldEntry). bytes_eq e.name name) (sym (get_or_from_slice_get schema field entry entry at)) ∙ passes.1);
        }

    names_facet : has_facets schema name ≡ Some true → NamesFacet
    names_facet h = by_name (field_named schema name) refl h
      where
        by_entry : (field : ℕ) → field_named schema name ≡ Some field → (o : Option FieldEntry) → slice_get schema field ≡ o
            → option_map (λ (e : FieldEntry). is_facet e.kind) o ≡ Some true → NamesFacet
        by_entry field named None at h = absurd (none-some true h)
        by_entry field named (Some entry) at h = of_field field named entry at (same_Some (is_facet entry.kind) true h)

        by_name : (o : Option ℕ) → field_named schema name ≡ o → has_facets_at schema o ≡ Some true → NamesFacet
        by_name None named h = absurd (none-some true h)
        by_name (Some field) named h = by_entry field named (slice_get schema field) refl h

  -- ---- what a search for it finds

  module _ (one : NamesFacet) where
    found_is : (o : Option (ℕ × List ℕ)) → Finds schema name None o → o ≡ Some (one.field, [])
    found_is o (whole_name f named) = ap (λ (n : ℕ). Some (n, [])) (same_Some f one.field (sym named ∙ one.named))
    found_is o (longest_part at f none is part none_after) = absurd (none-some one.field (sym none ∙ one.named))
    found_is o (no_part none none_at) = absurd (none-some one.field (sym none ∙ one.named))

    path_is : (path : Option (List ℕ)) → StandsFor schema name None path → path ≡ Some name
    path_is path h =
        h.path_is ∙ ap (found_path schema) (found_is h.found h.finds)
        ∙ ap (λ (e : Option FieldEntry). path_in e []) one.at ∙ ap Some one.name_is

    never_slow : FindsNotFast schema name None → ⊥
    never_slow h =
        let slow : IsNotFast schema (Some (one.field, [])) = subst (IsNotFast schema) (found_is h.found h.finds) h.slow in
        false≢true (sym slow ∙ ap is_fast one.at ∙ one.fast)

    -- ---- its column

    abbrev key : ColumnKey
    key = record { path = name; type = Str }

    declares_it : declares name Str one.entry ≡ true
    declares_it =
        λ i. (ap (λ (n : List ℕ). bytes_eq n name) one.name_is ∙ (bytes_eq-Decides name name).1 refl) i
        && (one.fast i && is_type Str (declared_type (one.kind_is i)))

    is_declared_there : is_declared (declared_columns schema) key ≡ true
    is_declared_there =
        declared_is schema key ∙ any_passes_from_place (declares name Str) schema one.field one.entry one.at declares_it

-- ---- a column among those of a file

is_text : (column : DynamicColumn) → Str ≡ type_of column → is_some (str_column column) ≡ true
is_text (columns.Str terms) same = refl
is_text (columns.I64 rows) same = absurd (cc same)
is_text (columns.U64 rows) same = absurd (cc same)
is_text (columns.Bytes terms) same = absurd (cc same)
is_text (columns.Bool rows) same = absurd (cc same)
is_text (columns.IpAddr rows) same = absurd (cc same)
is_text (columns.DateTime rows) same = absurd (cc same)

first_there : (o p : Option TermColumn) → is_some o ≡ true → is_some (option_or o p) ≡ true
first_there None p h = absurd (false≢true h)
first_there (Some t) p h = refl

later_there : (o p : Option TermColumn) → is_some p ≡ true → is_some (option_or o p) ≡ true
later_there None p h = h
later_there (Some t) p h = refl

module _ (name : List ℕ) where
  abbrev texts_in : List NamedColumn → Option TermColumn
  texts_in cs = first_of (λ (c : StoredColumn). str_column c.column) (stored_where (is_selected false name) cs)

  abbrev chosen : Bool → NamedColumn → List NamedColumn → Option TermColumn
  chosen b c cs = cond b (option_or (str_column (c.stored).column) (texts_in cs)) (texts_in cs)

  texts_more : (c : NamedColumn) (cs : List NamedColumn) (b : Bool) → bytes_eq c.path name ≡ b
      → texts_in (c ∷ cs) ≡ chosen b c cs
  texts_more c cs b h = by b h
    where
      by : (b : Bool) → bytes_eq c.path name ≡ b → texts_in (c ∷ cs) ≡ chosen b c cs
      by true e = rw e refl
      by false e = rw e refl

  texts_there : (cs : List NamedColumn)
      → is_among column_cmp (map column_key cs) (record { path = name; type = Str }) ≡ true → is_some (texts_in cs) ≡ true
  texts_there [] h = absurd (false≢true h)
  texts_there (c ∷ cs) h = by (eq_by_cmp column_cmp (record { path = name; type = Str }) (column_key c)) refl (texts_there cs) h
    where
      rest : is_some (texts_in cs) ≡ true → (b : Bool) → bytes_eq c.path name ≡ b → is_some (texts_in (c ∷ cs)) ≡ true
      rest there true e = ap is_some (texts_more c cs true e) ∙ later_there (str_column (c.stored).column) (texts_in cs) there
      rest there false e = ap is_some (texts_more c cs false e) ∙ there

      here : (record { path = name; type = Str }) ≡ column_key c → is_some (texts_in (c ∷ cs)) ≡ true
      here same =
          ap is_some (texts_more c cs true ((bytes_eq-Decides c.path name).1 (sym (ap (λ (k : ColumnKey). k.path) same))))
          ∙ first_there (str_column (c.stored).column) (texts_in cs) (is_text (c.stored).column (ap (λ (k : ColumnKey). k.type) same))

      by : (b : Bool) → eq_by_cmp column_cmp (record { path = name; type = Str }) (column_key c) ≡ b
          → (is_among column_cmp (map column_key cs) (record { path = name; type = Str }) ≡ true → is_some (texts_in cs) ≡ true)
          → (b || is_among column_cmp (map column_key cs) (record { path = name; type = Str })) ≡ true
          → is_some (texts_in (c ∷ cs)) ≡ true
      by true e among h = here (same_column (record { path = name; type = Str }) (column_key c) e)
      by false e among h = rest (among h) (bytes_eq c.path name) refl

-- a segment has the column of a facet field
has_column : (s : OpenSegment) (name : List ℕ) → NamesFacet s.schema name → HasFullShape s.schema (contents_of s)
    → is_some (text_column s name) ≡ true
has_column s name one shape =
    texts_there name s.columns.columns
    (sym (is_there s.columns.columns (record { path = name; type = Str }))
    ∙ shape.declared (record { path = name; type = Str }) (is_declared_there s.schema name one))

-- ---- what is answered of its column

module _ (fields : FastFields) (s : OpenSegment) (name : List ℕ) (schema_is : fields.schema ≡ s.schema) (file_is : fields.file ≡ s.columns)
    (valid : is_schema s.schema ≡ true) (facets : has_facets s.schema name ≡ Some true) where
  one : NamesFacet s.schema name
  one = names_facet s.schema name valid facets

  abbrev pub IsAnswer : Option TermColumn → Type 0
  IsAnswer answer =
      GoesBy fields name (λ path x. x ≡ first_of (λ (c : StoredColumn). str_column c.column) (columns_at fields.file path)) answer

  pub is_answered : (answer : Option TermColumn) → IsAnswer answer → answer ≡ text_column s name
  is_answered answer h =
      let path = path_is s.schema name one h.path (subst (λ (t : Schema). StandsFor t name None h.path) schema_is h.stands) in
      h.is
      ∙ ap (λ (p : Option (List ℕ)). first_of (λ (c : StoredColumn). str_column c.column) (columns_at fields.file p)) path
      ∙ ap (λ (f : ColumnFile). first_of (λ (c : StoredColumn). str_column c.column) (columns_at f (Some name))) file_is

  pub never_lacking : HasFullShape s.schema (contents_of s) → (answer : Option TermColumn) → IsAnswer answer → answer ≡ None → ⊥
  never_lacking shape answer h none =
      false≢true (ap is_some (sym none ∙ is_answered answer h) ∙ has_column s name one shape)

  pub only_memory : (e : TantivyError) → IsRefused fields name e → e ≡ OutOfMemory
  only_memory e (inl slow) = absurd (never_slow s.schema name one (subst (λ (t : Schema). FindsNotFast t name None) schema_is slow.1))
  only_memory e (inr memory) = memory
