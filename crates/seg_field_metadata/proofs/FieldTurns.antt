-- What the fields of a schema say, place by place.
use Rattle.std.proofs.Common.{◌≡◌, ℕ, ◌+◌, ◌<◌, ◌≤◌, ◌-◌, true, List, [], ◌∷◌, ◌++◌, map, drop, length, Option, Some, Result, Ok, Err, refl, sym, ap, subst, ◌∙◌, append-nil, append_assoc}
use Rattle.std.specs.Prelude.{IfErr, IfOk, OnOk, String, Vec, ◌^◌}
use Rattle.std.specs.HashMap.{HashMap}
use Rattle.std.specs.declared.alloc.Global.{Global}
use Rattle.std.specs.List.{slice_get}
use Rattle.std.proofs.lemmas.Bool.{and_parts, ltb-true}
use Rattle.std.proofs.lemmas.List.{drop_all}
use Rattle.seg_common.proofs.Lists.{drop-slice_get}
use Rattle.seg_values.specs.declared.error.TantivyError.{TantivyError}
use Rattle.seg_values.specs.declared.error.TantivyError.TheVariants.{OutOfMemory}
use Rattle.seg_values.specs.declared.schema.FieldEntry.{FieldEntry}
use Rattle.seg_values.specs.SchemaRules.{is_schema}
use Rattle.seg_model.specs.Fields.{Schema}
use Rattle.seg_postings.specs.OpenedFields.{OpenField}
use Rattle.seg_open.specs.OpenSegment.{OpenSegment}
use Rattle.seg_field_metadata.specs.MetadataEntries.{Entry, entry_of}
use Rattle.seg_field_metadata.specs.MergedMetadata.{MergeFails, all_entries, merged, sizes_fit}
use Rattle.seg_field_metadata.specs.declared.field_metadata.FieldMetadata.{FieldMetadata}
use Rattle.seg_field_metadata.specs.ColumnMetadata.{ColumnsSay}
use Rattle.seg_field_metadata.specs.IndexedFieldMetadata.{Adds, Said}
use Rattle.seg_field_metadata.specs.ListedNames.{EscapedName, HasNames}
use Rattle.seg_field_metadata.specs.SegmentMetadata.{FieldsSay, MetadataFails, OpenedSays, SegmentSays}

pub few_fields : (schema : List FieldEntry) → is_schema schema ≡ true → length schema < 2 ^ 32 - 1
few_fields schema valid = ltb-true _ _ (and_parts _ _ (and_parts _ _ valid).1).1

abbrev nothing : Said
nothing = record { entries = []; escaped = [] }

-- what comes first, and then the rest
abbrev followed : List Entry → List EscapedName → Said → Said
followed entries escaped rest = record { entries = entries ++ rest.entries; escaped = escaped ++ rest.escaped }

-- what was said up to a place, with what the fields from there on say, is what all say
pub record SoFar {S : Type 0} (schema : Schema) (fields : List (Option OpenField)) (place : ℕ) (entries : List Entry)
    (names : HashMap (String Global) (String Global) S) : Type 0 where
  pub escaped : List EscapedName
  pub named : HasNames names escaped
  pub goes_on : (rest : Said) → FieldsSay (drop place schema) (drop place fields) rest
      → FieldsSay schema fields (followed entries escaped rest)

module _ {S : Type 0} (schema : Schema) (fields : List (Option OpenField)) where
  pub none_so_far : (entries : List Entry) (names : HashMap (String Global) (String Global) S) → entries ≡ [] → HasNames names []
      → SoFar schema fields 0 entries names
  none_so_far entries names none had =
      subst (λ (es : List Entry). SoFar schema fields 0 es names) (sym none)
      (record { escaped = []; named = had; goes_on = λ rest says. says })

  pub place_turn : (place : ℕ) (entry : FieldEntry) (old new : List Entry) (before after : HashMap (String Global) (String Global) S)
      → slice_get schema place ≡ Some entry
      → (o : Option OpenField) × (slice_get fields place ≡ Some o) × Adds (OpenedSays entry o) old new before after
      → SoFar schema fields place old before → SoFar schema fields (place + 1) new after
  place_turn place entry old new before after in_schema (o, in_fields, adds) so = record {
    escaped = so.escaped ++ adds.said.escaped;
    named = adds.named so.escaped so.named;
    goes_on = λ rest says.
        let both : Said = followed adds.said.entries adds.said.escaped rest in
        let entries_are = sym (append_assoc old adds.said.entries rest.entries) ∙ ap (λ (es : List Entry). es ++ rest.entries) (sym adds.added) in
        let escaped_are = sym (append_assoc so.escaped adds.said.escaped rest.escaped) in
        let cut : FieldsSay (entry ∷ drop (place + 1) schema) (o ∷ drop (place + 1) fields) both = (adds.said, rest, adds.says, says, refl) in
        let same : FieldsSay (drop place schema) (drop place fields) both =
        subst (λ (l : Schema). FieldsSay l (drop place fields) both) (sym (drop-slice_get schema place entry in_schema))
        (subst (λ (l : List (Option OpenField)). FieldsSay (entry ∷ drop (place + 1) schema) l both) (sym (drop-slice_get fields place o in_fields)) cut) in
        subst (FieldsSay schema fields) (λ i. record { entries = entries_are i; escaped = escaped_are i }) (so.goes_on both same);
  }

  pub all_said : (place : ℕ) (entries : List Entry) (names : HashMap (String Global) (String Global) S) → length schema ≤ place
      → SoFar schema fields place entries names → (said : Said) × FieldsSay schema fields said × (entries ≡ said.entries) × HasNames names said.escaped
  all_said place entries names end so =
      let says : FieldsSay (drop place schema) (drop place fields) nothing =
      subst (λ (l : Schema). FieldsSay l (drop place fields) nothing) (sym (drop_all place schema end)) refl in
      let entries_are = append-nil entries in
      let escaped_are = append-nil so.escaped in
      let all : FieldsSay schema fields (record { entries = entries; escaped = so.escaped }) =
      subst (FieldsSay schema fields) (λ i. record { entries = entries_are i; escaped = escaped_are i }) (so.goes_on nothing says) in
      (record { entries = entries; escaped = so.escaped }, all, refl, so.named)

-- ---- the whole segment

pub lists_say : (s : OpenSegment) (said : Said) (lists : List (Vec FieldMetadata Global)) (indexed columns : Vec FieldMetadata Global)
    → FieldsSay s.schema s.fields said → map entry_of indexed.items ≡ said.entries
    → ColumnsSay s.schema said.escaped s.columns.columns (map entry_of columns.items)
    → lists ≡ indexed ∷ columns ∷ [] → SegmentSays s (all_entries lists)
lists_say s said lists indexed columns fields_say entries_are columns_say are = record {
  indexed = said;
  columns = map entry_of columns.items;
  fields_say = fields_say;
  columns_say = columns_say;
  all =
      ap all_entries are
      ∙ ap (λ (es : List Entry). map entry_of indexed.items ++ es) (append-nil (map entry_of columns.items))
      ∙ ap (λ (es : List Entry). es ++ map entry_of columns.items) entries_are;
}

pub merged_says : (r : Result (Vec FieldMetadata Global) TantivyError) (s : OpenSegment) (es : List Entry) → SegmentSays s es
    → IfOk r (λ list. map entry_of list.items ≡ merged es) → OnOk r (sizes_fit (merged es) ≡ true)
    → IfOk r (λ list. (entries : List Entry) × SegmentSays s entries × (map entry_of list.items ≡ merged entries) × (sizes_fit (merged entries) ≡ true))
merged_says (Ok list) s es says is fits = (es, says, is, fits)
merged_says (Err e) s es says is fits = tt

fails : (s : OpenSegment) (es : List Entry) (e : TantivyError) → SegmentSays s es → MergeFails (merged es) e → MetadataFails s e
fails s es OutOfMemory says f = tt
fails s es other says f = (es, says, f)

pub merged_fails : (r : Result (Vec FieldMetadata Global) TantivyError) (s : OpenSegment) (es : List Entry) → SegmentSays s es
    → IfErr r (MergeFails (merged es)) → IfErr r (MetadataFails s)
merged_fails (Ok list) s es says f = tt
merged_fails (Err e) s es says f = fails s es e says f
