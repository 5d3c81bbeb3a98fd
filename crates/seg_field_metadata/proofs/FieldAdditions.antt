-- What a field adds to entries and escaped names.
use Rattle.std.proofs.Common.{◌≡◌, ℕ, ◌+◌, ◌<◌, Bool, true, false, List, [], ◌∷◌, ◌++◌, map, take, length, get_or, refl, sym, ap, subst, ◌∙◌, append-nil, append_assoc}
use Rattle.std.specs.Prelude.{String, string_bytes}
use Rattle.std.specs.HashMap.{HashMap}
use Rattle.std.specs.declared.alloc.Global.{Global}
use Rattle.std.specs.List.{flat_map}
use Rattle.std.proofs.lemmas.List.{flat_map_more, map-append, take_more}
use Rattle.seg_values.specs.FieldTypes.{type_of}
use Rattle.seg_values.specs.declared.schema.FieldEntry.{FieldEntry}
use Rattle.seg_model.specs.Fields.{is_json}
use Rattle.seg_termdict.specs.Dictionary.{Term}
use Rattle.seg_postings.specs.JsonSpaces.{AreSpaces}
use Rattle.seg_postings.specs.declared.field_space.InvertedIndexFieldSpace.{InvertedIndexFieldSpace}
use Rattle.seg_field_metadata.specs.MetadataEntries.{Entry}
use Rattle.seg_field_metadata.specs.IndexedFieldMetadata.{Adds, FieldSays, FieldSaysBy, Said, indexed_entry, said_by, share, sizes_of, space_entry}
use Rattle.seg_field_metadata.specs.ListedNames.{EscapedName, HasNames, escaped_names, listed_name}

abbrev pub names_of : FieldEntry → InvertedIndexFieldSpace → List EscapedName
names_of entry s = escaped_names entry (string_bytes s.field_name)

module _ {S : Type 0} (entry : FieldEntry) (terms : List Term) (old new : List Entry) where
  -- one that isn't a JSON field
  pub whole_adds : (names : HashMap (String Global) (String Global) S) → is_json entry.kind ≡ false
      → new ≡ old ++ indexed_entry entry entry.name (type_of entry.kind) (sizes_of terms) ∷ []
      → Adds (FieldSays entry terms) old new names names
  whole_adds names plain is =
      let said : Said = record { entries = indexed_entry entry entry.name (type_of entry.kind) (sizes_of terms) ∷ []; escaped = [] } in
      record {
        said = said;
        says = subst (λ (b : Bool). FieldSaysBy b entry terms said) (sym plain) refl;
        added = is;
        named = λ before had. subst (HasNames names) (sym (append-nil before)) had;
      }

  -- a JSON field, by its spaces
  pub spaces_add : (before after : HashMap (String Global) (String Global) S) (spaces : List InvertedIndexFieldSpace) → is_json entry.kind ≡ true
      → AreSpaces terms spaces → new ≡ old ++ map (space_entry entry terms) spaces
      → ((names : List EscapedName) → HasNames before names
      → HasNames after (names ++ flat_map (names_of entry) spaces))
      → Adds (FieldSays entry terms) old new before after
  spaces_add before after spaces json are is named = record {
    said = said_by entry terms spaces;
    says = subst (λ (b : Bool). FieldSaysBy b entry terms (said_by entry terms spaces)) (sym json) (spaces, are, refl);
    added = is;
    named = named;
  }

-- ---- one more space of a JSON field

upto : {X : Type 0} (xs : List X) (i : ℕ) (x : X) → i < length xs → x ≡ get_or xs i x → take i xs ++ x ∷ [] ≡ take (i + 1) xs
upto xs i x lt is = ap (λ y. take i xs ++ y ∷ []) is ∙ sym (take_more xs i x lt)

module _ (entry : FieldEntry) (terms : List Term) (spaces : List InvertedIndexFieldSpace) (i : ℕ) (s : InvertedIndexFieldSpace)
    (lt : i < length spaces) (is : s ≡ get_or spaces i s) where
  pub entries_more : (start now next : List Entry) (size all part : ℕ) → size ≡ (sizes_of terms).terms → all ≡ length terms
      → part ≡ share size s.num_terms all
      → next ≡ now ++ indexed_entry entry (listed_name entry (string_bytes s.field_name)) s.field_type
      (record { terms = part; postings = s.postings_size.0; positions = s.positions_size.0 }) ∷ []
      → now ≡ start ++ map (space_entry entry terms) (take i spaces) → next ≡ start ++ map (space_entry entry terms) (take (i + 1) spaces)
  entries_more start now next size all part size_is all_is part_is next_is now_is =
      let sized : part ≡ share (sizes_of terms).terms s.num_terms (length terms) = part_is ∙ (λ j. share (size_is j) s.num_terms (all_is j)) in
      next_is
      ∙ (λ j. now_is j ++ indexed_entry entry (listed_name entry (string_bytes s.field_name)) s.field_type
      (record { terms = sized j; postings = s.postings_size.0; positions = s.positions_size.0 }) ∷ [])
      ∙ append_assoc start (map (space_entry entry terms) (take i spaces)) (space_entry entry terms s ∷ [])
      ∙ ap (λ (es : List Entry). start ++ es) (sym (map-append (space_entry entry terms) (take i spaces) (s ∷ [])))
      ∙ ap (λ (ss : List InvertedIndexFieldSpace). start ++ map (space_entry entry terms) ss) (upto spaces i s lt is)

  pub names_more : {S : Type 0} (start now next : HashMap (String Global) (String Global) S) (path : List ℕ) → path ≡ string_bytes s.field_name
      → ((names : List EscapedName) → HasNames now names → HasNames next (names ++ escaped_names entry path))
      → ((names : List EscapedName) → HasNames start names → HasNames now (names ++ flat_map (names_of entry) (take i spaces)))
      → (names : List EscapedName) → HasNames start names → HasNames next (names ++ flat_map (names_of entry) (take (i + 1) spaces))
  names_more start now next path path_is adds so_far names had =
      subst (λ (ns : List EscapedName). HasNames next ns)
      (ap (λ (p : List ℕ). (names ++ flat_map (names_of entry) (take i spaces)) ++ escaped_names entry p) path_is
      ∙ flat_map_more (names_of entry) names (take i spaces) s
      ∙ ap (λ (ss : List InvertedIndexFieldSpace). names ++ flat_map (names_of entry) ss) (upto spaces i s lt is))
      (adds (names ++ flat_map (names_of entry) (take i spaces)) (so_far names had))
