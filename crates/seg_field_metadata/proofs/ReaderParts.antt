-- The parts that an indexed field of a reader is opened from, and what they say.
use Rattle.std.proofs.Common.{◌≡◌, ℕ, Bool, true, false, List, length, map, Option, Some, refl, sym, ap, subst, ◌∙◌, arith}
use Rattle.std.specs.FinMap.{empty}
use Rattle.std.specs.List.{slice_get, slice_index_or}
use Rattle.std.specs.Option.{option_and_then, option_map}
use Rattle.std.proofs.lemmas.Option.{same_Some}
use Rattle.seg_values.specs.declared.schema.FieldEntry.{FieldEntry}
use Rattle.seg_meta.specs.Metas.{SegmentParts}
use Rattle.seg_model.specs.Fields.{is_indexed, is_json}
use Rattle.seg_directory.specs.CompositeFiles.{Part, field_of}
use Rattle.seg_termdict.specs.Dictionary.{Term, terms_of}
use Rattle.seg_postings.specs.OpenedFields.{OpenField, dictionary_terms}
use Rattle.seg_postings.specs.JsonSpaces.{AreSpaces}
use Rattle.seg_segment.specs.TermFiles.{HoldTerms, HoldsField}
use Rattle.seg_segment.specs.declared.segment_files.SegmentFiles.{SegmentFiles}
use Rattle.seg_open.specs.OpenSegment.{OpenSegment, contents_of}
use Rattle.seg_open.specs.OpeningSteps.{HasFilesOf}
use Rattle.seg_field_metadata.specs.IndexedFieldMetadata.{FieldSays, FieldSaysBy, Said, Sizes}
use Rattle.seg_field_metadata.specs.FileLengths.{ArePartsOf, AreShort, FieldSaysIn, PartsSay, PartsSayBy, path_entry}
use Rattle.seg_field_metadata.specs.PartLengths.{FieldBytes, IsOpenedFrom}
use Rattle.seg_field_metadata.proofs.FileParts.{part_fits}
use Rattle.seg_field_metadata.proofs.FieldLengths.{field_says_lengths, sizes_are}

-- ---- what a field says that is opened from parts

module _ (entry : FieldEntry) (f : OpenField) (b : FieldBytes) (from : IsOpenedFrom b f) (said : Said) where
  paths_say : FieldSaysBy true entry (dictionary_terms f) said → PartsSayBy true entry b said.entries
  paths_say (spaces, are, is) = (
    spaces,
    subst (λ (ts : List Term). AreSpaces ts spaces) from.infos are,
    ap (λ (s : Said). s.entries) is
        ∙ ap (λ (sizes : Sizes). map (path_entry entry sizes.terms (length (dictionary_terms f))) spaces) (sizes_are f b from)
        ∙ ap (λ (ts : List Term). map (path_entry entry (length b.dictionary) (length ts)) spaces) from.infos,
  )

  parts_say : FieldSays entry (dictionary_terms f) said → PartsSay entry b said.entries
  parts_say says = by (is_json entry.kind) refl
    where
      by : (json : Bool) → is_json entry.kind ≡ json → PartsSay entry b said.entries
      by true json =
          subst (λ (j : Bool). PartsSayBy j entry b said.entries) (sym json)
          (paths_say (subst (λ (j : Bool). FieldSaysBy j entry (dictionary_terms f) said) json says))
      by false plain =
          subst (λ (j : Bool). PartsSayBy j entry b said.entries) (sym plain) (field_says_lengths entry f b said from plain says)

-- ---- the parts of a reader's field

module _ (segment : SegmentParts) (files : SegmentFiles) (s : OpenSegment) (has : HasFilesOf segment files s) (short : AreShort files)
    (field : ℕ) (entry : FieldEntry) (f : OpenField) (in_schema : slice_get segment.schema field ≡ Some entry)
    (on : is_indexed entry ≡ true) (opened : slice_get s.fields field ≡ Some (Some f)) where
  abbrev hold : HoldTerms segment.schema files.terms files.postings files.positions (contents_of s).terms
  hold = has.spell.hold_terms

  abbrev held : HoldsField entry field hold.term_parts hold.posting_parts hold.position_parts
      (slice_index_or (contents_of s).terms field empty)
  held = hold.each field entry in_schema on

  abbrev bytes : FieldBytes
  bytes = record { dictionary = held.dictionary; postings = held.postings_part; positions = held.positions_part }

  are_parts : ArePartsOf files field bytes
  are_parts =
      let at : Option (List Part) → Option (List ℕ) = option_and_then (λ (ps : List Part). field_of ps field) in
      record {
        in_terms = ap at hold.term_file ∙ held.in_terms;
        in_postings = ap at hold.posting_file ∙ held.in_postings;
        in_positions = ap at hold.position_file ∙ held.in_positions;
      }

  infos_are : dictionary_terms f ≡ terms_of held.dictionary
  infos_are =
      same_Some (dictionary_terms f) (terms_of held.dictionary)
      (sym (has.infos field f opened) ∙ ap (option_map terms_of) are_parts.in_terms)

  opened_from : IsOpenedFrom bytes f
  opened_from =
      let terms_fit = part_fits files.terms held.dictionary field are_parts.in_terms in
      let postings_fit = part_fits files.postings held.postings_part field are_parts.in_postings in
      let positions_fit = part_fits files.positions held.positions_part field are_parts.in_positions in
      let short_terms = short.terms in
      let short_postings = short.postings in
      let short_positions = short.positions in
      record {
        total = held.total;
        terms = held.written;
        spell = held.spells;
        infos = infos_are;
        few_terms = omega (arith, terms_fit, short_terms);
        few_postings = omega (arith, postings_fit, short_postings);
        few_positions = omega (arith, positions_fit, short_positions);
      }

  -- what the field says is what these say
  pub says_its_parts : (said : Said) → FieldSays entry (dictionary_terms f) said → FieldSaysIn true files field entry said.entries
  says_its_parts said says = (bytes, are_parts, parts_say entry f bytes opened_from said says)
