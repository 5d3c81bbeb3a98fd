use Rattle.std.proofs.Common.{◌≡◌, ℕ, [], Option, Some, None, map, refl, sym, subst, append-nil}
use Rattle.std.specs.Prelude.{IfSome}
use Rattle.std.specs.List.{slice_get}
use Rattle.seg_common.proofs.Results.{when_ok}
use Rattle.seg_postings.specs.OpenedFields.{OpenField}
use Rattle.seg_open.specs.OpenSegment.{contents_of}
use Rattle.seg_field_metadata.specs.MetadataEntries.{entry_of}
use Rattle.seg_field_metadata.specs.ListedNames.{HasNames}
use Rattle.seg_field_metadata.proofs.OpenedTerms.{none_open, terms_formed}
use Rattle.seg_field_metadata.proofs.metadata.add_indexed.Goals as goal

pub add_field-requires : goal.add_field-requires
add_field-requires c =
    let s = c.args.reader.now in
    terms_formed s.schema s.fields c.args.place c.args.entry.now c.indexed_fields_are_open.ensures c.requires c.in-Some.opened.now
    (subst (λ (n : ℕ). slice_get s.fields n ≡ Some (Some c.in-Some.opened.now)) c.from_field_id.ensures c.in-Some.ensures)
    (contents_of s) refl c.contents_have_full_shape.ensures c.terms_ascend.ensures

pub returns-in_default : goal.returns-in_default
returns-in_default c =
    let s = c.args.reader.now in
    let names = c.args.names.now.by_dotted in (
      None,
      none_open s.schema s.fields c.args.place c.args.entry.now c.indexed_fields_are_open.ensures c.requires
          (subst (λ (n : ℕ). IfSome (slice_get s.fields n) (λ (o : Option OpenField). o ≡ None)) c.from_field_id.ensures c.in_default.ensures),
      record {
        said = record { entries = []; escaped = [] };
        says = refl;
        added = sym (append-nil (map entry_of c.args.entries.now.items));
        named = λ before had. subst (HasNames names) (sym (append-nil before)) had;
      },
    )

pub returns : goal.returns
returns c =
    let s = c.args.reader.now in
    when_ok c.add_field.result c.add_field.ensures
    (λ adds. (
      Some c.in-Some.opened.now,
      subst (λ (n : ℕ). slice_get s.fields n ≡ Some (Some c.in-Some.opened.now)) c.from_field_id.ensures c.in-Some.ensures,
      record { said = adds.said; says = adds.says; added = adds.added; named = adds.named },
    ))
