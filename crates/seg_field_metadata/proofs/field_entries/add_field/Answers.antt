use Rattle.std.proofs.Common.{rules, ◌≡◌, ◌++◌, [], ◌∷◌, false, map, string_bytes, ◌∙◌}
use Rattle.seg_common.proofs.Results.{when_ok}
use Rattle.seg_model.specs.Fields.{is_json}
use Rattle.seg_postings.specs.OpenedFields.{dictionary_terms}
use Rattle.seg_field_metadata.specs.MetadataEntries.{entry_of}
use Rattle.seg_field_metadata.specs.IndexedFieldMetadata.{indexed_entry}
use Rattle.seg_field_metadata.proofs.FieldAdditions.{whole_adds}
use Rattle.seg_field_metadata.proofs.field_entries.add_field.Goals as goal

pub returns : goal.returns
returns c =
    let entry = c.args.entry.now in
    let old = map entry_of c.args.entries.now.items in
    let plain : is_json entry.kind ≡ false = search rules in
    let named : string_bytes c.in_ok-name.name ≡ entry.name = c.in_ok-name.ensures.ok ∙ c.as_str.ensures in
    when_ok c.push_indexed.result c.push_indexed.ensures
    (λ is.
    whole_adds entry (dictionary_terms c.args.opened.now) old (map entry_of c.push_indexed.new.entries.items) c.args.names.now.by_dotted plain
    (is ∙ (λ i. old ++ indexed_entry entry (named i) (c.from.ensures i) (c.part_sizes-sizes.ensures i) ∷ [])))
