use Rattle.std.proofs.Common.{rules, ◌≡◌, ◌∙◌, ap, sym}
use Rattle.seg_fastfield.specs.OpenFastFields.{FastFields}
use Rattle.seg_open.proofs.OpenContents.{open_shape}
use Rattle.seg_open.proofs.OpenedPlaces.{open_places}
use Rattle.seg_open.proofs.OpeningOutcomes.{has_files, open_as}
use Rattle.seg_open.proofs.segment_reader.SegmentReader.of_readers.Goals as goal

pub returns : goal.returns
returns c files has =
    let segment = c.args.segment.now in
    let schema_is : c.share.result ≡ segment.schema = search rules in
    let number_is : c.max_doc.result ≡ segment.meta.documents = search rules in
    has_files c.terms_read_have_shape.ensures segment files c.args.readers _ _ _ _ _ (search rules) schema_is number_is (search rules)
    (open_as segment.schema _ segment.meta.documents _ (sym schema_is) (sym number_is) files c.args.readers has)

pub invariant_of-result : goal.invariant_of-result
invariant_of-result c =
    let segment = c.args.segment.now in
    let schema_is : c.share.result ≡ segment.schema = search rules in
    let number_is : c.max_doc.result ≡ segment.meta.documents = search rules in
    let files = c.requires.0 in
    let has = open_as segment.schema c.share.result segment.meta.documents c.max_doc.result (sym schema_is) (sym number_is) files c.args.readers c.requires.1 in
    let t = has.terms in (
      open_places c.share.result c.max_doc.result t.term_parts t.posting_parts t.position_parts c.args.readers.fields.items t.opened,
      tt,
      ap (λ (f : FastFields). f.schema) has.columns_are,
      ap (λ (f : FastFields). f.file.rows) has.columns_are ∙ has.columns.rows,
      open_shape c.terms_read_have_shape.ensures c.share.result c.max_doc.result files c.args.readers has,
      has.store.1,
    )
