use Rattle.std.proofs.Common.{rules, ◌≡◌}
use Rattle.seg_open.proofs.OpeningOutcomes.{open_as, wrong_as}
use Rattle.seg_open.proofs.segment_reader.SegmentReader.open_files.Goals as goal

pub of_readers-requires : goal.of_readers-requires
of_readers-requires c =
    let segment = c.args.segment.now in
    let schema_is : c.schema.result.now ≡ segment.schema = search rules in
    let number_is : c.max_doc-max_doc.result ≡ segment.meta.documents = search rules in
    (c.args.files, open_as c.schema.result.now segment.schema _ segment.meta.documents schema_is number_is c.args.files c.in-Ok.readers c.in-Ok.ensures.ok)

pub returns-in-Ok-clause-ok : goal.returns-in-Ok-clause-ok
returns-in-Ok-clause-ok c =
    let segment = c.args.segment.now in
    let schema_is : c.schema.result.now ≡ segment.schema = search rules in
    let number_is : c.max_doc-max_doc.result ≡ segment.meta.documents = search rules in
    c.of_readers.ensures c.args.files
    (open_as c.schema.result.now segment.schema _ segment.meta.documents schema_is number_is c.args.files c.in-Ok.readers c.in-Ok.ensures.ok)

pub returns-in-Err-clause-err : goal.returns-in-Err-clause-err
returns-in-Err-clause-err c =
    let segment = c.args.segment.now in
    let schema_is : c.schema.result.now ≡ segment.schema = search rules in
    let number_is : c.max_doc-max_doc.result ≡ segment.meta.documents = search rules in
    wrong_as c.schema.result.now segment.schema _ segment.meta.documents schema_is number_is c.args.files c.in-Err.e c.in-Err.ensures.err
