use Rattle.std.proofs.Common.{rules, ◌≡◌, Err, Ok}
use Rattle.seg_open.proofs.OpeningOutcomes.{opened, reads_as, unopened}
use Rattle.seg_open.proofs.segment_reader.SegmentReader.read_files.Goals as goal

pub of_readers-requires : goal.of_readers-requires
of_readers-requires g c =
    let segment = c.args.segment.now in
    let id_is : c.id-id.result ≡ segment.meta.id = search rules in
    let schema_is : c.schema.result.now ≡ segment.schema = search rules in
    let number_is : c.max_doc-max_doc.result ≡ segment.meta.documents = search rules in
    let reads = reads_as c.schema.result.now segment.schema _ segment.meta.documents schema_is number_is _ segment.meta.id id_is (Ok c.in-Ok.readers) _ _ c.in-Ok.ensures in
    (reads.files, reads.is)

pub returns-in-Ok : goal.returns-in-Ok
returns-in-Ok g c =
    let segment = c.args.segment.now in
    let id_is : c.id-id.result ≡ segment.meta.id = search rules in
    let schema_is : c.schema.result.now ≡ segment.schema = search rules in
    let number_is : c.max_doc-max_doc.result ≡ segment.meta.documents = search rules in
    opened segment _ _ c.in-Ok.readers c.of_readers.result
    (reads_as c.schema.result.now segment.schema _ segment.meta.documents schema_is number_is _ segment.meta.id id_is (Ok c.in-Ok.readers) _ _ c.in-Ok.ensures)
    c.of_readers.ensures

pub returns-in-Err : goal.returns-in-Err
returns-in-Err g c =
    let segment = c.args.segment.now in
    let id_is : c.id-id.result ≡ segment.meta.id = search rules in
    let schema_is : c.schema.result.now ≡ segment.schema = search rules in
    let number_is : c.max_doc-max_doc.result ≡ segment.meta.documents = search rules in
    unopened segment _ _ c.in-Err.e
    (reads_as c.schema.result.now segment.schema _ segment.meta.documents schema_is number_is _ segment.meta.id id_is (Err c.in-Err.e) _ _ c.in-Err.ensures)
