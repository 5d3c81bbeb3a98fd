use Rattle.seg_field_metadata.specs.MergedMetadata.{all_entries}
use Rattle.seg_field_metadata.proofs.FieldTurns.{merged_fails, merged_says}
use Rattle.seg_field_metadata.proofs.metadata.fields_metadata.Goals as goal

pub returns-clause-ok : goal.returns-clause-ok
returns-clause-ok c =
    let m = c.merge_field_meta_data in
    merged_says m.result c.args.reader.now (all_entries c.in-Ok.lists.items) c.in-Ok.ensures m.ensures.ok m.ensures.fits

pub returns-clause-err : goal.returns-clause-err
returns-clause-err c =
    let m = c.merge_field_meta_data in
    merged_fails m.result c.args.reader.now (all_entries c.in-Ok.lists.items) c.in-Ok.ensures m.ensures.err
