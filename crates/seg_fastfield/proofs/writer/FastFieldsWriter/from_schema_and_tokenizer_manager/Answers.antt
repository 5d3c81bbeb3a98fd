use Rattle.std.proofs.Common.{◌∙◌}
use Rattle.seg_fastfield.proofs.ColumnIds.{shared_columns}
use Rattle.seg_fastfield.proofs.DocumentSteps.{started}
use Rattle.seg_fastfield.proofs.writer.FastFieldsWriter.from_schema_and_tokenizer_manager.Goals as goal

pub invariant_of-result : goal.invariant_of-result
invariant_of-result g c =
    let ready = started c.args.schema.now c.share.result c.fields-2.result.now c.field_columns.new.columns
    c.fields_are_valid.ensures c.requires c.share.ensures c.fields-2.ensures
    (c.in-Ok-field_columns.ensures.same ∙ c.in-Ok.ensures) in (
      ready.0,
      ready.1,
      shared_columns c.args.schema.now c.share.result c.fields-2.result.now c.fields-3.result.now c.in-Ok.columns
          c.in-Ok-field_columns.fields.items c.share.ensures c.fields-2.ensures c.fields-3.ensures c.in-Ok.ensures
          c.in-Ok-field_columns.ensures.ids,
      tt,
    )
