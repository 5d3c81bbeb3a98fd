use Rattle.seg_column_writer.specs.EncodedColumns.{image_of}
use Rattle.seg_column_writer.proofs.ArrangedValues.{arranged_rise}
use Rattle.seg_column_writer.proofs.encoded_values.put_images.Goals as goal

pub put_numbers-requires : goal.put_numbers-requires
put_numbers-requires c = arranged_rise (image_of c.args.column_type) c.args.sorts c.args.values.now c.in_ok-images.field-0.items
    c.arranged-numbers.result.items c.deref.result.now c.in_ok-images.ensures
    c.arranged-numbers.ensures c.deref.ensures.value c.requires.rise
