use Rattle.std.proofs.Common.{◌∙◌, Some, ap}
use Rattle.seg_segment.specs.WrittenLengths.{parts_with}
use Rattle.seg_segment.proofs.LengthSequences.{fields_ascend}
use Rattle.seg_segment.proofs.lengths_by_field.write_lengths.Goals as goal

pub add_fields-requires-clause-ascend : goal.add_fields-requires-clause-ascend
add_fields-requires-clause-ascend g c = fields_ascend c.args.schema.now c.deref.result.now c.fields_are_valid.ensures (c.deref.ensures.value ∙ c.in-Ok.ensures.ok)

pub returns-in-Ok-close : goal.returns-in-Ok-close
returns-in-Ok-close g c =
    c.in-Ok-close.ensures.ok.0 ∙ c.in_ok-add_fields.ensures
    ∙ ap (λ fs. Some (parts_with (g.L.LengthsByField.ids c.args.lengths.now) fs)) (c.deref.ensures.value ∙ c.in-Ok.ensures.ok)
