use Rattle.std.proofs.Common.{sym, subst}
use Rattle.std.specs.Prelude.{IfSome}
use Rattle.seg_directory.specs.CompositeFiles.{low_after}
use Rattle.seg_segment.specs.WrittenLengths.{AscendFrom}
use Rattle.seg_segment.proofs.LengthSequences.{next_fits, next_limit, next_parts, rest_ascends}
use Rattle.seg_segment.proofs.lengths_by_field.add_fields.Goals as goal

pub write_ids-requires-clause-ascends : goal.write_ids-requires-clause-ascends
write_ids-requires-clause-ascends g c = next_fits c.args.fields.now c.loop-field.field-index c.field-item.result c.loop-field-test.true c.field-item.is c.loop-field.file c.loop-field.invariant.ascend

pub write_ids-requires-clause-limit : goal.write_ids-requires-clause-limit
write_ids-requires-clause-limit g c = next_limit c.args.fields.now c.loop-field.field-index c.field-item.result c.loop-field-test.true c.field-item.is c.loop-field.file _ c.loop-field.invariant.parts c.loop-field.invariant.ascend

pub loop-field-init : goal.loop-field-init
loop-field-init g c = record {
  parts = c.requires.fresh;
  ascend = subst (λ o. IfSome o (λ ps. AscendFrom (low_after 0 ps) c.args.fields.now)) (sym c.requires.fresh) c.requires.ascend;
}

pub loop-field-preserved : goal.loop-field-preserved
loop-field-preserved g c =
    let fields = c.args.fields.now in
    let i = c.loop-field.field-index in
    let field = c.field-item.result in
    let ids = g.L.LengthsByField.ids c.args.lengths.now in
    let grown = c.in_ok-write_ids.ensures in
    record {
      parts = next_parts fields i field c.loop-field-test.true c.field-item.is ids c.loop-field.file c.write_ids.new.file grown c.loop-field.invariant.parts;
      ascend = rest_ascends fields i field c.loop-field-test.true c.field-item.is c.loop-field.file c.write_ids.new.file (ids field) grown c.loop-field.invariant.ascend;
    }
