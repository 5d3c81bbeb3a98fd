use Rattle.std.proofs.Common.{◌<◌, ◌≤◌, length, arith}
use Rattle.seg_values.specs.DocumentJson.{has_fields}
use Rattle.seg_values.specs.ValueTrees.{tree_of}
use Rattle.seg_values.proofs.DocumentObjects.{field_passes, field_fails}
use Rattle.seg_values.proofs.document_json.has_fields.Goals as goal

pub loop-at-preserved : goal.loop-at-preserved
loop-at-preserved c =
    let within : c.pair-field.result.0 < length c.args.schema.now = omega (arith, c.field_id.ensures, c.num_fields.ensures) in
    field_passes c.args.schema.now c.args.document.now c.loop-at.at (c.pair-field.result.0, tree_of c.pair-field.result.1.now) c.pair-field.ensures (has_fields c.args.schema.now c.args.document.now) c.loop-at.invariant within

pub returns-then-field_id-num_fields : goal.returns-then-field_id-num_fields
returns-then-field_id-num_fields c =
    let outside : length c.args.schema.now ≤ c.pair-field.result.0 = omega (arith, c.field_id.ensures, c.num_fields.ensures) in
    field_fails c.args.schema.now c.args.document.now c.loop-at.at (c.pair-field.result.0, tree_of c.pair-field.result.1.now) c.pair-field.ensures (has_fields c.args.schema.now c.args.document.now) c.loop-at.invariant outside
