use Rattle.std.proofs.Common.{arith}
use Rattle.std.proofs.lemmas.Option.{slice_get_within}
use Rattle.std.proofs.lemmas.Result.{IfOk-weaker}
use Rattle.seg_build.proofs.WrittenFields.{fields_held}
use Rattle.seg_build.proofs.terms_files.field_files.Goals as goal

pub write_fields-requires : goal.write_fields-requires
write_fields-requires c = λ field entry at on.
    let within = slice_get_within c.args.schema.now field entry at in
    let many = c.requires in
    omega (arith, within, many)

pub returns : goal.returns
returns c = IfOk-weaker c.write_fields.result _ _ (λ files h. fields_held c.args.schema.now c.args.fields.now files h) c.write_fields.ensures
