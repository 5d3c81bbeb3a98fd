use Rattle.std.proofs.Common.{Ok, Err}
use Rattle.std.proofs.lemmas.List.Sorted.{searched}
use Rattle.seg_norms.specs.declared.field_norm_id.TheConstants.{LENGTHS}
use Rattle.seg_norms.proofs.LengthTable.{table_ascends, id_of_listed, not_first, id_below}
use Rattle.seg_norms.proofs.field_norm_id.fieldnorm_to_id.Goals as goal

pub overflow_sub-result : goal.overflow_sub-result
overflow_sub-result c = not_first c.args.length c.in-Err.above (searched LENGTHS c.args.length (Err c.in-Err.above) c.in-Err.ensures.position table_ascends).2

pub returns-in-Ok : goal.returns-in-Ok
returns-in-Ok c =
    let found = searched LENGTHS c.args.length (Ok c.in-Ok.id) c.in-Ok.ensures.position table_ascends in
    id_of_listed c.args.length c.in-Ok.id found.0 found.1

pub returns-in-Err : goal.returns-in-Err
returns-in-Err c =
    let found = searched LENGTHS c.args.length (Err c.in-Err.above) c.in-Err.ensures.position table_ascends in
    id_below c.args.length c.in-Err.above found.0 found.1 found.2
