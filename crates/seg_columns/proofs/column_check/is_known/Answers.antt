use Rattle.seg_columns.proofs.DocumentValues.{at_place, told_some}
use Rattle.seg_columns.proofs.column_check.is_known.Goals as goal

pub returns : goal.returns
returns g c =
    let v = g.T.ColumnValue in
    told_some c.is_some.result c.decode.result c.is_some.ensures _
    (at_place v.WIDTH v.decoded c.args.values.now c.args.place c.WIDTH.result
    c.WIDTH-2.result c.WIDTH.ensures c.WIDTH-2.ensures c.decode.result c.decode.ensures)
