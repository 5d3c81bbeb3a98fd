use Rattle.seg_column_merge.proofs.TableTypes.{table_of}
use Rattle.seg_column_merge.proofs.columnar_merge.sorted_table.Goals as goal

pub returns : goal.returns
returns c =
    let rows = c.in_ok-rows in
    let ordered = c.rows_by_key.ensures in
    table_of c.args.required.now c.args.columnars.now rows.rows.items rows.ensures.rows rows.ensures.utf8 c.requires
    c.rows_by_key.result ordered.sorted ordered.stable ordered.permutation
