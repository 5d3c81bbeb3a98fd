use Rattle.std.proofs.Common.{List, ℕ, refl, ap, subst, ◌∙◌}
use Rattle.seg_common.specs.LittleEndian.{u64_at}
use Rattle.seg_column_file.specs.ColumnFiles.{HasFooter, data_length, row_count, table_of}
use Rattle.seg_column_file.proofs.FileParts.{no_columns, no_entries, whole}
use Rattle.seg_column_file.proofs.footer.checked_footer.Goals as goal

pub returns-then-not-are_entries : goal.returns-then-not-are_entries
returns-then-not-are_entries c =
    let bytes = c.args.bytes.now in
    let is = c.table_in-table.ensures.table ∙ ap table_of c.as_slice-data.ensures in
    no_entries bytes c.table_in-table.result.now (data_length bytes) c.u64_at-num_columns.result (row_count bytes) is
    (c.u64_at-num_columns.ensures ∙ ap (λ (l : List ℕ). u64_at l 0) is) refl refl c.if-not-are_entries.ensures

pub returns-in-Err : goal.returns-in-Err
returns-in-Err c =
    let bytes = c.args.bytes.now in
    let is = c.table_in-table.ensures.table ∙ ap table_of c.as_slice-data.ensures in
    no_columns bytes c.table_in-table.result.now c.in-Some.size c.u64_at-num_columns.result c.rows_in-num_rows.result is
    (c.u64_at-num_columns.ensures ∙ ap (λ (l : List ℕ). u64_at l 0) is)
    (c.in-Some.ensures.0 ∙ ap data_length c.as_slice-data.ensures)
    (c.rows_in-num_rows.ensures ∙ ap row_count c.as_slice-data.ensures) c.in-Err.error c.in-Err.ensures

pub returns-in-Ok : goal.returns-in-Ok
returns-in-Ok c =
    let bytes = c.args.bytes.now in
    let is = c.table_in-table.ensures.table ∙ ap table_of c.as_slice-data.ensures in
    let columns = c.u64_at-num_columns.ensures ∙ ap (λ (l : List ℕ). u64_at l 0) is in
    let size = c.in-Some.ensures.0 ∙ ap data_length c.as_slice-data.ensures in
    let rows = c.rows_in-num_rows.ensures ∙ ap row_count c.as_slice-data.ensures in (
      whole bytes c.table_in-table.result.now c.in-Some.size c.u64_at-num_columns.result c.rows_in-num_rows.result is
          columns size rows (subst HasFooter c.as_slice-data.ensures c.in-Some.ensures.1) c.if-not-are_entries.ensures
          c.in-Ok.ensures,
      record { rows = rows; columns = columns; size = size },
    )
