use Rattle.std.proofs.Common.{◌≡◌, List, Some, map, sym, subst}
use Rattle.std.specs.Prelude.{All}
use Rattle.seg_column_merge_parts.specs.Tables.{row_of}
use Rattle.seg_column_merge_parts.specs.declared.tables.TableRow.{TableRow}
use Rattle.seg_column_merge.specs.Decisions.{merged_type}
use Rattle.seg_column_merge.specs.Groups.{AreOfFiles}
use Rattle.seg_column_merge.specs.MergedBytes.{RowFits, places_of}
use Rattle.seg_column_merge.specs.MergedFiles.{IsColumnGroup, values_of}
use Rattle.seg_column_merge.proofs.PutGroups.{is_group, of_files}
use Rattle.seg_column_merge.proofs.RowFiles.{all_have_rows}
use Rattle.seg_column_merge.proofs.planned_group.planned_group.Goals as goal

pub kept_count-count-requires : goal.kept_count-count-requires
kept_count-count-requires c =
    let merge = c.args.merge.now in
    all_have_rows merge.counts.now (places_of merge) merge.kept.now c.requires.merge.marks
    c.rows_between-rows.result.now
    (subst (AreOfFiles merge.counts.now 0) (sym c.rows_between-rows.ensures)
    (of_files merge c.requires.merge c.args.table.now c.requires.table c.args.start c.group_end-end.result
    c.index-table-start.result c.requires.place c.index-table-start.is c.group_end-end.ensures c.requires.cut))

pub merged_type-requires-clause-rows : goal.merged_type-requires-clause-rows
merged_type-requires-clause-rows c =
    let merge = c.args.merge.now in
    let same = c.rows_between-rows.ensures in
    (subst (IsColumnGroup merge) (sym same)
    (is_group merge c.requires.merge c.args.table.now c.requires.table c.args.start c.group_end-end.result
    c.index-table-start.result c.requires.place c.index-table-start.is c.group_end-end.ensures c.requires.cut
    (subst (All (λ (r : TableRow). RowFits merge.kept.now r.column)) same c.kept_count-count.ensures))).decidable

pub returns-in-Ok : goal.returns-in-Ok
returns-in-Ok c =
    let merge = c.args.merge.now in
    let same = c.rows_between-rows.ensures in
    record {
      group = c.group_end-end.ensures;
      columns = is_group merge c.requires.merge c.args.table.now c.requires.table c.args.start c.group_end-end.result
          c.index-table-start.result c.requires.place c.index-table-start.is c.group_end-end.ensures c.requires.cut
          (subst (All (λ (r : TableRow). RowFits merge.kept.now r.column)) same c.kept_count-count.ensures);
      decided = subst (λ (rs : List TableRow). merged_type (map row_of rs) (values_of merge rs)
          ≡ Some c.in-Ok.column_type) same c.in-Ok.ensures;
    }
