use Rattle.std.proofs.Common.{sym, subst, ◌∙◌, List, arith}
use Rattle.std.proofs.lemmas.List.{take_all}
use Rattle.seg_column_writer.specs.ColumnRecords.{ColumnRecord}
use Rattle.seg_fastfield.specs.FieldColumns.{AreFieldColumns, IsFieldColumn, IsThere}
use Rattle.seg_fastfield.proofs.ColumnIds.{all_there, ids_turn}
use Rattle.seg_fastfield.proofs.schema_columns.field_columns.Goals as goal

pub field_column-requires : goal.field_column-requires
field_column-requires c =
    subst (λ (cs : List ColumnRecord). IsThere cs c.entry-item.result)
    (sym (c.loop-entry.invariant.same ∙ c.requires.columns))
    (all_there c.args.schema.now c.requires.schema.0 c.requires.schema.1 c.loop-entry.entry-index c.entry-item.result
    c.loop-entry-test.true c.entry-item.is)

pub loop-entry-preserved : goal.loop-entry-preserved
loop-entry-preserved c =
    let inv = c.loop-entry.invariant in
    record {
      same = c.in_ok-id.ensures.same ∙ inv.same;
      ids = ids_turn c.args.schema.now c.args.columns.now c.loop-entry.entry-index c.entry-item.result
          c.loop-entry-test.true
          c.entry-item.is c.loop-entry.ids.items c.push.new.self.items c.in_ok-id.id inv.ids
          (subst (λ (cs : List ColumnRecord). IsFieldColumn cs c.entry-item.result c.in_ok-id.id) inv.same
          c.in_ok-id.ensures.id)
          c.in-Ok.ensures.items;
    }

pub returns-clause-ids : goal.returns-clause-ids
returns-clause-ids c =
    subst (λ l. AreFieldColumns c.args.columns.now l c.loop-entry.ids.items)
    (take_all c.loop-entry.entry-index c.args.schema.now (omega
    (arith, c.loop-entry-test.false))) c.loop-entry.invariant.ids
