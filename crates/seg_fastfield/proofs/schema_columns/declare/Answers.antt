use Rattle.std.proofs.Common.{◌≡◌, List, ℕ, false, subst, sym, ◌∙◌}
use Rattle.std.specs.Prelude.{All, Some}
use Rattle.seg_column_writer.specs.ValueKinds.{kind_of}
use Rattle.seg_column_writer.specs.ColumnRecords.{Accepts}
use Rattle.seg_column_writer.proofs.Exports.{may_change_new}
use Rattle.seg_fastfield.proofs.LoopTurns.{declared_result, is_taken, not_there}
use Rattle.seg_fastfield.proofs.schema_columns.declare.Goals as goal

pub record_column_type-requires : goal.record_column_type-requires
record_column_type-requires c =
    may_change_new c.as_str.result.now (kind_of c.in-Some.column_type)
    (λ r. All (λ v. Accepts (Some c.in-Some.column_type) v.value) r.values) c.args.columns.now
    (not_there c.as_str.result.now (kind_of c.in-Some.column_type) c.args.columns.now
    (subst (λ (name : List ℕ). is_taken name c.args.columns.now ≡ false) (sym c.as_str.ensures) c.requires))

pub returns : goal.returns
returns c =
    declared_result c.args.entry.now c.as_str.result.now c.in-Some.column_type c.is_facet.result c.args.columns.now _
    c.record_column_type.result c.if-not-entry.false (sym c.declared_type.ensures ∙ c.in-Some.is) c.is_facet.ensures
    c.requires c.as_str.ensures c.record_column_type.ensures.ok
