use Rattle.std.proofs.Common.{◌≡◌, false, sym, subst}
use Rattle.seg_common.specs.declared.column_type.ColumnType.{ColumnType}
use Rattle.seg_columns.specs.DynamicColumns.{type_of}
use Rattle.seg_column_format.specs.SchemaColumns.{DeclaresAlone, is_declared_by}
use Rattle.seg_column_format.proofs.FoundFields.{as_before, declared_suits, marked_alone}
use Rattle.seg_column_format.proofs.schema_columns.suits_one.Goals as goal

pub returns-in-Some-clause-suited : goal.returns-in-Some-clause-suited
returns-in-Some-clause-suited c = sym (declared_suits c.args.schema.now (record { path = c.args.path.now; stored = c.args.handle.now })
    c.in-Some.field
    (subst (λ (t : ColumnType). DeclaresAlone c.args.schema.now c.args.path.now t c.in-Some.field) c.column_type.ensures c.in-Some.ensures))

pub returns-in-Some-clause-marks : goal.returns-in-Some-clause-marks
returns-in-Some-clause-marks c = marked_alone c.args.schema.now c.args.path.now (type_of (c.args.handle.now).column) c.in-Some.field
    (subst (λ (t : ColumnType). DeclaresAlone c.args.schema.now c.args.path.now t c.in-Some.field) c.column_type.ensures c.in-Some.ensures)
    c.args.found.now.items c.requires.as_many

pub returns-in-None-clause-marks : goal.returns-in-None-clause-marks
returns-in-None-clause-marks c = as_before c.args.schema.now c.args.path.now (type_of (c.args.handle.now).column)
    (subst (λ (t : ColumnType). is_declared_by c.args.schema.now c.args.path.now t ≡ false) c.column_type.ensures c.in-None.ensures)
    c.args.found.now.items
