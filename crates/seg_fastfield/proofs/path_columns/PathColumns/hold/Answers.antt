use Rattle.std.proofs.Common.{refl}
use Rattle.seg_fastfield.proofs.PathNumbers.{held_with, set_told}
use Rattle.seg_fastfield.proofs.path_columns.PathColumns.hold.Goals as goal

pub returns-in_default-clause-held : goal.returns-in_default-clause-held
returns-in_default-clause-held c path columns is own = is.0

pub returns-clause-held : goal.returns-clause-held
returns-clause-held c =
    held_with c.args.self.now _ c.in-Some.number c.args.kind c.args.column refl
    (set_told c.args.self.now.columns.items c.set_value.new.values.items c.in-Some.number c.args.kind c.args.column
    c.new.result c.columns_at.result c.with-known.result c.new.ensures c.columns_at.ensures
    c.with-known.ensures c.in-Ok.ensures.set)
    c.in-Ok.ensures.length c.args.number c.in-Some.is
