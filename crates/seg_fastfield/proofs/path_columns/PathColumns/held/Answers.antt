use Rattle.seg_fastfield.proofs.PathNumbers.{held_at}
use Rattle.seg_fastfield.proofs.path_columns.PathColumns.held.Goals as goal

pub returns-then-is_some : goal.returns-then-is_some
returns-then-is_some c path columns is own = own

pub returns : goal.returns
returns c path columns is own =
    held_at c.args.self.now c.in-Some.number c.args.place.number c.args.kind c.columns_at.result c.get.result
    c.in-Some.is c.columns_at.ensures c.get.ensures path columns is
