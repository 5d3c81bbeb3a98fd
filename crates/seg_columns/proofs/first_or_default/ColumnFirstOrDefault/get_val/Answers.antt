use Rattle.std.proofs.Common.{ap, sym, length, arith}
use Rattle.std.proofs.lemmas.List.{length-map}
use Rattle.seg_columns.specs.Columns.{first_or}
use Rattle.seg_columns.proofs.DocumentValues.{has_default}
use Rattle.seg_columns.proofs.first_or_default.ColumnFirstOrDefault.get_val.Goals as goal

pub returns-in-None : goal.returns-in-None
returns-in-None g c =
    let rows = c.self.inside.column in
    let default = c.self.inside.default in
    let same = ap length c.self.view_is in
    has_default default rows c.args.self.now c.args.doc c.self.view_is
    (omega (arith, c.requires, same, length-map rows (first_or default))) (sym c.in-None.ensures)
