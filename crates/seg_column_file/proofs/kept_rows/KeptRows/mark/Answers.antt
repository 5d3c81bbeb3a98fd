use Rattle.std.proofs.Common.{Bool, true, refl}
use Rattle.std.specs.Prelude.{Vec}
use Rattle.std.specs.Vec.{with_item}
use Rattle.std.specs.declared.alloc.Global.{Global}
use Rattle.seg_column_file.proofs.KeptMarks.{view_marked}
use Rattle.seg_column_file.proofs.kept_rows.KeptRows.mark.Goals as goal

pub returns : goal.returns
returns c =
    let marks = c.index_mut-marks.result.now in
    view_marked {V = Vec Bool Global} (λ m. m.items) c.self.inside.files.items c.args.self.now c.args.file c.args.row
    true marks (with_item marks c.args.row true) c.self.view_is c.requires c.index_mut-marks.ensures.value refl
