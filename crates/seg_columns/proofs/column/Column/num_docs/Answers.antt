use Rattle.std.proofs.Common.{◌∙◌, ap, sym, length}
use Rattle.std.proofs.lemmas.List.FromFn.{length-map-range_with_len}
use Rattle.seg_columns.proofs.column.Column.num_docs.Goals as goal

pub returns : goal.returns
returns g c = sym (length-map-range_with_len _ 0 c.self.inside.num_docs) ∙ ap length c.self.view_is
