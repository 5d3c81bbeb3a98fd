use Rattle.std.proofs.Common.{sym, ◌∙◌}
use Rattle.seg_column_writer.proofs.NamedColumns.{place-new}
use Rattle.seg_column_writer.proofs.known_columns.KnownColumns.add.Goals as goal

pub returns-clause-place : goal.returns-clause-place
returns-clause-place c =
    c.len-place.ensures.len ∙ sym (place-new _ c.args.self.now.names.keys c.requires)
