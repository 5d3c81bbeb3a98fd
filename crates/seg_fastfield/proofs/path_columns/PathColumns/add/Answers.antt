use Rattle.std.proofs.Common.{refl, sym, ap, ◌∙◌}
use Rattle.seg_common.specs.JsonPaths.{written_key}
use Rattle.seg_model.specs.DocumentCheck.{has_no_zero}
use Rattle.seg_paths.specs.Paths.{below}
use Rattle.seg_paths.proofs.Exports.{number-read}
use Rattle.seg_fastfield.proofs.PathNumbers.{no_more, paths_more}
use Rattle.seg_fastfield.proofs.path_columns.PathColumns.add.Goals as goal

pub returns-then-not-has_no_zero-clause-more : goal.returns-then-not-has_no_zero-clause-more
returns-then-not-has_no_zero-clause-more c = no_more c.args.self.now

pub add_key-requires-clause-key : goal.add_key-requires-clause-key
add_key-requires-clause-key c =
    ap has_no_zero (sym c.as_bytes.ensures.value) ∙ sym c.has_no_zero.ensures ∙ c.if-not-has_no_zero.false

pub returns-clause-more : goal.returns-clause-more
returns-clause-more c = paths_more c.args.self.now _ c.add_key.ensures.extends refl

pub returns-clause-number : goal.returns-clause-number
returns-clause-number c =
    number-read c.add_key.new.self (below c.args.self.now.paths c.args.above
    (written_key c.args.expand_dots c.args.key.now)) c.in-Ok.number c.in-Ok.ensures.number
