use Rattle.seg_common.specs.JsonPaths.{written_key}
use Rattle.seg_fastfield.proofs.PathNumbers.{below_numbered, no_more}
use Rattle.seg_fastfield.proofs.path_columns.PathColumns.key_number.Goals as goal

pub returns-in_default-clause-more : goal.returns-in_default-clause-more
returns-in_default-clause-more c = no_more c.args.self.now

pub returns-clause-number : goal.returns-clause-number
returns-clause-number c path is =
    below_numbered c.args.self.now.paths c.add.new.self.paths c.args.above _
    (written_key c.args.expand_dots c.args.key.now) path c.add.result c.in-Some.is is c.add.ensures.number
