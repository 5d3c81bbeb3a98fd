use Rattle.std.proofs.Common.{ap, ◌∙◌, rules}
use Rattle.std.specs.FinMap.{insert}
use Rattle.seg_directory.proofs.FileEntries.{one_written}
use Rattle.seg_directory.proofs.stored_files.StoredFiles.put.Goals as goal

pub returns-clause-set : goal.returns-clause-set
returns-clause-set c =
    one_written c.self.inside.by_name.entries c.insert.new.self.entries c.args.name c.args.bytes (search rules)
    ∙ ap (λ files. insert files c.args.name c.args.bytes) c.self.view_is
