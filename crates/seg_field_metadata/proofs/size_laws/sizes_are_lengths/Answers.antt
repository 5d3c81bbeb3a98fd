use Rattle.seg_field_metadata.proofs.FileLengths.{readers_say_files}
use Rattle.seg_field_metadata.proofs.FieldLengths.{field_says_lengths, paths_make_up, sizes_are}
use Rattle.seg_field_metadata.proofs.size_laws.sizes_are_lengths.Goals as goal

pub returns-clause-sizes : goal.returns-clause-sizes
returns-clause-sizes c = sizes_are

pub returns-clause-fields : goal.returns-clause-fields
returns-clause-fields c = field_says_lengths

pub returns-clause-paths : goal.returns-clause-paths
returns-clause-paths c = paths_make_up

pub returns-clause-files : goal.returns-clause-files
returns-clause-files c = readers_say_files
