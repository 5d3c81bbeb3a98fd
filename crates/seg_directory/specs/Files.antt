-- The files of a directory: their bytes by their names.
use Rattle.std.specs.Coded.{Coded, coded_ℕ, coded_list}
use Rattle.std.specs.FinMap as map
use Rattle.seg_common.specs.FileNameKeys.{name_cmp, coded_name}
use Rattle.seg_directory.specs.Disk.{Files}

-- files by the names of an index
abbrev pub NamedFiles : Type 0
NamedFiles = Files name_cmp

-- such files can be told apart
abbrev pub files_code : Coded NamedFiles
files_code = map.code coded_name (coded_list coded_ℕ)
