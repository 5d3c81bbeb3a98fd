-- The forms of the files of an index, as they are written here.
use Rattle.seg_common.specs.FileNameKeys.{name_cmp}
use Rattle.seg_common.specs.declared.name.FileName.TheVariants.{Meta}
use Rattle.seg_meta.specs.IndexOfFiles.{Forms}
use Rattle.seg_meta.specs.ParsedMeta.{meta_read}
use Rattle.seg_segment.specs.FileContents.{Holds}
use Rattle.seg_segment.specs.AliveFiles.{HoldsAlive}

-- the meta's name and text, the six files of a segment, and its alive file
abbrev pub segment_forms : Forms name_cmp
segment_forms = record { meta_name = Meta; meta_of = meta_read; Holds = Holds; HoldsAlive = HoldsAlive }
