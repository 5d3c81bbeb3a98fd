-- Laws of the six files of a segment, apart from a directory and in one.
use Rattle.std.specs.Prelude.{ℕ, ◌≡◌}
use Rattle.seg_model.specs.Contents.{Contents}
use Rattle.seg_model.specs.Fields.{Schema}
use Rattle.seg_directory.specs.Files.{NamedFiles}
use Rattle.seg_segment.specs.FileContents.{Holds}
use Rattle.seg_segment.specs.SegmentFiles.{HasFiles}
use Rattle.seg_segment.specs.SpelledContents.{Spell}
use Rattle.seg_segment.specs.declared.segment_files.SegmentFiles.{SegmentFiles}

-- files spell at most one contents for a schema
abbrev pub FilesSpellOneContents : Type 0
FilesSpellOneContents = (schema : Schema) (files : SegmentFiles) (c d : Contents) → Spell schema files c
    → Spell schema files d → c ≡ d

-- the files of an id hold at most one contents for a schema
abbrev pub HoldsOneContents : Type 0
HoldsOneContents = (files : NamedFiles) (id : ℕ) (schema : Schema) (a b : Contents) → Holds files id schema a
    → Holds files id schema b → a ≡ b

-- files that are there spell the contents that they hold
abbrev pub HeldFilesSpell : Type 0
HeldFilesSpell =
    (directory : NamedFiles) (id : ℕ) (schema : Schema) (files : SegmentFiles) (contents : Contents)
    → HasFiles directory id files → Holds directory id schema contents → Spell schema files contents
