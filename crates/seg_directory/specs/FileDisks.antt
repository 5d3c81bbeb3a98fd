-- The disk of an index, and what its images are.
use Rattle.std.specs.Prelude.{◌≡◌, ◌⊎◌, ℕ, List, []}
use Rattle.std.specs.FinMap.{insert}
use Rattle.seg_common.specs.FileNameKeys.{name_cmp}
use Rattle.seg_common.specs.declared.name.FileName.{FileName}
use Rattle.seg_directory.specs.Disk.{Disk, IsImage, exactly, torn, with_change}
pub use Rattle.seg_directory.specs.Files.{NamedFiles}

-- a disk of files by the names of an index
abbrev pub FileDisk : Type 0
FileDisk = Disk name_cmp

-- all of these files are safe
abbrev pub settled : NamedFiles → FileDisk
settled files = record { stable = files; pending = [] }

-- each image of the later disk is one of the earlier
abbrev pub IsWithin : FileDisk → FileDisk → Type 0
IsWithin old new = (files : NamedFiles) → IsImage new files → IsImage old files

-- or is these files
abbrev pub IsWithinOr : NamedFiles → FileDisk → FileDisk → Type 0
IsWithinOr saved old new = (files : NamedFiles) → IsImage new files → IsImage old files ⊎ (files ≡ saved)

-- as before, or the file pending as torn
abbrev pub MayTear : FileName → FileDisk → FileDisk → Type 0
MayTear name old new = (new ≡ old) ⊎ (new ≡ with_change old name torn)

-- the file is the old one, or the new one is pending
abbrev pub MayReplace : FileName → List ℕ → FileDisk → FileDisk → Type 0
MayReplace name bytes old new = (new ≡ old) ⊎ (new ≡ with_change old name (exactly bytes))

-- where nothing is pending there is no other image
abbrev pub SettledFilesAreTheOnlyImage : Type 0
SettledFilesAreTheOnlyImage = (safe files : NamedFiles) → IsImage (settled safe) files → files ≡ safe

-- one change of files that are safe leaves them, or the changed ones
abbrev pub SavedFilesAreOneOfTwo : Type 0
SavedFilesAreOneOfTwo =
    (safe files : NamedFiles) (name : FileName) (bytes : List ℕ)
    → IsImage (with_change (settled safe) name (exactly bytes)) files
    → (files ≡ safe) ⊎ (files ≡ insert safe name bytes)
