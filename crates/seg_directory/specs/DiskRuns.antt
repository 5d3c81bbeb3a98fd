-- What runs of calls leave on the disk.
use Rattle.std.specs.Prelude.{◌≡◌, List, ℕ, Option}
use Rattle.seg_common.specs.declared.name.FileName.{FileName}
use Rattle.seg_directory.specs.Disk.{may_hold}
use Rattle.seg_directory.specs.FileDisks.{FileDisk, NamedFiles, IsWithinOr}
use Rattle.seg_directory.specs.DirectoryStates.{DiskState, Passes}

-- during the saving of files and after it, each image is one from before it, or these files
pub record SavesOnDisk (saved : NamedFiles) (old new : DiskState) : Type 0 where
  pub during : Passes (IsWithinOr saved old.now) old new
  pub after : IsWithinOr saved old.now new.now

-- each such name may be as it might before
abbrev pub IsSameAt : (FileName → Type 0) → FileDisk → FileDisk → Type 0
IsSameAt IsSo old new = (name : FileName) (state : Option (List ℕ)) → IsSo name
    → may_hold new name state ≡ may_hold old name state

-- during a run and after it, a crash leaves each such name as it might before
pub record KeepsOnDisk (IsSo : FileName → Type 0) (old new : DiskState) : Type 0 where
  pub during : Passes (IsSameAt IsSo old.now) old new
  pub after : IsSameAt IsSo old.now new.now
