-- What a call makes of the disk, during the call and after it.
use Rattle.std.specs.Prelude.{◌≡◌, IsTrue}
use Rattle.seg_directory.specs.Call.{Call, listed, read, made, replaced, synced}
use Rattle.seg_directory.specs.Disk.{IsImage, exactly, with_change}
use Rattle.seg_directory.specs.FileDisks.{FileDisk, IsWithin, MayReplace, MayTear, settled}
use Rattle.seg_directory.specs.Files.{NamedFiles}
use Rattle.seg_directory.specs.DirectoryStates.{DirectoryState, DiskState, Passes}
use Rattle.seg_directory.specs.declared.error.DirectoryError.{DirectoryError}
use Rattle.seg_directory.specs.declared.error.DirectoryError.TheVariants.{Exists}

-- each disk on the way is so, and the last one, where the disk is told, so
pub record Turns (OnTheWay AtTheEnd : FileDisk → Type 0) (old new : DiskState) : Type 0 where
  pub during : Passes OnTheWay old new
  pub after : IsTrue old.told → AtTheEnd new.now

-- no image changes
abbrev pub KeepsDisk : DiskState → DiskState → Type 0
KeepsDisk old new = Turns (λ d. d ≡ old.now) (λ d. d ≡ old.now) old new

-- a call that goes well: a file that is made is pending, torn before its bytes are all there; one that is replaced is
-- pending; and a syncing makes all files safe as they are read
abbrev pub DiskGoes : Call → NamedFiles → DiskState → DiskState → Type 0
DiskGoes (listed n) files old new = KeepsDisk old new
DiskGoes (read name bytes) files old new = KeepsDisk old new
DiskGoes (made name bytes) files old new = Turns (MayTear name old.now)
    (λ d. d ≡ with_change old.now name (exactly bytes)) old new
DiskGoes (replaced name bytes) files old new = Turns (MayReplace name bytes old.now)
    (λ d. d ≡ with_change old.now name (exactly bytes)) old new
DiskGoes synced files old new = Turns (IsWithin old.now) (λ d. IsWithin old.now d × (d ≡ settled files)) old new

-- a call that fails
abbrev pub DiskFails : Call → DirectoryError → DiskState → DiskState → Type 0
DiskFails (made name bytes) Exists old new = KeepsDisk old new
DiskFails (made name bytes) e old new = Turns (MayTear name old.now) (MayTear name old.now) old new
DiskFails (replaced name bytes) e old new = Turns (MayReplace name bytes old.now)
    (MayReplace name bytes old.now) old new
DiskFails synced e old new = Turns (IsWithin old.now) (IsWithin old.now) old new
DiskFails call e old new = KeepsDisk old new

-- where the disk is told the files are told, and are one of its images
pub record ReadsAnImage (s : DirectoryState) : Type 0 where
  pub tells : IsTrue s.tells
  pub image : IsImage s.disk.now s.files
