-- What a directory has and has answered, and its disk at each moment.
use Rattle.std.specs.Prelude.{ℕ, ◌≡◌, ◌⊎◌, List, [], ◌∷◌, ◌++◌, Bool, false, IsTrue, drop, length}
use Rattle.std.specs.FinMap.{empty}
use Rattle.std.specs.List.{AllByRecursion}
use Rattle.seg_directory.specs.Disk.{IsImage}
use Rattle.seg_directory.specs.FileDisks.{FileDisk, settled}
use Rattle.seg_directory.specs.Files.{NamedFiles}
use Rattle.seg_directory.specs.declared.answer.Answer.{Answer}

-- whether the disk is told; the disk now, and at each earlier moment
pub record DiskState : Type 0 where
  pub told : Bool
  pub now : FileDisk
  pub past : List FileDisk

-- a disk of which nothing is told
abbrev pub untold : DiskState
untold = record { told = false; now = settled empty; past = [] }

-- whether it tells its files, these where it does, its answers, how many calls failed, at most the last u64, its disk
pub record DirectoryState : Type 0 where
  pub tells : Bool
  pub files : NamedFiles
  pub seen : List Answer
  pub faults : ℕ
  pub disk : DiskState

-- the disk is told, nothing is on it, and nothing is pending
pub record IsEmptyDisk (s : DiskState) : Type 0 where
  pub told : IsTrue s.told
  pub none : s.now ≡ settled empty

-- ---- what a crash may leave

-- the moment that is now
abbrev pub clock : DiskState → ℕ
clock s = length s.past

-- the files are an image of one of the disks
abbrev pub IsImageOfSome : List FileDisk → NamedFiles → Type 0
IsImageOfSome [] files = ⊥
IsImageOfSome (disk ∷ disks) files = IsImage disk files ⊎ IsImageOfSome disks files

-- a crash at some moment since that time may have left these files
abbrev pub MayHaveLeft : DiskState → ℕ → NamedFiles → Type 0
MayHaveLeft s time files = IsImageOfSome (drop time (s.past ++ s.now ∷ [])) files

-- ---- from an earlier moment to a later one

-- each disk before the later moment is so
pub record Passes (IsSo : FileDisk → Type 0) (old new : DiskState) : Type 0 where
  pub told : new.told ≡ old.told
  pub moments : List FileDisk
  pub grows : new.past ≡ old.past ++ moments
  pub each : AllByRecursion IsSo moments

-- each image of a disk is so
abbrev pub HasOnly : (NamedFiles → Type 0) → FileDisk → Type 0
HasOnly IsSo disk = (files : NamedFiles) → IsImage disk files → IsSo files

-- a crash at any moment from the earlier to the later one, both included, leaves files that are so
pub record LeavesOnly (IsSo : NamedFiles → Type 0) (old new : DiskState) : Type 0 where
  pub since : (files : NamedFiles) → MayHaveLeft new (clock old) files → IsSo files
  -- for a run that goes on
  pub during : Passes (HasOnly IsSo) old new
  pub after : HasOnly IsSo new.now
