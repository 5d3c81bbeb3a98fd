-- The disk of a directory in memory, call by call.
use Rattle.std.specs.Prelude.{ℕ, List, [], ◌∷◌, ◌++◌, ◌+◌, ◌-◌, length, take}
use Rattle.std.proofs.Common.{cond}
use Rattle.std.specs.FinMap.{insert, empty}
use Rattle.std.specs.Ordering.{eq_by_cmp}
use Rattle.seg_directory.specs.Disk.{Written, exactly, torn, PendingChange, with_change}
use Rattle.seg_directory.specs.FileDisks.{NamedFiles, FileDisk, settled}
use Rattle.seg_common.specs.FileNameKeys.{name_cmp}
use Rattle.seg_common.specs.declared.name.FileName.{FileName}
use Rattle.seg_directory.specs.declared.disk_call.DiskCall.{DiskCall}
use Rattle.seg_directory.specs.declared.disk_call.Pick.{Pick}
use Rattle.seg_directory.specs.declared.disk_call.Pick.TheVariants.{Stable, Latest}
use Rattle.seg_directory.specs.declared.disk_call.DiskCall.TheVariants.{Put, Unchanged, Created, Replaced, Synced}

-- what a change leaves at the latest: a torn file is there and empty
abbrev pub bytes_left : Written → List ℕ
bytes_left (exactly bytes) = bytes
bytes_left torn = []

-- files with changes on top
abbrev pub latest_over : NamedFiles → List (PendingChange FileName) → NamedFiles
latest_over files [] = files
latest_over files (c ∷ cs) = latest_over (insert files c.name (bytes_left c.written)) cs

-- each name in its latest state
abbrev pub latest : FileDisk → NamedFiles
latest disk = latest_over disk.stable disk.pending

-- the changes of all other names
abbrev pub without : FileName → List (PendingChange FileName) → List (PendingChange FileName)
without name [] = []
without name (c ∷ cs) = cond (eq_by_cmp name_cmp name c.name) (without name cs) (c ∷ without name cs)

-- the disk after a call
abbrev pub after_call : FileDisk → DiskCall → FileDisk
after_call disk (Put name bytes) =
    record { stable = insert disk.stable name bytes; pending = without name disk.pending }
after_call disk Unchanged = disk
after_call disk (Created name bytes) = with_change disk name (exactly bytes)
after_call disk (Replaced name bytes) = with_change disk name (exactly bytes)
after_call disk Synced = settled (latest disk)

-- the disk at each moment from before a call until it ends
abbrev pub during_call : FileDisk → DiskCall → List FileDisk
during_call disk (Created name bytes) = disk ∷ with_change disk name torn ∷ []
during_call disk (Put name bytes) = disk ∷ []
during_call disk Unchanged = disk ∷ []
during_call disk (Replaced name bytes) = disk ∷ []
during_call disk Synced = disk ∷ []

-- the disk after calls
abbrev pub disk_after : FileDisk → List DiskCall → FileDisk
disk_after disk [] = disk
disk_after disk (c ∷ cs) = disk_after (after_call disk c) cs

-- the disk at each moment of calls
abbrev pub past_of : FileDisk → List DiskCall → List FileDisk
past_of disk [] = []
past_of disk (c ∷ cs) = during_call disk c ++ past_of (after_call disk c) cs

-- at first there is no file
abbrev pub no_files : FileDisk
no_files = settled empty

-- the files that are read after calls: of each name the latest
abbrev pub latest_files : List DiskCall → NamedFiles
latest_files calls = latest (disk_after no_files calls)

-- the calls from the first on, and how many of them came before the record began
pub record DiskCalls : Type 0 where
  pub calls : List DiskCall
  pub before : ℕ

-- the calls, and for how many more there is room
pub record DiskRecordState : Type 0 where
  pub kept : DiskCalls
  pub room : ℕ

-- one more call
abbrev pub with_disk_call : DiskCalls → DiskCall → DiskCalls
with_disk_call kept call = record kept { calls = kept.calls ++ call ∷ [] }

-- how many calls there are in the record
abbrev pub calls_of : DiskCalls → ℕ
calls_of kept = length kept.calls - kept.before

-- the disk after this many of them
abbrev pub disk_at : DiskCalls → ℕ → FileDisk
disk_at kept number = disk_after no_files (take (kept.before + number) kept.calls)

-- each name in its stable state, or in its latest
abbrev pub picked : Pick → FileDisk → NamedFiles
picked Stable disk = disk.stable
picked Latest disk = latest disk

-- a file is set for a test: the record begins anew
abbrev pub with_put : DiskCalls → FileName → List ℕ → DiskCalls
with_put kept name bytes = record { calls = kept.calls ++ Put name bytes ∷ []; before = length kept.calls + 1 }
