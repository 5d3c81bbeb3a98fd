-- What is seen of a directory in memory, and what a call makes of it.
use Rattle.std.specs.Prelude.{List, [], Result, Ok, Err, true, ⊤}
use Rattle.seg_directory.specs.CallRecord.{Calls, none_yet, IsToFail, with_answers, with_failure}
use Rattle.seg_directory.specs.Calls.{Call, listed, read, made, replaced, synced, kind_of, told, told_failing}
use Rattle.seg_directory.specs.DiskCalls.{DiskCalls, disk_after, latest_files, no_files, past_of, with_disk_call}
use Rattle.seg_directory.specs.Files.{NamedFiles}
use Rattle.seg_directory.specs.DirectoryStates.{DirectoryState, DiskState}
use Rattle.seg_directory.specs.declared.disk_call.DiskCall.{DiskCall}
use Rattle.seg_directory.specs.declared.disk_call.DiskCall.TheVariants.{Unchanged, Created, Replaced, Synced}
use Rattle.seg_directory.specs.declared.answer.CallKind.{CallKind}
use Rattle.seg_directory.specs.declared.error.DirectoryError.{DirectoryError}
use Rattle.seg_directory.specs.declared.error.DirectoryError.TheVariants.{Missing, Exists, Fault, OutOfMemory}
use Rattle.seg_directory.specs.declared.failing_call.FailingCall.{FailingCall}

-- what changed the files, and the calls so far
pub record MemoryState : Type 0 where
  pub disk : DiskCalls
  pub calls : Calls

-- no file and no call yet
abbrev pub new_memory : List FailingCall → MemoryState
new_memory fails = record { disk = record { calls = []; before = 0 }; calls = none_yet fails }

-- its files: of each name the latest
abbrev pub files_of : MemoryState → NamedFiles
files_of s = latest_files s.disk.calls

-- its disk is told
abbrev pub told_disk : DiskCalls → DiskState
told_disk kept = record { told = true; now = disk_after no_files kept.calls; past = past_of no_files kept.calls }

-- what is seen of it as a directory
abbrev pub memory_state : MemoryState → DirectoryState
memory_state s = record {
  tells = true;
  files = files_of s;
  seen = s.calls.answers;
  faults = s.calls.faults;
  disk = told_disk s.disk;
}

-- a call fails exactly where it is one of those that fail, but for one that is out of memory
abbrev pub FailsAsListed : {T : Type 0} → MemoryState → CallKind → Result T DirectoryError → Type 0
FailsAsListed s kind (Ok _) = ¬ (IsToFail s.calls kind)
FailsAsListed s kind (Err Missing) = ¬ (IsToFail s.calls kind)
FailsAsListed s kind (Err Exists) = ¬ (IsToFail s.calls kind)
FailsAsListed s kind (Err Fault) = IsToFail s.calls kind
FailsAsListed s kind (Err OutOfMemory) = ⊤

-- a call, as far as it changes the disk
abbrev pub change_of : Call → DiskCall
change_of (listed n) = Unchanged
change_of (read name bytes) = Unchanged
change_of (made name bytes) = Created name bytes
change_of (replaced name bytes) = Replaced name bytes
change_of synced = Synced

-- what a call that goes well makes of it
abbrev pub memory_went : Call → MemoryState → MemoryState
memory_went call s =
    record { disk = with_disk_call s.disk (change_of call); calls = with_answers s.calls (kind_of call) (told call) }

-- what a failing call makes of it: one that is out of memory changes nothing
abbrev pub memory_failed : Call → DirectoryError → MemoryState → MemoryState
memory_failed call Missing s = record {
  disk = with_disk_call s.disk Unchanged;
  calls = with_answers s.calls (kind_of call) (told_failing call Missing);
}
memory_failed call Exists s = record {
  disk = with_disk_call s.disk Unchanged;
  calls = with_answers s.calls (kind_of call) (told_failing call Exists);
}
memory_failed call Fault s = record {
  disk = with_disk_call s.disk Unchanged;
  calls = with_failure s.calls (kind_of call) (told_failing call Fault);
}
memory_failed call OutOfMemory s = s

-- what a call makes of it, by its answer at Ok and else by the call itself
abbrev pub memory_after : {T : Type 0} → (T → Call) → Call → Result T DirectoryError → MemoryState → MemoryState
memory_after answered call (Ok x) s = memory_went (answered x) s
memory_after answered call (Err e) s = memory_failed call e s
