-- One more call of a directory in memory.
use Rattle.std.proofs.Common.{◌≡◌, ◌≤◌, ℕ, List, [], ◌∷◌, ◌++◌, length, append_assoc, refl, sym, ap, ◌∙◌, arith, length-append}
use Rattle.std.proofs.lemmas.List.{append-nil}
use Rattle.std.specs.FinMap.{insert}
use Rattle.seg_directory.specs.Disk.{PendingChange}
use Rattle.seg_directory.specs.FileDisks.{NamedFiles, FileDisk}
use Rattle.seg_common.specs.declared.name.FileName.{FileName}
use Rattle.seg_directory.specs.DiskCalls.{latest, latest_over, bytes_left, after_call, during_call, disk_after, past_of, no_files, latest_files}
use Rattle.seg_directory.specs.declared.disk_call.DiskCall.{DiskCall}
use Rattle.seg_directory.specs.declared.disk_call.DiskCall.TheVariants.{Unchanged, Created, Replaced, Synced}

pub disk_step : (disk : FileDisk) (cs : List DiskCall) (c : DiskCall) → disk_after disk (cs ++ c ∷ []) ≡ after_call (disk_after disk cs) c
disk_step disk [] c = refl
disk_step disk (d ∷ cs) c = disk_step (after_call disk d) cs c

pub past_step : (disk : FileDisk) (cs : List DiskCall) (c : DiskCall) → past_of disk (cs ++ c ∷ []) ≡ past_of disk cs ++ during_call (disk_after disk cs) c
past_step disk [] c = append-nil (during_call disk c)
past_step disk (d ∷ cs) c = ap (λ ds. during_call disk d ++ ds) (past_step (after_call disk d) cs c) ∙ sym (append_assoc (during_call disk d) _ _)

pub latest_over-append : (files : NamedFiles) (cs : List (PendingChange FileName)) (c : PendingChange FileName)
    → latest_over files (cs ++ c ∷ []) ≡ insert (latest_over files cs) c.name (bytes_left c.written)
latest_over-append files [] c = refl
latest_over-append files (d ∷ cs) c = latest_over-append (insert files d.name (bytes_left d.written)) cs c

pub files_unchanged : (cs : List DiskCall) → latest_files (cs ++ Unchanged ∷ []) ≡ latest_files cs
files_unchanged cs = ap latest (disk_step no_files cs Unchanged)

pub files_synced : (cs : List DiskCall) → latest_files (cs ++ Synced ∷ []) ≡ latest_files cs
files_synced cs = ap latest (disk_step no_files cs Synced)

pub files_created : (cs : List DiskCall) (name : FileName) (bytes : List ℕ) → latest_files (cs ++ Created name bytes ∷ []) ≡ insert (latest_files cs) name bytes
files_created cs name bytes = ap latest (disk_step no_files cs (Created name bytes)) ∙ latest_over-append (disk_after no_files cs).stable (disk_after no_files cs).pending _

pub files_replaced : (cs : List DiskCall) (name : FileName) (bytes : List ℕ) → latest_files (cs ++ Replaced name bytes ∷ []) ≡ insert (latest_files cs) name bytes
files_replaced cs name bytes = ap latest (disk_step no_files cs (Replaced name bytes)) ∙ latest_over-append (disk_after no_files cs).stable (disk_after no_files cs).pending _

pub longer : (n : ℕ) (cs : List DiskCall) (c : DiskCall) → n ≤ length cs → n ≤ length (cs ++ c ∷ [])
longer n cs c le = grind (arith, length-append)
