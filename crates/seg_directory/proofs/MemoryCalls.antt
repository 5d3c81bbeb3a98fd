-- What a call of a directory in memory comes to.
use Rattle.std.proofs.Common.{◌≡◌, ◌≤◌, inl, [], ◌++◌, Result, Err, IsErrAnd, refl, sym, ap, subst, ◌∙◌}
use Rattle.std.proofs.lemmas.List.{append-nil}
use Rattle.std.proofs.lemmas.Result.{err_from_is_err_and}
use Rattle.std.specs.FinMap.{get}
use Rattle.std.proofs.Math.Nat.{le_refl}
use Rattle.seg_common.specs.FaultCounts.{Rose}
use Rattle.seg_common.specs.declared.name.FileName.{FileName}
use Rattle.seg_directory.specs.CallRecord.{Calls}
use Rattle.seg_directory.specs.Calls.{Call, CanFail, Fails, Goes, Keeps, Leaves, Refuses, Suits, listed, made, read, replaced, synced, told_failing}
use Rattle.seg_directory.specs.Disk.{IsImage}
use Rattle.seg_directory.specs.DiskCalls.{DiskCalls, latest_files, with_disk_call}
use Rattle.seg_directory.specs.DiskChanges.{DiskFails, KeepsDisk, Turns}
use Rattle.seg_directory.specs.FileDisks.{FileDisk, IsWithin, MayTear, NamedFiles}
use Rattle.seg_directory.specs.MemoryDirectories.{MemoryState, files_of, memory_state, memory_went, told_disk}
use Rattle.seg_directory.specs.LatestFiles.{reads_an_image}
use Rattle.seg_directory.specs.DirectoryStates.{DiskState}
use Rattle.seg_directory.specs.declared.disk_call.DiskCall.TheVariants.{Unchanged}
use Rattle.seg_directory.specs.declared.error.DirectoryError.{DirectoryError}
use Rattle.seg_directory.specs.declared.error.DirectoryError.TheVariants.{Missing, Exists, Fault, OutOfMemory}
use Rattle.seg_directory.proofs.CallDisks as exits
use Rattle.seg_directory.proofs.CallMoments.{passes_weaker, started}
use Rattle.seg_directory.proofs.OtherFiles.{keeps_others}
use Rattle.seg_directory.proofs.MemorySteps.{files_created, files_replaced, files_synced, files_unchanged}

-- an answer that is out of memory
pub starved_answer : {T : Type 0} (r : Result T DirectoryError) → IsErrAnd r (λ e. e ≡ OutOfMemory) → r ≡ Err OutOfMemory
starved_answer r is = let err = err_from_is_err_and r is in err.1 ∙ ap (λ x. Err x) err.2

stays : (call : Call) (e : DirectoryError) (files : NamedFiles) → Leaves call e files files
stays (listed n) e files = refl
stays (read name bytes) e files = refl
stays (made name bytes) Missing files = inl refl
stays (made name bytes) Exists files = refl
stays (made name bytes) Fault files = inl refl
stays (made name bytes) OutOfMemory files = inl refl
stays (replaced name bytes) e files = inl refl
stays synced e files = refl

as_it_was : (call : Call) (files : NamedFiles) → Keeps call files files
as_it_was (listed n) files = refl
as_it_was (read name bytes) files = refl
as_it_was (made name bytes) files = λ other apart. refl
as_it_was (replaced name bytes) files = λ other apart. refl
as_it_was synced files = refl

may_tear : (name : FileName) (old new : DiskState) → KeepsDisk old new → Turns (MayTear name old.now) (MayTear name old.now) old new
may_tear name old new keeps = record { during = passes_weaker (λ d is. inl is) keeps.during; after = λ told. inl (keeps.after told) }

within : (old : FileDisk) (d : FileDisk) → d ≡ old → IsWithin old d
within old d is files image = subst (λ x. IsImage x files) is image

-- where no image changes a failing call has left what it may
unmoved : (call : Call) (e : DirectoryError) (old new : DiskState) → KeepsDisk old new → DiskFails call e old new
unmoved (listed n) e old new keeps = keeps
unmoved (read name bytes) e old new keeps = keeps
unmoved (made name bytes) Missing old new keeps = may_tear name old new keeps
unmoved (made name bytes) Exists old new keeps = keeps
unmoved (made name bytes) Fault old new keeps = may_tear name old new keeps
unmoved (made name bytes) OutOfMemory old new keeps = may_tear name old new keeps
unmoved (replaced name bytes) e old new keeps =
    record { during = passes_weaker (λ d is. inl is) keeps.during; after = λ told. inl (keeps.after told) }
unmoved synced e old new keeps =
    record { during = passes_weaker (λ d is. within old.now d is) keeps.during; after = λ told. within old.now new.now (keeps.after told) }

module _ (s : MemoryState) where
  pub goes : (call : Call) → Suits call (files_of s) → Goes call (memory_state s) (memory_state (memory_went call s))
  goes (listed n) suits = record {
    suits = λ _. suits;
    files = λ _. files_unchanged s.disk.calls;
    others = files_unchanged s.disk.calls;
    tells = refl;
    seen = refl;
    later = le_refl s.calls.faults;
    disk = exits.kept_unchanged s.disk;
    reads = reads_an_image (memory_went (listed n) s);
  }
  goes (read name bytes) suits = record {
    suits = λ _. suits;
    files = λ _. files_unchanged s.disk.calls;
    others = files_unchanged s.disk.calls;
    tells = refl;
    seen = refl;
    later = le_refl s.calls.faults;
    disk = exits.kept_unchanged s.disk;
    reads = reads_an_image (memory_went (read name bytes) s);
  }
  goes (made name bytes) suits = record {
    suits = λ _. suits;
    files = λ _. files_created s.disk.calls name bytes;
    others = λ other apart. ap (λ files. get files other) (files_created s.disk.calls name bytes) ∙ keeps_others (files_of s) name bytes other apart;
    tells = refl;
    seen = refl;
    later = le_refl s.calls.faults;
    disk = exits.created s.disk name bytes;
    reads = reads_an_image (memory_went (made name bytes) s);
  }
  goes (replaced name bytes) suits = record {
    suits = λ _. suits;
    files = λ _. files_replaced s.disk.calls name bytes;
    others = λ other apart. ap (λ files. get files other) (files_replaced s.disk.calls name bytes) ∙ keeps_others (files_of s) name bytes other apart;
    tells = refl;
    seen = refl;
    later = le_refl s.calls.faults;
    disk = exits.replaced s.disk name bytes;
    reads = reads_an_image (memory_went (replaced name bytes) s);
  }
  goes synced suits = record {
    suits = λ _. suits;
    files = λ _. files_synced s.disk.calls;
    others = files_synced s.disk.calls;
    tells = refl;
    seen = refl;
    later = le_refl s.calls.faults;
    disk = exits.synced s.disk;
    reads = reads_an_image (memory_went synced s);
  }

  -- a call that fails and changes nothing
  module _ (kept : DiskCalls) (calls : Calls) (same : latest_files kept.calls ≡ latest_files s.disk.calls) (keeps : KeepsDisk (told_disk s.disk) (told_disk kept)) where
    abbrev after : MemoryState
    after = record { disk = kept; calls = calls }

    pub fails : (call : Call) (e : DirectoryError) → CanFail call e → Refuses call e (files_of s)
        → calls.answers ≡ s.calls.answers ++ told_failing call e → s.calls.faults ≤ calls.faults → (e ≡ Fault → Rose s.calls.faults calls.faults)
        → Fails call e (memory_state s) (memory_state after)
    fails call e possible refuses seen later rose = record {
      possible = possible;
      refuses = λ _. refuses;
      leaves = λ _. subst (λ files. Leaves call e (files_of s) files) (sym same) (stays call e (files_of s));
      others = subst (λ files. Keeps call (files_of s) files) (sym same) (as_it_was call (files_of s));
      tells = refl;
      seen = seen;
      later = later;
      rose = rose;
      disk = unmoved call e _ _ keeps;
      reads = reads_an_image after;
    }

  pub unchanged : (calls : Calls) (call : Call) (e : DirectoryError) → CanFail call e → Refuses call e (files_of s)
      → calls.answers ≡ s.calls.answers ++ told_failing call e → s.calls.faults ≤ calls.faults → (e ≡ Fault → Rose s.calls.faults calls.faults)
      → Fails call e (memory_state s) (memory_state (record { disk = with_disk_call s.disk Unchanged; calls = calls }))
  unchanged calls = fails (with_disk_call s.disk Unchanged) calls (files_unchanged s.disk.calls) (exits.kept_unchanged s.disk)

  pub starved : (call : Call) → CanFail call OutOfMemory → Refuses call OutOfMemory (files_of s) → told_failing call OutOfMemory ≡ []
      → Fails call OutOfMemory (memory_state s) (memory_state s)
  starved call possible refuses none =
      fails s.disk s.calls refl (record { during = started (told_disk s.disk); after = λ _. refl }) call OutOfMemory possible refuses
      (sym (append-nil s.calls.answers) ∙ ap (λ ns. s.calls.answers ++ ns) (sym none)) (le_refl s.calls.faults) (λ e. absurd (cc e))
