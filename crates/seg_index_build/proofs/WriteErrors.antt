-- With which errors steps end that write files, with tests between them.
use Rattle.std.proofs.Common.{◌≡◌, ◌≤◌, ℕ, List, [], ◌∷◌, ◌++◌, Err, Option, Some, None, refl, sym, subst, inl, inr}
use Rattle.std.specs.Prelude.{◌⊎◌}
use Rattle.std.specs.List.{AllByRecursion}
use Rattle.seg_common.specs.FaultCounts.{Rose}
use Rattle.seg_values.specs.declared.error.TantivyError.{TantivyError}
use Rattle.seg_values.specs.declared.error.TantivyError.TheVariants.{SchemaError, InvalidArgument, IndexAlreadyExists, OpenReadError, OpenWriteError, IoError, DataCorruption, SystemError, FieldNotFound, OutOfMemory}
use Rattle.seg_directory.specs.Calls.{Call, listed, read, made, replaced, synced, kind_of, CanFail}
use Rattle.seg_directory.specs.StepSequences.{GoesOn}
use Rattle.seg_directory.specs.Errors.{error_of, name_of}
use Rattle.seg_directory.specs.DirectoryStates.{DirectoryState}
use Rattle.seg_directory.specs.DirectorySteps.{Step, calls, passes, StepGoes, StepBreaks, CallBreaks, failed, has_files, Works}
use Rattle.seg_directory.specs.declared.error.DirectoryError.{DirectoryError}
use Rattle.seg_directory.specs.declared.error.DirectoryError.TheVariants as directory
use Rattle.seg_meta.specs.IndexOfFiles as index
use Rattle.seg_meta.specs.IndexOfFiles.{Deletes}
use Rattle.seg_segment.specs.declared.segment_files.SegmentFiles.{SegmentFiles}
use Rattle.seg_open.specs.OpeningSteps.{IsNoDamage}
use Rattle.seg_batches.specs.AliveFiles.{alive_step, alive_steps}
use Rattle.seg_batches.specs.WrittenSegments.{WrittenSegment, deletes_of}
use Rattle.seg_batches.specs.BatchWriteSteps.{batches_steps}
use Rattle.seg_batches.proofs.Exports.{TellsRefusal}
use Rattle.seg_model.specs.Refusals.{IfRefusal, IsRefusal}
use Rattle.seg_segment.proofs.Exports.{rose_before}
use Rattle.seg_index_build.specs.WorkIndexSteps.{finish_steps}

-- ---- one call

-- an error of a call that reads no file: a fault, which was counted, a file that is there, or no memory
abbrev pub IsWriteError : TantivyError → ℕ → ℕ → Type 0
IsWriteError IndexAlreadyExists before now = Unit {0}
IsWriteError OutOfMemory before now = Unit {0}
IsWriteError OpenReadError before now = Rose before now
IsWriteError OpenWriteError before now = Rose before now
IsWriteError IoError before now = Rose before now
IsWriteError _ before now = ⊥

-- it reads no file
abbrev pub IsWrite : Call → Type 0
IsWrite (read name bytes) = ⊥
IsWrite _ = Unit {0}

error_so : (call : Call) (d : DirectoryError) (m n : ℕ) → IsWrite call → CanFail call d
    → (d ≡ directory.Fault → Rose m n) → IsWriteError (error_of (kind_of call) (name_of call) d) m n
error_so (read name bytes) d m n write can rose = absurd write
error_so (listed k) directory.Fault m n write can rose = rose refl
error_so (made name bytes) directory.Fault m n write can rose = rose refl
error_so (replaced name bytes) directory.Fault m n write can rose = rose refl
error_so synced directory.Fault m n write can rose = rose refl
error_so (listed k) directory.OutOfMemory m n write can rose = tt
error_so (made name bytes) directory.OutOfMemory m n write can rose = tt
error_so (replaced name bytes) directory.OutOfMemory m n write can rose = tt
error_so synced directory.OutOfMemory m n write can rose = tt
error_so (made name bytes) directory.Exists m n write can rose = tt
error_so (listed k) directory.Exists m n write can rose = absurd can
error_so (replaced name bytes) directory.Exists m n write can rose = absurd can
error_so synced directory.Exists m n write can rose = absurd can
error_so (listed k) directory.Missing m n write can rose = absurd can
error_so (made name bytes) directory.Missing m n write can rose = absurd can
error_so (replaced name bytes) directory.Missing m n write can rose = absurd can
error_so synced directory.Missing m n write can rose = absurd can

call_so : (call : Call) (e : TantivyError) (a b : DirectoryState) → IsWrite call → CallBreaks call e a b
    → IsWriteError e a.faults b.faults
call_so call e a b write (failed d is fails) =
    subst (λ (x : TantivyError). IsWriteError x a.faults b.faults) (sym is)
    (error_so call d a.faults b.faults write fails.possible fails.rose)
call_so call e a b write (has_files n is some error goes) =
    subst (λ (x : TantivyError). IsWriteError x a.faults b.faults) (sym error) tt

-- and as long as no count of faults fell before
pub so_before : (e : TantivyError) (l m n : ℕ) → l ≤ m → IsWriteError e m n → IsWriteError e l n
so_before IndexAlreadyExists l m n le so = tt
so_before OutOfMemory l m n le so = tt
so_before OpenReadError l m n le so = rose_before l m n le so
so_before OpenWriteError l m n le so = rose_before l m n le so
so_before IoError l m n le so = rose_before l m n le so
so_before (SchemaError cause) l m n le so = absurd so
so_before (InvalidArgument cause) l m n le so = absurd so
so_before (DataCorruption name) l m n le so = absurd so
so_before SystemError l m n le so = absurd so
so_before FieldNotFound l m n le so = absurd so

-- ---- steps

-- no file is read, and a test tells such errors alone
abbrev pub OnlyWrites : (TantivyError → Type 0) → List Step → Type 0
OnlyWrites P [] = Unit {0}
OnlyWrites P (calls call ∷ steps) = IsWrite call × OnlyWrites P steps
OnlyWrites P (passes refusal ∷ steps) = ((e : TantivyError) → refusal ≡ Some e → P e) × OnlyWrites P steps

starved_so : (e : TantivyError) (m n : ℕ) → e ≡ OutOfMemory → IsWriteError e m n
starved_so e m n is = subst (λ (x : TantivyError). IsWriteError x m n) (sym is) tt

on_so : (T : Type 0) (P : TantivyError → Type 0) (steps : List Step) (e : TantivyError) (a b : DirectoryState)
    → OnlyWrites P steps
    → GoesOn {T = T} StepGoes StepBreaks OutOfMemory steps (Err e) a b → IsWriteError e a.faults b.faults ⊎ P e
on_so T P [] e a b only on = inl (starved_so e a.faults b.faults on.1)
on_so T P (calls call ∷ steps) e a b (write, only) (inl w) = elim (on_so T P steps e w.0 b only w.2) [
  | inl so ↦ inl (so_before e a.faults w.0.faults b.faults w.1.later so)
  | inr told ↦ inr told
]
on_so T P (calls call ∷ steps) e a b (write, only) (inr (inl starved)) = inl (starved_so e a.faults b.faults starved.0)
on_so T P (calls call ∷ steps) e a b (write, only) (inr (inr breaks)) = inl (call_so call e a b write breaks)
on_so T P (passes refusal ∷ steps) e a b (tells, only) (inl w) =
    subst (λ (s : DirectoryState). IsWriteError e s.faults b.faults ⊎ P e) w.1.1 (on_so T P steps e w.0 b only w.2)
on_so T P (passes refusal ∷ steps) e a b (tells, only) (inr (inl starved)) =
    inl (starved_so e a.faults b.faults starved.0)
on_so T P (passes refusal ∷ steps) e a b (tells, only) (inr (inr breaks)) = inr (tells e breaks.0)

-- with which errors they end
pub writes_so : {T : Type 0} (P : TantivyError → Type 0) {steps : List Step} (e : TantivyError) {a b : DirectoryState} → OnlyWrites P steps → Works {T = T} steps (Err e) a b → IsWriteError e a.faults b.faults ⊎ P e
writes_so {T = T} P e only works = on_so T P _ e _ _ only works.on

-- where there is no test
pub calls_so : {T : Type 0} {steps : List Step} (e : TantivyError) {a b : DirectoryState} → OnlyWrites (λ x. ⊥) steps → Works {T = T} steps (Err e) a b → IsWriteError e a.faults b.faults
calls_so e only works = elim (writes_so (λ x. ⊥) e only works) [
  | inl so ↦ so
  | inr none ↦ absurd none
]

pub both_write : (P : TantivyError → Type 0) (xs ys : List Step) → OnlyWrites P xs → OnlyWrites P ys
    → OnlyWrites P (xs ++ ys)
both_write P [] ys h k = k
both_write P (calls call ∷ xs) ys h k = (h.0, both_write P xs ys h.1 k)
both_write P (passes refusal ∷ xs) ys h k = (h.0, both_write P xs ys h.1 k)

-- ---- of which kind these errors are

pub write_unrefused : (P : TantivyError → Type 0) (e : TantivyError) (m n : ℕ) → IsWriteError e m n → IfRefusal P e
write_unrefused P (SchemaError cause) m n so = absurd so
write_unrefused P (InvalidArgument cause) m n so = absurd so
write_unrefused P IndexAlreadyExists m n so = tt
write_unrefused P OpenReadError m n so = tt
write_unrefused P OpenWriteError m n so = tt
write_unrefused P IoError m n so = tt
write_unrefused P (DataCorruption name) m n so = tt
write_unrefused P SystemError m n so = tt
write_unrefused P FieldNotFound m n so = tt
write_unrefused P OutOfMemory m n so = tt

pub write_undamaged : (e : TantivyError) (m n : ℕ) → IsWriteError e m n → IsNoDamage e
write_undamaged (DataCorruption name) m n so = so
write_undamaged (SchemaError cause) m n so = tt
write_undamaged (InvalidArgument cause) m n so = tt
write_undamaged IndexAlreadyExists m n so = tt
write_undamaged OpenReadError m n so = tt
write_undamaged OpenWriteError m n so = tt
write_undamaged IoError m n so = tt
write_undamaged SystemError m n so = tt
write_undamaged FieldNotFound m n so = tt
write_undamaged OutOfMemory m n so = tt

-- ---- the steps of the work index

pub batches_write : (ids : List ℕ) (causes : List (Option TantivyError)) (files : List SegmentFiles)
    → AllByRecursion TellsRefusal causes → OnlyWrites IsRefusal (batches_steps ids causes files)
batches_write [] causes files tell = tt
batches_write (id ∷ ids) [] files tell = tt
batches_write (id ∷ ids) (cause ∷ causes) [] tell = (tell.0, tt)
batches_write (id ∷ ids) (cause ∷ causes) (f ∷ files) tell =
    (tell.0, (tt, (tt, (tt, (tt, (tt, (tt, batches_write ids causes files tell.1)))))))

module _ (P : TantivyError → Type 0) (stamp : ℕ) where
  alive_writes : (id : ℕ) (bytes : List ℕ) (d : Option Deletes) (more : List Step) → OnlyWrites P more
      → OnlyWrites P (alive_step id d bytes ++ more)
  alive_writes id bytes None more h = h
  alive_writes id bytes (Some d) more h = (tt, h)

  pub all_alive_write : (alive : List (List ℕ)) (segments : List WrittenSegment)
      → OnlyWrites P (alive_steps stamp alive segments)
  all_alive_write [] segments = tt
  all_alive_write (bytes ∷ alive) [] = tt
  all_alive_write (bytes ∷ alive) (s ∷ segments) =
      alive_writes s.id bytes (deletes_of stamp s.alive) (alive_steps stamp alive segments)
      (all_alive_write alive segments)

  pub finish_writes : (meta : index.Meta) (alive : List (List ℕ)) (segments : List WrittenSegment)
      → OnlyWrites P (finish_steps meta stamp alive segments)
  finish_writes meta [] [] = (tt, (tt, (tt, tt)))
  finish_writes meta [] (s ∷ segments) = tt
  finish_writes meta (bytes ∷ alive) [] = tt
  finish_writes meta (bytes ∷ alive) (s ∷ segments) =
      alive_writes s.id bytes (deletes_of stamp s.alive) (finish_steps meta stamp alive segments)
      (finish_writes meta alive segments)
