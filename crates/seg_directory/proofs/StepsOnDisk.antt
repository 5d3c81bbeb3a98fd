-- What steps with a directory leave on its disk.
use Rattle.std.proofs.Common.{◌≡◌, List, [], ◌∷◌, Result, Ok, Err, inl, inr, IsTrue, refl, sym, subst}
use Rattle.seg_values.specs.declared.error.TantivyError.{TantivyError}
use Rattle.seg_values.specs.declared.error.TantivyError.TheVariants.{OutOfMemory}
use Rattle.seg_directory.specs.Calls.{Call, listed, made, read, replaced, synced}
use Rattle.seg_directory.specs.DiskChanges.{DiskFails, DiskGoes, KeepsDisk, Turns}
use Rattle.seg_directory.specs.StepSequences.{GoesOn}
use Rattle.seg_directory.specs.FileDisks.{FileDisk, NamedFiles}
use Rattle.seg_directory.specs.DirectoryStates.{DirectoryState, DiskState}
use Rattle.seg_directory.specs.DirectorySteps.{CallBreaks, Step, StepBreaks, StepGoes, Works, WorksFor, calls, failed, has_files, passes}
use Rattle.seg_directory.specs.declared.error.DirectoryError.{DirectoryError}
use Rattle.seg_directory.proofs.CallMoments.{passes_on, passes_weaker, started}

-- each call is so
abbrev pub AllCalls : (Call → Type 0) → List Step → Type 0
AllCalls IsSo [] = Unit {0}
AllCalls IsSo (calls call ∷ steps) = IsSo call × AllCalls IsSo steps
AllCalls IsSo (passes refusal ∷ steps) = AllCalls IsSo steps

-- a run after another
pub turns_on : {P : FileDisk → Type 0} {a b c : DiskState} → IsTrue a.told → Turns P P a b → (IsTrue b.told → P b.now → Turns P P b c) → Turns P P a c
turns_on {P} {a = a} {b = b} {c = c} told first next =
    let told_then : IsTrue b.told = subst (λ t. IsTrue t) (sym first.during.told) told in
    let rest : Turns P P b c = next told_then (first.after told) in
    record { during = passes_on first.during rest.during; after = λ _. rest.after told_then }

-- nothing is done
pub turns_none : {P : FileDisk → Type 0} {a b : DirectoryState} → b ≡ a → P a.disk.now → Turns P P a.disk b.disk
turns_none {P} {a = a} same holds =
    subst (λ (s : DirectoryState). Turns P P a.disk s.disk) (sym same) (record { during = started a.disk; after = λ told. holds })

-- no image changes
pub turns_kept : {P : FileDisk → Type 0} {old new : DiskState} → P old.now → KeepsDisk old new → Turns P P old new
turns_kept {P} holds keeps = record {
  during = passes_weaker (λ d is. subst P (sym is) holds) keeps.during;
  after = λ told. subst P (sym (keeps.after told)) holds;
}

-- what holds of the disk at first, and is kept by each call, holds of it at each moment
module _ (P : FileDisk → Type 0) (Fits : Call → Type 0)
    (goes : (call : Call) (files : NamedFiles) (old new : DiskState) → Fits call → P old.now → DiskGoes call files old new → Turns P P old new)
    (fails : (call : Call) (e : DirectoryError) (old new : DiskState) → Fits call → P old.now → DiskFails call e old new → Turns P P old new) where
  broken : (call : Call) (e : TantivyError) (a b : DirectoryState) → Fits call → P a.disk.now → CallBreaks call e a b → Turns P P a.disk b.disk
  broken call e a b fits holds (failed d is it) = fails call d a.disk b.disk fits holds it.disk
  broken call e a b fits holds (has_files n is some error it) = turns_kept holds it.disk

  on_steps : {T : Type 0} (steps : List Step) (r : Result T TantivyError) (a b : DirectoryState) → AllCalls Fits steps → IsTrue a.disk.told → P a.disk.now
      → GoesOn StepGoes StepBreaks OutOfMemory steps r a b → Turns P P a.disk b.disk
  on_steps [] r a b fit told holds on = turns_none on.0 holds
  on_steps (calls call ∷ steps) r a b fit told holds (inl w) =
      turns_on told (goes call w.0.files a.disk w.0.disk fit.0 holds w.1.disk)
      (λ told_then then_holds. on_steps steps r w.0 b fit.1 told_then then_holds w.2)
  on_steps (passes refusal ∷ steps) r a b fit told holds (inl w) =
      subst (λ (s : DirectoryState). Turns P P s.disk b.disk) w.1.1
      (on_steps steps r w.0 b fit (subst (λ (s : DirectoryState). IsTrue s.disk.told) (sym w.1.1) told) (subst (λ (s : DirectoryState). P s.disk.now) (sym w.1.1) holds) w.2)
  on_steps (calls call ∷ steps) (Ok x) a b fit told holds (inr no_error) = absurd no_error
  on_steps (passes refusal ∷ steps) (Ok x) a b fit told holds (inr no_error) = absurd no_error
  on_steps (calls call ∷ steps) (Err e) a b fit told holds (inr (inl starved)) = turns_none starved.1 holds
  on_steps (passes refusal ∷ steps) (Err e) a b fit told holds (inr (inl starved)) = turns_none starved.1 holds
  on_steps (calls call ∷ steps) (Err e) a b fit told holds (inr (inr breaks)) = broken call e a b fit.0 holds breaks
  on_steps (passes refusal ∷ steps) (Err e) a b fit told holds (inr (inr breaks)) = turns_none breaks.1 holds

  pub on_works : {T : Type 0} (steps : List Step) (r : Result T TantivyError) {a b : DirectoryState} → AllCalls Fits steps → IsTrue a.disk.told → P a.disk.now
      → Works steps r a b → Turns P P a.disk b.disk
  on_works steps r fit told holds works = on_steps steps r _ _ fit told holds works.on

-- ---- steps that only read

abbrev pub OnlyReads : Call → Type 0
OnlyReads (listed n) = Unit {0}
OnlyReads (read name bytes) = Unit {0}
OnlyReads (made name bytes) = ⊥
OnlyReads (replaced name bytes) = ⊥
OnlyReads synced = ⊥

still_goes : (P : FileDisk → Type 0) (call : Call) (files : NamedFiles) (old new : DiskState) → OnlyReads call → P old.now → DiskGoes call files old new → Turns P P old new
still_goes P (listed n) files old new fits holds it = turns_kept holds it
still_goes P (read name bytes) files old new fits holds it = turns_kept holds it
still_goes P (made name bytes) files old new fits holds it = absurd fits
still_goes P (replaced name bytes) files old new fits holds it = absurd fits
still_goes P synced files old new fits holds it = absurd fits

still_fails : (P : FileDisk → Type 0) (call : Call) (e : DirectoryError) (old new : DiskState) → OnlyReads call → P old.now → DiskFails call e old new → Turns P P old new
still_fails P (listed n) e old new fits holds it = turns_kept holds it
still_fails P (read name bytes) e old new fits holds it = turns_kept holds it
still_fails P (made name bytes) e old new fits holds it = absurd fits
still_fails P (replaced name bytes) e old new fits holds it = absurd fits
still_fails P synced e old new fits holds it = absurd fits

-- they change no image, and keep what holds of the disk
pub reads_only : (P : FileDisk → Type 0) {T : Type 0} (steps : List Step) (r : Result T TantivyError) {a b : DirectoryState} → AllCalls OnlyReads steps → IsTrue a.disk.told
    → P a.disk.now → Works steps r a b → Turns P P a.disk b.disk
reads_only P steps r fit told holds works = on_works P OnlyReads (still_goes P) (still_fails P) steps r fit told holds works

pub keeps_disk : {T : Type 0} (steps : List Step) (r : Result T TantivyError) {a b : DirectoryState} → AllCalls OnlyReads steps → IsTrue a.disk.told
    → Works steps r a b → KeepsDisk a.disk b.disk
keeps_disk steps r {a = a} fit told works = reads_only (λ d. d ≡ a.disk.now) steps r fit told refl works

pub keeps_disk_for : {T : Type 0} (steps : T → List Step) (r : Result T TantivyError) {a b : DirectoryState} → ((x : T) → AllCalls OnlyReads (steps x)) → IsTrue a.disk.told
    → WorksFor steps r a b → KeepsDisk a.disk b.disk
keeps_disk_for steps (Ok x) fit told works = keeps_disk (steps x) (Ok x) (fit x) told works.does
keeps_disk_for {T = T} steps (Err e) fit told works = keeps_disk {T = T} (steps works.does.0) (Err e) (fit works.does.0) told works.does.1
