-- What the saving of a file in one step leaves on the disk.
use Rattle.std.proofs.Common.{◌≡◌, ◌⊎◌, inl, inr, ℕ, List, [], ◌∷◌, ◌++◌, Result, Ok, Err, IsTrue, sym, refl, ap, subst, ◌∙◌}
use Rattle.std.specs.Prelude.{OnOk}
use Rattle.std.specs.FinMap.{insert}
use Rattle.seg_common.specs.declared.name.FileName.{FileName}
use Rattle.seg_values.specs.declared.error.TantivyError.{TantivyError}
use Rattle.seg_values.specs.declared.error.TantivyError.TheVariants.{OutOfMemory}
use Rattle.seg_directory.specs.Calls.{Call, listed, replaced, synced}
use Rattle.seg_directory.specs.Disk.{IsImage, exactly, with_change}
use Rattle.seg_directory.specs.DiskChanges.{DiskFails, DiskGoes, Turns}
use Rattle.seg_directory.specs.DiskRuns.{SavesOnDisk}
use Rattle.seg_directory.specs.StepSequences.{GoesOn}
use Rattle.seg_directory.specs.FileDisks.{FileDisk, IsWithin, IsWithinOr, MayReplace, NamedFiles, settled}
use Rattle.seg_directory.specs.DirectoryStates.{DirectoryState, DiskState, HasOnly}
use Rattle.seg_directory.specs.DirectorySteps.{Step, StepBreaks, StepGoes, Works, calls, failed, has_files}
use Rattle.seg_directory.specs.declared.error.DirectoryError.{DirectoryError}
use Rattle.seg_directory.proofs.DiskImages.{saved_files_are_one_of_two, stable_files_are_an_image}
use Rattle.seg_directory.proofs.StepsOnDisk.{on_works, reads_only, turns_none, turns_on}
use Rattle.seg_directory.proofs.CallMoments.{passes_on, passes_weaker}
use Rattle.seg_directory.proofs.StepParts.{Parts, in_first, in_next, in_parts}

-- all files reach the disk, and then one is replaced
abbrev pub saving : FileName → List ℕ → List Step
saving name bytes = calls synced ∷ calls (replaced name bytes) ∷ []

module _ (name : FileName) (bytes : List ℕ) (a : DirectoryState) where
  abbrev saved : NamedFiles
  saved = insert a.files name bytes

  abbrev Saves : FileDisk → Type 0
  Saves d = IsWithinOr saved a.disk.now d

  at_first : Saves a.disk.now
  at_first files image = inl image

  within : (d : FileDisk) → IsWithin a.disk.now d → Saves d
  within d is files image = inl (is files image)

  module _ (w : DirectoryState) (settles : IsWithin a.disk.now w.disk.now) (is : w.disk.now ≡ settled a.files) where
    one_of_two : (files : NamedFiles) → (files ≡ a.files) ⊎ (files ≡ saved) → IsImage a.disk.now files ⊎ (files ≡ saved)
    one_of_two files (inl same) =
        inl (settles files (subst (λ (d : FileDisk). IsImage d files) (sym is) (subst (λ (f : NamedFiles). IsImage (settled a.files) f) (sym same) (stable_files_are_an_image (settled a.files)))))
    one_of_two files (inr same) = inr same

    with_it : (d : FileDisk) → d ≡ with_change w.disk.now name (exactly bytes) → Saves d
    with_it d same files image =
        one_of_two files (saved_files_are_one_of_two a.files files name bytes
        (subst (λ (x : FileDisk). IsImage x files) (same ∙ ap (λ (x : FileDisk). with_change x name (exactly bytes)) is) image))

    may_be : (d : FileDisk) → MayReplace name bytes w.disk.now d → Saves d
    may_be d (inl same) = subst Saves (sym same) (within w.disk.now settles)
    may_be d (inr same) = with_it d same

    replacing : {T : Type 0} (r : Result T TantivyError) (b : DirectoryState) → GoesOn StepGoes StepBreaks OutOfMemory (calls (replaced name bytes) ∷ []) r w b → Turns Saves Saves w.disk b.disk
    replacing r b (inl v) =
        subst (λ (s : DirectoryState). Turns Saves Saves w.disk s.disk) (sym v.2.0) (record {
          during = passes_weaker may_be v.1.disk.during;
          after = λ told. with_it v.0.disk.now (v.1.disk.after told);
        })
    replacing (Ok x) b (inr no_error) = absurd no_error
    replacing (Err e) b (inr (inl starved)) = turns_none starved.1 (within w.disk.now settles)
    replacing (Err e) b (inr (inr (failed d error it))) = record {
      during = passes_weaker may_be it.disk.during;
      after = λ told. may_be b.disk.now (it.disk.after told);
    }
    replacing (Err e) b (inr (inr (has_files n other some error it))) = absurd (cc other)

  saves_on : {T : Type 0} (r : Result T TantivyError) (b : DirectoryState) → IsTrue a.disk.told → GoesOn StepGoes StepBreaks OutOfMemory (saving name bytes) r a b → Turns Saves Saves a.disk b.disk
  saves_on r b told (inl w) =
      let after = w.1.disk.after told in
      let first : Turns Saves Saves a.disk w.0.disk =
      record { during = passes_weaker (λ d is. within d is) w.1.disk.during; after = λ _. within w.0.disk.now after.0 } in
      turns_on told first (λ told_then holds. replacing w.0 after.0 (after.1 ∙ ap settled w.1.others) r b w.2)
  saves_on (Ok x) b told (inr no_error) = absurd no_error
  saves_on (Err e) b told (inr (inl starved)) = turns_none starved.1 at_first
  saves_on (Err e) b told (inr (inr (failed d error it))) = record {
    during = passes_weaker (λ d is. within d is) it.disk.during;
    after = λ told. within b.disk.now (it.disk.after told);
  }
  saves_on (Err e) b told (inr (inr (has_files n other some error it))) = absurd (cc other)

-- each image is one from before, or the files as they were read with the file that is saved
pub saves_on_disk : (name : FileName) (bytes : List ℕ) {T : Type 0} (r : Result T TantivyError) {a b : DirectoryState} → IsTrue a.disk.told → Works (saving name bytes) r a b
    → SavesOnDisk (insert a.files name bytes) a.disk b.disk
saves_on_disk name bytes r {a = a} {b = b} told works =
    let turns = saves_on name bytes a r b told works.on in
    record { during = turns.during; after = turns.after told }

saved_at : (name : FileName) (bytes : List ℕ) {T : Type 0} (x : T) (a b : DirectoryState) → IsTrue a.disk.told → GoesOn StepGoes StepBreaks OutOfMemory (saving name bytes) (Ok x) a b
    → b.disk.now ≡ with_change (settled a.files) name (exactly bytes)
saved_at name bytes x a b told (inl (w, goes, inl (v, goes_on, both))) =
    ap (λ (s : DirectoryState). s.disk.now) both.0
    ∙ goes_on.disk.after (subst (λ t. IsTrue t) (sym goes.disk.during.told) told)
    ∙ ap (λ (d : FileDisk). with_change d name (exactly bytes)) ((goes.disk.after told).1 ∙ ap settled goes.others)
saved_at name bytes x a b told (inl (w, goes, inr no_error)) = absurd no_error
saved_at name bytes x a b told (inr no_error) = absurd no_error

-- at Ok all that was read before is safe, and the file is pending
pub saved_on_disk : (name : FileName) (bytes : List ℕ) {T : Type 0} (r : Result T TantivyError) {a b : DirectoryState} → IsTrue a.disk.told → Works (saving name bytes) r a b
    → OnOk r (b.disk.now ≡ with_change (settled a.files) name (exactly bytes))
saved_on_disk name bytes (Ok x) told works = saved_at name bytes x _ _ told works.on
saved_on_disk name bytes (Err e) told works = tt

-- ---- and then all files reach the disk again

-- the file is saved, and reaches the disk
abbrev pub publishing : FileName → List ℕ → List Step
publishing name bytes = saving name bytes ++ calls synced ∷ []

module _ (R : NamedFiles → Type 0) (name : FileName) (bytes : List ℕ) (a : DirectoryState) (told : IsTrue a.disk.told) (holds : HasOnly R a.disk.now) where
  abbrev Publishes : FileDisk → Type 0
  Publishes d = HasOnly (λ files. R files ⊎ (files ≡ insert a.files name bytes)) d

  held : (d : FileDisk) → IsWithinOr (insert a.files name bytes) a.disk.now d → Publishes d
  held d is files image = by (is files image)
    where
      by : IsImage a.disk.now files ⊎ (files ≡ insert a.files name bytes) → R files ⊎ (files ≡ insert a.files name bytes)
      by (inl before) = inl (holds files before)
      by (inr same) = inr same

  saved_so : {T : Type 0} (r : Result T TantivyError) (b : DirectoryState) → Works (saving name bytes) r a b → Turns Publishes Publishes a.disk b.disk
  saved_so r b works =
      let saves = saves_on_disk name bytes r told works in
      record { during = passes_weaker held saves.during; after = λ _. held b.disk.now saves.after }

  syncing : {T : Type 0} (r : Result T TantivyError) (v b : DirectoryState) → IsTrue v.disk.told → Publishes v.disk.now → Works (calls synced ∷ []) r v b → Turns Publishes Publishes v.disk b.disk
  syncing r v b v_told so works = on_works Publishes (λ call. call ≡ synced) goes fails (calls synced ∷ []) r (refl, tt) v_told so works
    where
      within_so : (old d : FileDisk) → Publishes old → IsWithin old d → Publishes d
      within_so old d only is files image = only files (is files image)

      goes : (call : Call) (files : NamedFiles) (old new : DiskState) → call ≡ synced → Publishes old.now → DiskGoes call files old new → Turns Publishes Publishes old new
      goes call files old new is only it =
          let synced_it : DiskGoes synced files old new = subst (λ (c : Call). DiskGoes c files old new) is it in
          record { during = passes_weaker (λ d w. within_so old.now d only w) synced_it.during; after = λ t. within_so old.now new.now only (synced_it.after t).0 }

      fails : (call : Call) (e : DirectoryError) (old new : DiskState) → call ≡ synced → Publishes old.now → DiskFails call e old new → Turns Publishes Publishes old new
      fails call e old new is only it =
          let synced_it : DiskFails synced e old new = subst (λ (c : Call). DiskFails c e old new) is it in
          record { during = passes_weaker (λ d w. within_so old.now d only w) synced_it.during; after = λ t. within_so old.now new.now only (synced_it.after t) }

  by_parts : {T : Type 0} (r : Result T TantivyError) (b : DirectoryState) → Parts (saving name bytes) (calls synced ∷ []) r a b → Turns Publishes Publishes a.disk b.disk
  by_parts {T = T} r b (in_first e is works) = saved_so {T = T} (Err e) b works
  by_parts r b (in_next v first next) = turns_on told (saved_so (Ok tt) v first) (λ told_then so. syncing r v b told_then so next)

  -- each image is as before, or the files as they were read with the file that is saved
  pub publishes_on_disk : {T : Type 0} (r : Result T TantivyError) (b : DirectoryState) → Works (publishing name bytes) r a b → Turns Publishes Publishes a.disk b.disk
  publishes_on_disk r b works = by_parts r b (in_parts (saving name bytes) (calls synced ∷ []) r works)

published_at : (name : FileName) (bytes : List ℕ) {T : Type 0} (x : T) (a b : DirectoryState) → IsTrue a.disk.told → GoesOn StepGoes StepBreaks OutOfMemory (publishing name bytes) (Ok x) a b
    → b.disk.now ≡ settled (insert a.files name bytes)
published_at name bytes x a b told (inl (w, goes, inl (v, next, inl (u, last, both)))) =
    let w_told : IsTrue w.disk.told = subst (λ t. IsTrue t) (sym goes.disk.during.told) told in
    let v_told : IsTrue v.disk.told = subst (λ t. IsTrue t) (sym next.disk.during.told) w_told in
    ap (λ (s : DirectoryState). s.disk.now) both.0
    ∙ (last.disk.after v_told).1
    ∙ ap settled (last.others ∙ next.files (goes.reads told).tells ∙ ap (λ (f : NamedFiles). insert f name bytes) goes.others)
published_at name bytes x a b told (inl (w, goes, inl (v, next, inr no_error))) = absurd no_error
published_at name bytes x a b told (inl (w, goes, inr no_error)) = absurd no_error
published_at name bytes x a b told (inr no_error) = absurd no_error

-- at Ok these files are safe, and no other image is left
pub published_on_disk : (name : FileName) (bytes : List ℕ) {T : Type 0} (r : Result T TantivyError) {a b : DirectoryState} → IsTrue a.disk.told → Works (publishing name bytes) r a b
    → OnOk r (b.disk.now ≡ settled (insert a.files name bytes))
published_on_disk name bytes (Ok x) told works = published_at name bytes x _ _ told works.on
published_on_disk name bytes (Err e) told works = tt

-- ---- where files are listed before

module _ (name : FileName) (bytes : List ℕ) (a : DirectoryState) (told : IsTrue a.disk.told) where
  listing_keeps : (r : Result (Unit {0}) TantivyError) (w : DirectoryState) → Works (calls (listed 0) ∷ []) r a w → (w.files ≡ a.files) × Turns (λ d. d ≡ a.disk.now) (λ d. d ≡ a.disk.now) a.disk w.disk
  listing_keeps r w works = (files r works.on, reads_only (λ d. d ≡ a.disk.now) (calls (listed 0) ∷ []) r (tt, tt) told refl works)
    where
      files : (r : Result (Unit {0}) TantivyError) → GoesOn StepGoes StepBreaks OutOfMemory (calls (listed 0) ∷ []) r a w → w.files ≡ a.files
      files r (inl (x, goes, both)) = ap (λ (s : DirectoryState). s.files) both.0 ∙ goes.others
      files (Ok x) (inr no_error) = absurd no_error
      files (Err e) (inr (inl starved)) = ap (λ (s : DirectoryState). s.files) starved.1
      files (Err e) (inr (inr (failed d is it))) = it.others
      files (Err e) (inr (inr (has_files n is some error it))) = it.others

  by_listing : {T : Type 0} (r : Result T TantivyError) (b : DirectoryState) → Parts (calls (listed 0) ∷ []) (saving name bytes) r a b
      → SavesOnDisk (insert a.files name bytes) a.disk b.disk × OnOk r (b.disk.now ≡ with_change (settled a.files) name (exactly bytes))
  by_listing {T} r b (in_first e is works) =
      let keeps = reads_only (λ d. d ≡ a.disk.now) {T = T} (calls (listed 0) ∷ []) (Err e) (tt, tt) told refl works in
      (record { during = passes_weaker before keeps.during; after = before b.disk.now (keeps.after told) }, subst (λ (x : Result T TantivyError). OnOk x (b.disk.now ≡ with_change (settled a.files) name (exactly bytes))) (sym is) tt)
    where
      before : (d : FileDisk) → d ≡ a.disk.now → IsWithinOr (insert a.files name bytes) a.disk.now d
      before d is files image = inl (subst (λ (x : FileDisk). IsImage x files) is image)
  by_listing r b (in_next w first next) =
      let lists = listing_keeps (Ok tt) w first in
      let told_then : IsTrue w.disk.told = subst (λ t. IsTrue t) (sym lists.1.during.told) told in
      let same : w.disk.now ≡ a.disk.now = lists.1.after told in
      let saves = saves_on_disk name bytes r told_then next in
      let as_saved : (d : FileDisk) → IsWithinOr (insert w.files name bytes) w.disk.now d → IsWithinOr (insert a.files name bytes) a.disk.now d =
      λ d is. subst (λ (x : FileDisk). IsWithinOr (insert a.files name bytes) x d) same (subst (λ (f : NamedFiles). IsWithinOr (insert f name bytes) w.disk.now d) lists.0 is) in
      let before : (d : FileDisk) → d ≡ a.disk.now → IsWithinOr (insert a.files name bytes) a.disk.now d =
      λ d is files image. inl (subst (λ (x : FileDisk). IsImage x files) is image) in (
        record { during = passes_on (passes_weaker before lists.1.during) (passes_weaker as_saved saves.during); after = as_saved b.disk.now saves.after },
        subst (λ (f : NamedFiles). OnOk r (b.disk.now ≡ with_change (settled f) name (exactly bytes))) lists.0 (saved_on_disk name bytes r told_then next),
      )

  -- the same, with a listing before it
  pub begins_on_disk : {T : Type 0} (r : Result T TantivyError) {b : DirectoryState} → Works (calls (listed 0) ∷ saving name bytes) r a b
      → SavesOnDisk (insert a.files name bytes) a.disk b.disk × OnOk r (b.disk.now ≡ with_change (settled a.files) name (exactly bytes))
  begins_on_disk r works = by_listing r _ (in_parts (calls (listed 0) ∷ []) (saving name bytes) r works)
