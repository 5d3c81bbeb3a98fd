-- What steps with a directory leave of some names on its disk.
use Rattle.std.proofs.Common.{◌≡◌, ◌≢◌, ◌⊎◌, inl, inr, ℕ, Bool, true, false, cond, List, [], ◌∷◌, Some, None, Option, Result, IsTrue, sym, refl, ap, subst, ◌∙◌}
use Rattle.std.specs.Prelude.{◌&&◌, ◌||◌}
use mathlib.Core.Bool.{true≢false}
use Rattle.std.specs.List.{list_any}
use Rattle.std.specs.Option.{option_eq}
use Rattle.std.specs.Cmp.{eq_by_cmp_equiv, second_so}
use Rattle.std.specs.Ordering.{eq_by_cmp}
use Rattle.std.specs.Str.{bytes_eq}
use Rattle.std.specs.FinMap.{get, insert, get-insert}
use Rattle.seg_common.specs.FileNameKeys.{name_cmp, name_cmp_total}
use Rattle.seg_common.specs.declared.name.FileName.{FileName}
use Rattle.seg_values.specs.declared.error.TantivyError.{TantivyError}
use Rattle.seg_directory.specs.Calls.{Call, listed, made, read, replaced, synced}
use Rattle.seg_directory.specs.Disk.{IsImage, PendingChange, Written, exactly, may_hold, may_leave, torn, with_change}
use Rattle.seg_directory.specs.DiskChanges.{DiskFails, DiskGoes, Turns}
use Rattle.seg_directory.specs.DiskRuns.{IsSameAt, KeepsOnDisk}
use Rattle.seg_directory.specs.FileDisks.{FileDisk, IsWithin, MayReplace, MayTear, NamedFiles}
use Rattle.seg_directory.specs.DirectoryStates.{DirectoryState, DiskState, HasOnly}
use Rattle.seg_directory.specs.DirectorySteps.{Step, Works}
use Rattle.seg_directory.specs.declared.error.DirectoryError.{DirectoryError}
use Rattle.seg_directory.specs.declared.error.DirectoryError.TheVariants as directory
use Rattle.seg_directory.proofs.DiskImages.{changes_leave_their_name, either, elsewhere, is_left, left_true, own_state, same_name, same_state, stable_files_are_an_image}
use Rattle.seg_directory.proofs.StepsOnDisk.{AllCalls, on_works, turns_kept}
use Rattle.seg_directory.proofs.CallMoments.{passes_weaker}

-- ---- an image for each state that a name may have

never_none : (name : FileName) (cs : List (PendingChange FileName))
    → list_any (λ (c : PendingChange FileName). eq_by_cmp name_cmp c.name name && may_leave c.written None) cs ≡ false
never_none name [] = refl
never_none name (c ∷ cs) = ap (λ b. b || list_any (λ (d : PendingChange FileName). eq_by_cmp name_cmp d.name name && may_leave d.written None) cs) (no (eq_by_cmp name_cmp c.name name)) ∙ never_none name cs
  where
    no : (b : Bool) → (b && false) ≡ false
    no true = refl
    no false = refl

pub image_with : (d : FileDisk) (name : FileName) (state : Option (List ℕ)) → may_hold d name state ≡ true
    → (files : NamedFiles) × IsImage d files × (get files name ≡ state)
image_with d name None may =
    (d.stable, stable_files_are_an_image d, by (either (option_eq bytes_eq (get d.stable name) None) _ may))
  where
    by : (option_eq bytes_eq (get d.stable name) None ≡ true) ⊎ (list_any (λ (c : PendingChange FileName). eq_by_cmp name_cmp c.name name && may_leave c.written None) d.pending ≡ true)
        → get d.stable name ≡ None
    by (inl is) = sym (same_state (get d.stable name) None is)
    by (inr is) = absurd (true≢false (sym is ∙ never_none name d.pending))
image_with d name (Some bytes) may = (insert d.stable name bytes, image, here)
  where
    found : (q : FileName) (b : Bool) → eq_by_cmp name_cmp q name ≡ b → get (insert d.stable name bytes) q ≡ cond b (Some bytes) (get d.stable q)
    found q b is = get-insert name_cmp_total d.stable name bytes q ∙ ap (λ b. cond b (Some bytes) (get d.stable q)) is

    by : (q : FileName) (b : Bool) → eq_by_cmp name_cmp q name ≡ b → may_hold d q (get (insert d.stable name bytes) q) ≡ true
    by q true is =
        ap (may_hold d q) (found q true is) ∙ subst (λ (n : FileName). may_hold d n (Some bytes) ≡ true) (sym (same_name q name is)) may
    by q false is = ap (may_hold d q) (found q false is) ∙ left_true _ _ (own_state (get d.stable q))

    image : (q : FileName) → may_hold d q (get (insert d.stable name bytes) q) ≡ true
    image q = by q (eq_by_cmp name_cmp q name) refl

    here : get (insert d.stable name bytes) name ≡ Some bytes
    here = found name true ((eq_by_cmp_equiv name_cmp_total).refl name)

-- ---- what a crash may leave of one name

module _ (name : FileName) (Q : Option (List ℕ) → Type 0) where
  abbrev HoldsOnly : FileDisk → Type 0
  HoldsOnly d = HasOnly (λ files. Q (get files name)) d

  -- calls that change another name, or write what may stand there
  abbrev pub KeepsName : Call → Type 0
  KeepsName (listed n) = Unit {0}
  KeepsName (read n bytes) = Unit {0}
  KeepsName (made n bytes) = n ≢ name
  KeepsName (replaced n bytes) = (n ≢ name) ⊎ Q (Some bytes)
  KeepsName synced = Unit {0}

  state_of : (d : FileDisk) (state : Option (List ℕ)) → HoldsOnly d → may_hold d name state ≡ true → Q state
  state_of d state only may = let found = image_with d name state may in subst Q found.2 (only found.0 found.1)

  other : (d : FileDisk) (n : FileName) (written : Written) → n ≢ name → HoldsOnly d → HoldsOnly (with_change d n written)
  other d n written apart only files image =
      state_of d (get files name) only (sym (elsewhere d n written name (get files name) (λ same. apart (sym same))) ∙ image name)

  changed : (d : FileDisk) (n : FileName) (bytes : List ℕ) → (n ≢ name) ⊎ Q (Some bytes) → HoldsOnly d → HoldsOnly (with_change d n (exactly bytes))
  changed d n bytes (inl apart) only = other d n (exactly bytes) apart only
  changed d n bytes (inr may) only = changed_to
    where
      by : (state : Option (List ℕ)) → (may_hold d name state ≡ true) ⊎ ((eq_by_cmp name_cmp n name && may_leave (exactly bytes) state) ≡ true) → Q state
      by state (inl is) = state_of d state only is
      by state (inr is) = subst Q (sym (is_left bytes state (second_so _ _ is))) may

      changed_to : HoldsOnly (with_change d n (exactly bytes))
      changed_to files image =
          by (get files name) (either (may_hold d name (get files name)) _ (sym (changes_leave_their_name d n (exactly bytes) name (get files name)) ∙ image name))

  torn_so : (n : FileName) (old d : FileDisk) → n ≢ name → HoldsOnly old → MayTear n old d → HoldsOnly d
  torn_so n old d apart only (inl same) = subst HoldsOnly (sym same) only
  torn_so n old d apart only (inr is) = subst HoldsOnly (sym is) (other old n torn apart only)

  replaced_so : (n : FileName) (bytes : List ℕ) (old d : FileDisk) → (n ≢ name) ⊎ Q (Some bytes) → HoldsOnly old → MayReplace n bytes old d → HoldsOnly d
  replaced_so n bytes old d may only (inl same) = subst HoldsOnly (sym same) only
  replaced_so n bytes old d may only (inr is) = subst HoldsOnly (sym is) (changed old n bytes may only)

  within_so : (old d : FileDisk) → HoldsOnly old → IsWithin old d → HoldsOnly d
  within_so old d only within files image = only files (within files image)

  named_goes : (call : Call) (files : NamedFiles) (old new : DiskState) → KeepsName call → HoldsOnly old.now → DiskGoes call files old new → Turns HoldsOnly HoldsOnly old new
  named_goes (listed n) files old new fits holds it = turns_kept holds it
  named_goes (read n bytes) files old new fits holds it = turns_kept holds it
  named_goes (made n bytes) files old new fits holds it = record {
    during = passes_weaker (λ d is. torn_so n old.now d fits holds is) it.during;
    after = λ told. subst HoldsOnly (sym (it.after told)) (other old.now n (exactly bytes) fits holds);
  }
  named_goes (replaced n bytes) files old new fits holds it = record {
    during = passes_weaker (λ d is. replaced_so n bytes old.now d fits holds is) it.during;
    after = λ told. subst HoldsOnly (sym (it.after told)) (changed old.now n bytes fits holds);
  }
  named_goes synced files old new fits holds it = record {
    during = passes_weaker (λ d is. within_so old.now d holds is) it.during;
    after = λ told. within_so old.now new.now holds (it.after told).0;
  }

  tears : (n : FileName) (old new : DiskState) → n ≢ name → HoldsOnly old.now → Turns (MayTear n old.now) (MayTear n old.now) old new → Turns HoldsOnly HoldsOnly old new
  tears n old new fits holds it = record {
    during = passes_weaker (λ d is. torn_so n old.now d fits holds is) it.during;
    after = λ told. torn_so n old.now new.now fits holds (it.after told);
  }

  named_fails : (call : Call) (e : DirectoryError) (old new : DiskState) → KeepsName call → HoldsOnly old.now → DiskFails call e old new → Turns HoldsOnly HoldsOnly old new
  named_fails (listed n) e old new fits holds it = turns_kept holds it
  named_fails (read n bytes) e old new fits holds it = turns_kept holds it
  named_fails (made n bytes) directory.Missing old new fits holds it = tears n old new fits holds it
  named_fails (made n bytes) directory.Exists old new fits holds it = turns_kept holds it
  named_fails (made n bytes) directory.Fault old new fits holds it = tears n old new fits holds it
  named_fails (made n bytes) directory.OutOfMemory old new fits holds it = tears n old new fits holds it
  named_fails (replaced n bytes) e old new fits holds it = record {
    during = passes_weaker (λ d is. replaced_so n bytes old.now d fits holds is) it.during;
    after = λ told. replaced_so n bytes old.now new.now fits holds (it.after told);
  }
  named_fails synced e old new fits holds it = record {
    during = passes_weaker (λ d is. within_so old.now d holds is) it.during;
    after = λ told. within_so old.now new.now holds (it.after told);
  }

  -- at each moment a crash leaves of the name what may stand there
  pub holds_name : {T : Type 0} (steps : List Step) (r : Result T TantivyError) {a b : DirectoryState} → AllCalls KeepsName steps → IsTrue a.disk.told
      → HasOnly (λ files. Q (get files name)) a.disk.now → Works steps r a b → Turns (HasOnly (λ files. Q (get files name))) (HasOnly (λ files. Q (get files name))) a.disk b.disk
  holds_name steps r fit told holds works = on_works HoldsOnly KeepsName named_goes named_fails steps r fit told holds works

-- ---- what a crash may leave of the names that aren't written

module _ (IsSo : FileName → Type 0) (start : FileDisk) where
  -- calls that write none of them, and sync nothing
  abbrev pub Avoids : Call → Type 0
  Avoids (listed n) = Unit {0}
  Avoids (read n bytes) = Unit {0}
  Avoids (made n bytes) = (name : FileName) → IsSo name → name ≢ n
  Avoids (replaced n bytes) = (name : FileName) → IsSo name → name ≢ n
  Avoids synced = ⊥

  abbrev Same : FileDisk → Type 0
  Same d = IsSameAt IsSo start d

  avoided : (d : FileDisk) (n : FileName) (written : Written) → ((name : FileName) → IsSo name → name ≢ n) → Same d → Same (with_change d n written)
  avoided d n written apart same name state is = elsewhere d n written name state (apart name is) ∙ same name state is

  torn_same : (n : FileName) (old d : FileDisk) → ((name : FileName) → IsSo name → name ≢ n) → Same old → MayTear n old d → Same d
  torn_same n old d apart same (inl is) = subst Same (sym is) same
  torn_same n old d apart same (inr is) = subst Same (sym is) (avoided old n torn apart same)

  replaced_same : (n : FileName) (bytes : List ℕ) (old d : FileDisk) → ((name : FileName) → IsSo name → name ≢ n) → Same old → MayReplace n bytes old d → Same d
  replaced_same n bytes old d apart same (inl is) = subst Same (sym is) same
  replaced_same n bytes old d apart same (inr is) = subst Same (sym is) (avoided old n (exactly bytes) apart same)

  same_goes : (call : Call) (files : NamedFiles) (old new : DiskState) → Avoids call → Same old.now → DiskGoes call files old new → Turns Same Same old new
  same_goes (listed n) files old new fits holds it = turns_kept holds it
  same_goes (read n bytes) files old new fits holds it = turns_kept holds it
  same_goes (made n bytes) files old new fits holds it = record {
    during = passes_weaker (λ d is. torn_same n old.now d fits holds is) it.during;
    after = λ told. subst Same (sym (it.after told)) (avoided old.now n (exactly bytes) fits holds);
  }
  same_goes (replaced n bytes) files old new fits holds it = record {
    during = passes_weaker (λ d is. replaced_same n bytes old.now d fits holds is) it.during;
    after = λ told. subst Same (sym (it.after told)) (avoided old.now n (exactly bytes) fits holds);
  }
  same_goes synced files old new fits holds it = absurd fits

  tears_same : (n : FileName) (old new : DiskState) → ((name : FileName) → IsSo name → name ≢ n) → Same old.now → Turns (MayTear n old.now) (MayTear n old.now) old new → Turns Same Same old new
  tears_same n old new fits holds it = record {
    during = passes_weaker (λ d is. torn_same n old.now d fits holds is) it.during;
    after = λ told. torn_same n old.now new.now fits holds (it.after told);
  }

  same_fails : (call : Call) (e : DirectoryError) (old new : DiskState) → Avoids call → Same old.now → DiskFails call e old new → Turns Same Same old new
  same_fails (listed n) e old new fits holds it = turns_kept holds it
  same_fails (read n bytes) e old new fits holds it = turns_kept holds it
  same_fails (made n bytes) directory.Missing old new fits holds it = tears_same n old new fits holds it
  same_fails (made n bytes) directory.Exists old new fits holds it = turns_kept holds it
  same_fails (made n bytes) directory.Fault old new fits holds it = tears_same n old new fits holds it
  same_fails (made n bytes) directory.OutOfMemory old new fits holds it = tears_same n old new fits holds it
  same_fails (replaced n bytes) e old new fits holds it = record {
    during = passes_weaker (λ d is. replaced_same n bytes old.now d fits holds is) it.during;
    after = λ told. replaced_same n bytes old.now new.now fits holds (it.after told);
  }
  same_fails synced e old new fits holds it = absurd fits

-- at each moment a crash leaves of names that aren't written what it might before
pub keeps_names : (IsSo : FileName → Type 0) {T : Type 0} (steps : List Step) (r : Result T TantivyError) {a b : DirectoryState} → AllCalls (Avoids IsSo a.disk.now) steps
    → IsTrue a.disk.told → Works steps r a b → KeepsOnDisk IsSo a.disk b.disk
keeps_names IsSo steps r {a = a} {b = b} fit told works =
    let turns = on_works (Same IsSo a.disk.now) (Avoids IsSo a.disk.now) (same_goes IsSo a.disk.now) (same_fails IsSo a.disk.now) steps r fit told (λ name state is. refl) works in
    record { during = turns.during; after = turns.after told }
