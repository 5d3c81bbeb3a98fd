-- Steps that only read files, and test what was read.
use Rattle.std.proofs.Common.{◌≡◌, ◌≤◌, ◌∙◌, ℕ, List, [], ◌∷◌, ◌++◌, Result, Ok, Err, IsTrue, refl, Option, Some, None, inl, inr, sym, ap, subst, arith}
use Rattle.std.specs.Prelude.{IfSome, IsSome}
use Rattle.std.specs.FinMap.{get}
use Rattle.seg_common.specs.FaultCounts.{Rose}
use Rattle.seg_common.specs.declared.name.FileName.{FileName}
use Rattle.seg_values.specs.declared.error.TantivyError.{TantivyError}
use Rattle.seg_values.specs.declared.error.TantivyError.TheVariants.{SchemaError, InvalidArgument, IndexAlreadyExists, OpenReadError, OpenWriteError, IoError, DataCorruption, SystemError, FieldNotFound, OutOfMemory}
use Rattle.seg_directory.specs.Calls.{listed, read, made, replaced, synced, Goes}
use Rattle.seg_directory.specs.StepSequences.{GoesOn}
use Rattle.seg_directory.specs.Files.{NamedFiles}
use Rattle.seg_directory.specs.DirectoryStates.{DirectoryState}
use Rattle.seg_directory.specs.DirectorySteps.{Step, calls, passes, StepGoes, StepBreaks, CallBreaks, failed, has_files, Works, AllSuit}
use Rattle.seg_directory.specs.declared.error.DirectoryError.TheVariants as directory
use Rattle.seg_segment.specs.ReadErrors.{IsNoDamage, IsReadError}

-- ---- such steps

-- a test finds nothing, or damage, or memory runs out in it
abbrev pub FindsDamage : Option TantivyError → Type 0
FindsDamage (Some (DataCorruption name)) = Unit {0}
FindsDamage (Some OutOfMemory) = Unit {0}
FindsDamage (Some e) = ⊥
FindsDamage None = Unit {0}

-- files are read, and tested for damage
abbrev pub OnlyReads : List Step → Type 0
OnlyReads [] = Unit {0}
OnlyReads (calls (read name bytes) ∷ steps) = OnlyReads steps
OnlyReads (calls (listed n) ∷ steps) = ⊥
OnlyReads (calls (made name bytes) ∷ steps) = ⊥
OnlyReads (calls (replaced name bytes) ∷ steps) = ⊥
OnlyReads (calls synced ∷ steps) = ⊥
OnlyReads (passes refusal ∷ steps) = FindsDamage refusal × OnlyReads steps

pub reads_both : (xs ys : List Step) → OnlyReads xs → OnlyReads ys → OnlyReads (xs ++ ys)
reads_both [] ys h k = k
reads_both (calls (read name bytes) ∷ xs) ys h k = reads_both xs ys h k
reads_both (calls (listed n) ∷ xs) ys h k = absurd h
reads_both (calls (made name bytes) ∷ xs) ys h k = absurd h
reads_both (calls (replaced name bytes) ∷ xs) ys h k = absurd h
reads_both (calls synced ∷ xs) ys h k = absurd h
reads_both (passes refusal ∷ xs) ys h k = (h.0, reads_both xs ys h.1 k)

-- ---- what stays, whatever the result is

pub record Unchanged (a b : DirectoryState) : Type 0 where
  pub files : b.files ≡ a.files
  pub tells : b.tells ≡ a.tells
  pub later : a.faults ≤ b.faults

pub same_state : (a b : DirectoryState) → b ≡ a → Unchanged a b
same_state a b same = record {
  files = ap (λ (s : DirectoryState). s.files) same;
  tells = ap (λ (s : DirectoryState). s.tells) same;
  later = subst (λ (s : DirectoryState). a.faults ≤ s.faults) (sym same) (omega arith);
}

pub then_same : (a b c : DirectoryState) → Unchanged a b → Unchanged b c → Unchanged a c
then_same a b c h k = record { files = k.files ∙ h.files; tells = k.tells ∙ h.tells; later = omega (arith, h.later, k.later) }

goes_same : (name : FileName) (bytes : List ℕ) (a b : DirectoryState) → Goes (read name bytes) a b → Unchanged a b
goes_same name bytes a b h = record { files = h.others; tells = h.tells; later = h.later }

breaks_same : (name : FileName) (bytes : List ℕ) (e : TantivyError) (a b : DirectoryState) → CallBreaks (read name bytes) e a b → Unchanged a b
breaks_same name bytes e a b (failed d is fails) = record { files = fails.others; tells = fails.tells; later = fails.later }
breaks_same name bytes e a b (has_files n is some error goes) = absurd (cc is)

on_stay : {T : Type 0} (steps : List Step) (r : Result T TantivyError) (a b : DirectoryState) → OnlyReads steps → GoesOn StepGoes StepBreaks OutOfMemory steps r a b → Unchanged a b
on_stay [] r a b only h = same_state a b h.0
on_stay (calls (listed n) ∷ steps) r a b only h = absurd only
on_stay (calls (made name bytes) ∷ steps) r a b only h = absurd only
on_stay (calls (replaced name bytes) ∷ steps) r a b only h = absurd only
on_stay (calls synced ∷ steps) r a b only h = absurd only
on_stay (calls (read name bytes) ∷ steps) r a b only (inl w) = then_same a w.0 b (goes_same name bytes a w.0 w.1) (on_stay steps r w.0 b only w.2)
on_stay (calls (read name bytes) ∷ steps) (Ok x) a b only (inr no_error) = absurd no_error
on_stay (calls (read name bytes) ∷ steps) (Err e) a b only (inr (inl starved)) = same_state a b starved.1
on_stay (calls (read name bytes) ∷ steps) (Err e) a b only (inr (inr breaks)) = breaks_same name bytes e a b breaks
on_stay (passes refusal ∷ steps) r a b only (inl w) = then_same a w.0 b (same_state a w.0 w.1.1) (on_stay steps r w.0 b only.1 w.2)
on_stay (passes refusal ∷ steps) (Ok x) a b only (inr no_error) = absurd no_error
on_stay (passes refusal ∷ steps) (Err e) a b only (inr (inl starved)) = same_state a b starved.1
on_stay (passes refusal ∷ steps) (Err e) a b only (inr (inr breaks)) = same_state a b breaks.1

-- the files stay, and faults never fall
pub reads_stay : {T : Type 0} {steps : List Step} {r : Result T TantivyError} {a b : DirectoryState} → OnlyReads steps → Works steps r a b → Unchanged a b
reads_stay only works = on_stay _ _ _ _ only works.on

-- ---- errors

finds_so : (refusal : Option TantivyError) (e : TantivyError) → FindsDamage refusal → refusal ≡ Some e → FindsDamage (Some e)
finds_so refusal e finds is = subst FindsDamage is finds

damage_read : (e : TantivyError) → FindsDamage (Some e) → IsReadError e
damage_read (DataCorruption name) h = tt
damage_read (SchemaError cause) h = absurd h
damage_read (InvalidArgument cause) h = absurd h
damage_read IndexAlreadyExists h = absurd h
damage_read OpenReadError h = absurd h
damage_read OpenWriteError h = absurd h
damage_read IoError h = absurd h
damage_read SystemError h = absurd h
damage_read FieldNotFound h = absurd h
damage_read OutOfMemory h = tt

breaks_so : (name : FileName) (bytes : List ℕ) (e : TantivyError) (a b : DirectoryState) → CallBreaks (read name bytes) e a b → IsReadError e
breaks_so name bytes e a b (failed directory.Fault is fails) = subst IsReadError (sym is) tt
breaks_so name bytes e a b (failed directory.OutOfMemory is fails) = subst IsReadError (sym is) tt
breaks_so name bytes e a b (failed directory.Missing is fails) = subst IsReadError (sym is) tt
breaks_so name bytes e a b (failed directory.Exists is fails) = absurd fails.possible
breaks_so name bytes e a b (has_files n is some error goes) = absurd (cc is)

on_so : (T : Type 0) (steps : List Step) (e : TantivyError) (a b : DirectoryState) → OnlyReads steps → GoesOn {T = T} StepGoes StepBreaks OutOfMemory steps (Err e) a b → IsReadError e
on_so T [] e a b only h = subst IsReadError (sym h.1) tt
on_so T (calls (listed n) ∷ steps) e a b only h = absurd only
on_so T (calls (made name bytes) ∷ steps) e a b only h = absurd only
on_so T (calls (replaced name bytes) ∷ steps) e a b only h = absurd only
on_so T (calls synced ∷ steps) e a b only h = absurd only
on_so T (calls (read name bytes) ∷ steps) e a b only (inl w) = on_so T steps e w.0 b only w.2
on_so T (calls (read name bytes) ∷ steps) e a b only (inr (inl starved)) = subst IsReadError (sym starved.0) tt
on_so T (calls (read name bytes) ∷ steps) e a b only (inr (inr breaks)) = breaks_so name bytes e a b breaks
on_so T (passes refusal ∷ steps) e a b only (inl w) = on_so T steps e w.0 b only.1 w.2
on_so T (passes refusal ∷ steps) e a b only (inr (inl starved)) = subst IsReadError (sym starved.0) tt
on_so T (passes refusal ∷ steps) e a b only (inr (inr breaks)) = damage_read e (finds_so refusal e only.0 breaks.0)

-- they end with damage, a fault, or out of memory
pub reads_so : {T : Type 0} {steps : List Step} {e : TantivyError} {a b : DirectoryState} → OnlyReads steps → Works {T = T} steps (Err e) a b → IsReadError e
reads_so only works = on_so _ _ _ _ _ only works.on

breaks_rose : (name : FileName) (bytes : List ℕ) (e : TantivyError) (a b : DirectoryState) → CallBreaks (read name bytes) e a b → e ≡ OpenReadError → Rose a.faults b.faults
breaks_rose name bytes e a b (failed directory.Fault is fails) at = fails.rose refl
breaks_rose name bytes e a b (failed directory.OutOfMemory is fails) at = absurd (cc (sym is ∙ at))
breaks_rose name bytes e a b (failed directory.Missing is fails) at = absurd (cc (sym is ∙ at))
breaks_rose name bytes e a b (failed directory.Exists is fails) at = absurd fails.possible
breaks_rose name bytes e a b (has_files n is some error goes) at = absurd (cc is)

pub rose_before : (a b c : ℕ) → a ≤ b → Rose b c → Rose a c
rose_before a b c le rose = omega (arith, le, rose)

on_rose : (T : Type 0) (steps : List Step) (e : TantivyError) (a b : DirectoryState) → OnlyReads steps → e ≡ OpenReadError → GoesOn {T = T} StepGoes StepBreaks OutOfMemory steps (Err e) a b → Rose a.faults b.faults
on_rose T [] e a b only at h = absurd (cc (sym h.1 ∙ at))
on_rose T (calls (listed n) ∷ steps) e a b only at h = absurd only
on_rose T (calls (made name bytes) ∷ steps) e a b only at h = absurd only
on_rose T (calls (replaced name bytes) ∷ steps) e a b only at h = absurd only
on_rose T (calls synced ∷ steps) e a b only at h = absurd only
on_rose T (calls (read name bytes) ∷ steps) e a b only at (inl w) = rose_before a.faults (w.0).faults b.faults w.1.later (on_rose T steps e w.0 b only at w.2)
on_rose T (calls (read name bytes) ∷ steps) e a b only at (inr (inl starved)) = absurd (cc (sym starved.0 ∙ at))
on_rose T (calls (read name bytes) ∷ steps) e a b only at (inr (inr breaks)) = breaks_rose name bytes e a b breaks at
on_rose T (passes refusal ∷ steps) e a b only at (inl w) = rose_before a.faults (w.0).faults b.faults (same_state a w.0 w.1.1).later (on_rose T steps e w.0 b only.1 at w.2)
on_rose T (passes refusal ∷ steps) e a b only at (inr (inl starved)) = absurd (cc (sym starved.0 ∙ at))
on_rose T (passes refusal ∷ steps) e a b only at (inr (inr breaks)) = absurd (subst (λ (x : TantivyError). FindsDamage (Some x)) at (finds_so refusal e only.0 breaks.0))

-- a failed reading was counted
pub reads_rose : {T : Type 0} {steps : List Step} {a b : DirectoryState} → OnlyReads steps → Works {T = T} steps (Err OpenReadError) a b → Rose a.faults b.faults
reads_rose only works = on_rose _ _ _ _ _ only refl works.on

-- ---- whole files

-- each file is there, and where the files are as they are read no test finds damage
abbrev pub FindWhole : NamedFiles → List Step → Type 0
FindWhole files [] = Unit {0}
FindWhole files (calls (read name bytes) ∷ steps) = IsSome (get files name) × (get files name ≡ Some bytes → FindWhole files steps)
FindWhole files (calls (listed n) ∷ steps) = ⊥
FindWhole files (calls (made name bytes) ∷ steps) = ⊥
FindWhole files (calls (replaced name bytes) ∷ steps) = ⊥
FindWhole files (calls synced ∷ steps) = ⊥
FindWhole files (passes refusal ∷ steps) = IfSome refusal IsNoDamage × (refusal ≡ None → FindWhole files steps)

-- and so do more, where those before them suit
pub whole_both : (files : NamedFiles) (xs ys : List Step) → FindWhole files xs → (AllSuit xs files → FindWhole files ys) → FindWhole files (xs ++ ys)
whole_both files [] ys h k = k tt
whole_both files (calls (read name bytes) ∷ xs) ys h k = (h.0, λ is. whole_both files xs ys (h.1 is) (λ suits. k (is, suits)))
whole_both files (calls (listed n) ∷ xs) ys h k = absurd h
whole_both files (calls (made name bytes) ∷ xs) ys h k = absurd h
whole_both files (calls (replaced name bytes) ∷ xs) ys h k = absurd h
whole_both files (calls synced ∷ xs) ys h k = absurd h
whole_both files (passes refusal ∷ xs) ys h k = (h.0, λ none. whole_both files xs ys (h.1 none) (λ suits. k (none, suits)))

none_there : (o : Option (List ℕ)) → IsSome o → o ≡ None → ⊥
none_there o some none = cc (subst IsSome none some)

breaks_whole : (name : FileName) (bytes : List ℕ) (e : TantivyError) (a b : DirectoryState) → IsTrue a.tells → IsSome (get a.files name) → CallBreaks (read name bytes) e a b → IsNoDamage e
breaks_whole name bytes e a b told some (failed directory.Fault is fails) = subst IsNoDamage (sym is) tt
breaks_whole name bytes e a b told some (failed directory.OutOfMemory is fails) = subst IsNoDamage (sym is) tt
breaks_whole name bytes e a b told some (failed directory.Missing is fails) = absurd (none_there (get a.files name) some (fails.refuses told))
breaks_whole name bytes e a b told some (failed directory.Exists is fails) = absurd fails.possible
breaks_whole name bytes e a b told some (has_files n is count error goes) = absurd (cc is)

still_tells : (a b : DirectoryState) → b.tells ≡ a.tells → IsTrue a.tells → IsTrue b.tells
still_tells a b same told = subst (λ t. IsTrue t) (sym same) told

on_whole : (T : Type 0) (steps : List Step) (e : TantivyError) (a b : DirectoryState) → IsTrue a.tells → FindWhole a.files steps → GoesOn {T = T} StepGoes StepBreaks OutOfMemory steps (Err e) a b → IsNoDamage e
on_whole T [] e a b told whole h = subst IsNoDamage (sym h.1) tt
on_whole T (calls (listed n) ∷ steps) e a b told whole h = absurd whole
on_whole T (calls (made name bytes) ∷ steps) e a b told whole h = absurd whole
on_whole T (calls (replaced name bytes) ∷ steps) e a b told whole h = absurd whole
on_whole T (calls synced ∷ steps) e a b told whole h = absurd whole
on_whole T (calls (read name bytes) ∷ steps) e a b told whole (inl w) =
    on_whole T steps e w.0 b (still_tells a w.0 w.1.tells told) (subst (λ (fs : NamedFiles). FindWhole fs steps) (sym w.1.others) (whole.1 (w.1.suits told))) w.2
on_whole T (calls (read name bytes) ∷ steps) e a b told whole (inr (inl starved)) = subst IsNoDamage (sym starved.0) tt
on_whole T (calls (read name bytes) ∷ steps) e a b told whole (inr (inr breaks)) = breaks_whole name bytes e a b told whole.0 breaks
on_whole T (passes refusal ∷ steps) e a b told whole (inl w) =
    let same = same_state a w.0 w.1.1 in
    on_whole T steps e w.0 b (still_tells a w.0 same.tells told) (subst (λ (fs : NamedFiles). FindWhole fs steps) (sym same.files) (whole.1 w.1.0)) w.2
on_whole T (passes refusal ∷ steps) e a b told whole (inr (inl starved)) = subst IsNoDamage (sym starved.0) tt
on_whole T (passes refusal ∷ steps) e a b told whole (inr (inr breaks)) = subst (λ (o : Option TantivyError). IfSome o IsNoDamage) breaks.0 whole.0

-- whole files are not found damaged
pub found_whole : {T : Type 0} {steps : List Step} {e : TantivyError} {a b : DirectoryState} → IsTrue a.tells → FindWhole a.files steps → Works {T = T} steps (Err e) a b → IsNoDamage e
found_whole told whole works = on_whole _ _ _ _ _ told whole works.on

-- ---- as it is there

-- steps that suit the files, in two parts
pub suits_both : (xs ys : List Step) (files : NamedFiles) → OnlyReads xs → AllSuit (xs ++ ys) files → AllSuit xs files × AllSuit ys files
suits_both [] ys files only h = (tt, h)
suits_both (calls (listed n) ∷ xs) ys files only h = absurd only
suits_both (calls (made name bytes) ∷ xs) ys files only h = absurd only
suits_both (calls (replaced name bytes) ∷ xs) ys files only h = absurd only
suits_both (calls synced ∷ xs) ys files only h = absurd only
suits_both (calls (read name bytes) ∷ xs) ys files only h = let rest = suits_both xs ys files only h.1 in ((h.0, rest.0), rest.1)
suits_both (passes refusal ∷ xs) ys files only h = let rest = suits_both xs ys files only.1 h.1 in ((h.0, rest.0), rest.1)
