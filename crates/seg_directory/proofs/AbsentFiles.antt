-- Steps that suit the files of a directory never find a file that is there.
use Rattle.std.proofs.Common.{◌≡◌, ◌≢◌, ◌∙◌, inl, inr, List, [], ◌∷◌, Result, Ok, Err, IsTrue, refl, sym, subst, arith}
use Rattle.std.specs.Prelude.{IsSome}
use Rattle.std.specs.FinMap.{len}
use Rattle.seg_common.proofs.Results.{error_is}
use Rattle.seg_values.specs.declared.error.TantivyError.{TantivyError}
use Rattle.seg_values.specs.declared.error.TantivyError.TheVariants.{IndexAlreadyExists, OutOfMemory}
use Rattle.seg_directory.specs.Calls.{Call, listed, read, made, replaced, synced, kind_of, Suits, Refuses, CanFail}
use Rattle.seg_directory.specs.StepSequences.{GoesOn}
use Rattle.seg_directory.specs.Errors.{fault_of}
use Rattle.seg_directory.specs.Files.{NamedFiles}
use Rattle.seg_directory.specs.DirectoryStates.{DirectoryState}
use Rattle.seg_directory.specs.DirectorySteps.{Step, calls, passes, StepGoes, StepBreaks, CallBreaks, failed, has_files, Works, AllSuit}
use Rattle.seg_directory.specs.declared.answer.CallKind.{CallKind}
use Rattle.seg_directory.specs.declared.answer.CallKind.TheVariants as kind
use Rattle.seg_directory.specs.declared.error.DirectoryError.TheVariants as directory

fault_is_another : (k : CallKind) → fault_of k ≡ IndexAlreadyExists → ⊥
fault_is_another kind.List is = cc is
fault_is_another kind.OpenRead is = cc is
fault_is_another kind.WriteNew is = cc is
fault_is_another kind.AtomicWrite is = cc is
fault_is_another kind.SyncDirectory is = cc is

-- a call that suits isn't refused for a file that is there
suits_not_there : (call : Call) (files : NamedFiles) → Suits call files → Refuses call directory.Exists files → ⊥
suits_not_there (listed n) files suits refuses = refuses
suits_not_there (read name bytes) files suits refuses = refuses
suits_not_there (made name bytes) files suits refuses = cc (subst IsSome suits refuses)
suits_not_there (replaced name bytes) files suits refuses = refuses
suits_not_there synced files suits refuses = refuses

call_not_there : (call : Call) (e : TantivyError) (a b : DirectoryState) → IsTrue a.tells → Suits call a.files → CallBreaks call e a b → e ≢ IndexAlreadyExists
call_not_there call e a b told suits (failed directory.Fault is fails) at = fault_is_another (kind_of call) (sym is ∙ at)
call_not_there call e a b told suits (failed directory.OutOfMemory is fails) at = cc (sym is ∙ at)
call_not_there call e a b told suits (failed directory.Missing is fails) at = cc (sym is ∙ at)
call_not_there call e a b told suits (failed directory.Exists is fails) at = suits_not_there call a.files suits (fails.refuses told)
call_not_there call e a b told suits (has_files n is some error goes) at =
    let none : 0 ≡ len a.files = subst (λ (c : Call). Suits c a.files) is suits in
    let same = goes.suits told in
    omega (arith, some, none, same)

on_never_there : {T : Type 0} (steps : List Step) (r : Result T TantivyError) (a b : DirectoryState) → IsTrue a.tells → AllSuit steps a.files
    → GoesOn StepGoes StepBreaks OutOfMemory steps r a b → r ≢ Err IndexAlreadyExists
on_never_there steps (Ok x) a b told suit on at = cc at
on_never_there [] (Err e) a b told suit on at = absurd (cc (sym on.1 ∙ error_is _ e IndexAlreadyExists refl at))
on_never_there (calls call ∷ steps) (Err e) a b told (suits, rest) (inl w) at =
    on_never_there steps (Err e) w.0 b (subst (λ t. IsTrue t) (sym w.1.tells) told) (subst (AllSuit steps) (sym (w.1.files told)) rest) w.2 at
on_never_there (calls call ∷ steps) (Err e) a b told (suits, rest) (inr (inl starved)) at = absurd (cc (sym starved.0 ∙ error_is _ e IndexAlreadyExists refl at))
on_never_there (calls call ∷ steps) (Err e) a b told (suits, rest) (inr (inr breaks)) at = call_not_there call e a b told suits breaks (error_is _ e IndexAlreadyExists refl at)
on_never_there (passes refusal ∷ steps) (Err e) a b told (none, rest) (inl w) at =
    on_never_there steps (Err e) w.0 b (subst (λ (s : DirectoryState). IsTrue s.tells) (sym w.1.1) told) (subst (λ (s : DirectoryState). AllSuit steps s.files) (sym w.1.1) rest) w.2 at
on_never_there (passes refusal ∷ steps) (Err e) a b told (none, rest) (inr (inl starved)) at = absurd (cc (sym starved.0 ∙ error_is _ e IndexAlreadyExists refl at))
on_never_there (passes refusal ∷ steps) (Err e) a b told (none, rest) (inr (inr breaks)) at = absurd (cc (sym breaks.0 ∙ none))

pub never_there : {T : Type 0} {steps : List Step} {r : Result T TantivyError} {a b : DirectoryState} → IsTrue a.tells → AllSuit steps a.files → Works steps r a b → r ≢ Err IndexAlreadyExists
never_there told suit works = on_never_there _ _ _ _ told suit works.on

-- ---- calls that find no file, whatever the files are

abbrev IsQuiet : Call → Type 0
IsQuiet (listed n) = ⊥
IsQuiet (made name bytes) = ⊥
IsQuiet _ = Unit {0}

-- calls alone, none of which can be refused for a file that is there
abbrev pub AreQuiet : List Step → Type 0
AreQuiet [] = Unit {0}
AreQuiet (calls call ∷ steps) = IsQuiet call × AreQuiet steps
AreQuiet (passes refusal ∷ steps) = ⊥

quiet_can_not : (call : Call) → IsQuiet call → CanFail call directory.Exists → ⊥
quiet_can_not (listed n) quiet can = quiet
quiet_can_not (read name bytes) quiet can = can
quiet_can_not (made name bytes) quiet can = quiet
quiet_can_not (replaced name bytes) quiet can = can
quiet_can_not synced quiet can = can

call_quiet : (call : Call) (e : TantivyError) (a b : DirectoryState) → IsQuiet call → CallBreaks call e a b → e ≢ IndexAlreadyExists
call_quiet call e a b quiet (failed directory.Fault is fails) at = fault_is_another (kind_of call) (sym is ∙ at)
call_quiet call e a b quiet (failed directory.OutOfMemory is fails) at = cc (sym is ∙ at)
call_quiet call e a b quiet (failed directory.Missing is fails) at = cc (sym is ∙ at)
call_quiet call e a b quiet (failed directory.Exists is fails) at = quiet_can_not call quiet fails.possible
call_quiet call e a b quiet (has_files n is some error goes) at = subst IsQuiet is quiet

on_quiet : {T : Type 0} (steps : List Step) (r : Result T TantivyError) (a b : DirectoryState) → AreQuiet steps → GoesOn StepGoes StepBreaks OutOfMemory steps r a b → r ≢ Err IndexAlreadyExists
on_quiet steps (Ok x) a b quiet on at = cc at
on_quiet [] (Err e) a b quiet on at = absurd (cc (sym on.1 ∙ error_is _ e IndexAlreadyExists refl at))
on_quiet (passes refusal ∷ steps) (Err e) a b quiet on at = quiet
on_quiet (calls call ∷ steps) (Err e) a b (quiet, rest) (inl w) at = on_quiet steps (Err e) w.0 b rest w.2 at
on_quiet (calls call ∷ steps) (Err e) a b (quiet, rest) (inr (inl starved)) at = absurd (cc (sym starved.0 ∙ error_is _ e IndexAlreadyExists refl at))
on_quiet (calls call ∷ steps) (Err e) a b (quiet, rest) (inr (inr breaks)) at = call_quiet call e a b quiet breaks (error_is _ e IndexAlreadyExists refl at)

pub quiet_steps : {T : Type 0} {steps : List Step} {r : Result T TantivyError} {a b : DirectoryState} → AreQuiet steps → Works steps r a b → r ≢ Err IndexAlreadyExists
quiet_steps quiet works = on_quiet _ _ _ _ quiet works.on
