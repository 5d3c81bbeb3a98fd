-- The files that steps with a directory leave alone.
use Rattle.std.proofs.Common.{◌≡◌, ◌≢◌, ◌++◌, List, [], ◌∷◌, Result, Ok, Err, refl, sym, ap, subst, ◌∙◌, inl, inr}
use Rattle.std.specs.FinMap.{get, insert}
use Rattle.std.specs.List.{AllByRecursion}
use Rattle.seg_common.specs.declared.name.FileName.{FileName}
use Rattle.seg_values.specs.declared.error.TantivyError.{TantivyError}
use Rattle.seg_values.specs.declared.error.TantivyError.TheVariants.{OutOfMemory}
use Rattle.seg_directory.proofs.Exports.{keeps_others}
use Rattle.seg_directory.specs.Calls.{Call, listed, read, made, replaced, synced, Keeps}
use Rattle.seg_directory.specs.StepSequences.{GoesOn}
use Rattle.seg_directory.specs.Files.{NamedFiles}
use Rattle.seg_directory.specs.DirectoryStates.{DirectoryState}
use Rattle.seg_directory.specs.DirectorySteps.{Step, calls, passes, StepGoes, StepBreaks, CallBreaks, failed, has_files, Works, all_files_after}
use Rattle.seg_segment.specs.SegmentFiles.{KeepsAllBut}

-- the names that a call touches
abbrev pub touched : Call → List FileName
touched (made name bytes) = name ∷ []
touched (replaced name bytes) = name ∷ []
touched _ = []

-- and steps
abbrev pub all_touched : List Step → List FileName
all_touched [] = []
all_touched (calls call ∷ steps) = touched call ++ all_touched steps
all_touched (passes refusal ∷ steps) = all_touched steps

pub keeps : (call : Call) (old new : NamedFiles) → Keeps call old new → KeepsAllBut (touched call) old new
keeps (listed n) old new same = λ other all. ap (λ (files : NamedFiles). get files other) same
keeps (read name bytes) old new same = λ other all. ap (λ (files : NamedFiles). get files other) same
keeps (made name bytes) old new others = λ other all. others other all.0
keeps (replaced name bytes) old new others = λ other all. others other all.0
keeps synced old new same = λ other all. ap (λ (files : NamedFiles). get files other) same

pub among_front : (other : FileName) (xs ys : List FileName) → AllByRecursion (λ name. other ≢ name) (xs ++ ys) → AllByRecursion (λ name. other ≢ name) xs
among_front other [] ys all = tt
among_front other (x ∷ xs) ys all = (all.0, among_front other xs ys all.1)

pub among_back : (other : FileName) (xs ys : List FileName) → AllByRecursion (λ name. other ≢ name) (xs ++ ys) → AllByRecursion (λ name. other ≢ name) ys
among_back other [] ys all = all
among_back other (x ∷ xs) ys all = among_back other xs ys all.1

call_keeps : (call : Call) (e : TantivyError) (a b : DirectoryState) → CallBreaks call e a b → KeepsAllBut (touched call) a.files b.files
call_keeps call e a b (failed d is fails) = keeps call a.files b.files fails.others
call_keeps call e a b (has_files n is some error goes) = subst (λ (c : Call). KeepsAllBut (touched c) a.files b.files) (sym is) (keeps (listed n) a.files b.files goes.others)

untouched : (steps : List Step) (a b : DirectoryState) → b ≡ a → KeepsAllBut (all_touched steps) a.files b.files
untouched steps a b same other all = ap (λ (s : DirectoryState). get s.files other) same

on_keep : {T : Type 0} (steps : List Step) (r : Result T TantivyError) (a b : DirectoryState) → GoesOn StepGoes StepBreaks OutOfMemory steps r a b → KeepsAllBut (all_touched steps) a.files b.files
on_keep [] r a b on = untouched [] a b on.0
on_keep (calls call ∷ steps) r a b (inl w) =
    λ other all. on_keep steps r w.0 b w.2 other (among_back other (touched call) (all_touched steps) all) ∙ keeps call a.files w.0.files w.1.others other (among_front other (touched call) (all_touched steps) all)
on_keep (passes refusal ∷ steps) r a b (inl w) = λ other all. on_keep steps r w.0 b w.2 other all ∙ untouched steps a w.0 w.1.1 other all
on_keep (step ∷ steps) (Ok x) a b (inr no_error) = absurd no_error
on_keep (step ∷ steps) (Err e) a b (inr (inl starved)) = untouched (step ∷ steps) a b starved.1
on_keep (calls call ∷ steps) (Err e) a b (inr (inr breaks)) = λ other all. call_keeps call e a b breaks other (among_front other (touched call) (all_touched steps) all)
on_keep (passes refusal ∷ steps) (Err e) a b (inr (inr breaks)) = untouched (passes refusal ∷ steps) a b breaks.1

-- whatever they come to, the files of names that they don't touch stay
pub keeps_untouched : {T : Type 0} {steps : List Step} {r : Result T TantivyError} {a b : DirectoryState} → Works steps r a b → KeepsAllBut (all_touched steps) a.files b.files
keeps_untouched works = on_keep _ _ _ _ works.on

-- and what they make of the files has them
pub after_keeps : (steps : List Step) (files : NamedFiles) → KeepsAllBut (all_touched steps) files (all_files_after steps files)
after_keeps [] files = λ other all. refl
after_keeps (calls (listed n) ∷ steps) files = after_keeps steps files
after_keeps (calls (read name bytes) ∷ steps) files = after_keeps steps files
after_keeps (calls (made name bytes) ∷ steps) files = λ other all. after_keeps steps (insert files name bytes) other all.1 ∙ keeps_others files name bytes other all.0
after_keeps (calls (replaced name bytes) ∷ steps) files = λ other all. after_keeps steps (insert files name bytes) other all.1 ∙ keeps_others files name bytes other all.0
after_keeps (calls synced ∷ steps) files = after_keeps steps files
after_keeps (passes refusal ∷ steps) files = after_keeps steps files
