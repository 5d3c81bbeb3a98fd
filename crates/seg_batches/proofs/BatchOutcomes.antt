-- Where the writing of batches ends.
use Rattle.std.proofs.Common.{◌≡◌, ◌≢◌, ◌∙◌, ℕ, true, List, [], ◌∷◌, length, Option, Some, None, Result, Ok, Err, IsTrue, refl, sym, ap, subst, inl, inr, arith}
use Rattle.std.specs.Prelude.{IfErr}
use Rattle.std.specs.FinMap.{get}
use Rattle.std.specs.List.{AllByRecursion}
use Rattle.std.specs.Option.{option_or}
use Rattle.seg_common.proofs.Lists.{all_back, all_front}
use Rattle.seg_common.proofs.Results.{error_is}
use Rattle.seg_values.specs.declared.error.TantivyError.{TantivyError}
use Rattle.seg_values.specs.declared.error.TantivyError.TheVariants.{IndexAlreadyExists, OutOfMemory}
use Rattle.seg_directory.proofs.Exports.{all_went, in_first, in_next, never_there, parts_on}
use Rattle.seg_directory.specs.StepSequences.{GoesOn}
use Rattle.seg_directory.specs.DirectoryStates.{DirectoryState}
use Rattle.seg_directory.specs.DirectorySteps.{StepGoes, StepBreaks, Works}
use Rattle.seg_model.specs.DocumentCheck.{first_of}
use Rattle.seg_model.specs.ValidInputs.{are_distinct}
use Rattle.seg_segment.specs.SegmentFiles.{AreAbsent, segment_names, write_steps}
use Rattle.seg_segment.specs.declared.segment_files.SegmentFiles.{SegmentFiles}
use Rattle.seg_segment.proofs.Exports.{absent_suit, others_stay}
use Rattle.seg_model.specs.Refusals.{IfRefusal, IsRefusal}
use Rattle.seg_batches.specs.WrittenSegments.{six_files}
use Rattle.seg_batches.specs.BatchWriteSteps.{batches_steps}
use Rattle.seg_batches.proofs.DistinctSegments.{files_apart, parts_apart}
use Rattle.seg_batches.proofs.KeptFiles.{others_are, rest_distinct}
use Rattle.seg_batches.proofs.BatchSteps.{if_refusal, refusal_weaker}
use Rattle.seg_batches.proofs.CallErrors.{of_memory, unrefused}
use Rattle.seg_batches.proofs.BatchCauses.{IsFirst, TellsRefusal}
use Rattle.seg_batches.proofs.FileNames.{still_absent}

-- ---- no file of theirs is found

exists_is_none : (cause : Option TantivyError) (e : TantivyError) → TellsRefusal cause → cause ≡ Some e → e ≢ IndexAlreadyExists
exists_is_none cause e tells is at = subst IsRefusal at (tells e is)

fresh_on : {T : Type 0} (ids : List ℕ) (causes : List (Option TantivyError)) (files : List SegmentFiles) (r : Result T TantivyError) (a c : DirectoryState) → AllByRecursion TellsRefusal causes → are_distinct ids ≡ true → IsTrue a.tells → AreAbsent (six_files ids) a.files
    → GoesOn StepGoes StepBreaks OutOfMemory (batches_steps ids causes files) r a c → r ≢ Err IndexAlreadyExists
fresh_on [] causes files r a c tell distinct told absent on = never_there {steps = []} told tt (record { on = on })
fresh_on (id ∷ ids) [] files r a c tell distinct told absent on = never_there {steps = []} told tt (record { on = on })
fresh_on (id ∷ ids) (cause ∷ causes) [] r a c tell distinct told absent (inl w) =
    never_there {steps = []} (subst (λ (s : DirectoryState). IsTrue s.tells) (sym w.1.1) told) tt (record { on = w.2 })
fresh_on (id ∷ ids) (cause ∷ causes) [] (Ok x) a c tell distinct told absent (inr no_error) = absurd no_error
fresh_on {T = T} (id ∷ ids) (cause ∷ causes) [] (Err e) a c tell distinct told absent (inr (inl starved)) = λ at. cc (sym starved.0 ∙ error_is (let r : Result T TantivyError = Err e in r) e IndexAlreadyExists refl at)
fresh_on {T = T} (id ∷ ids) (cause ∷ causes) [] (Err e) a c tell distinct told absent (inr (inr breaks)) = λ at. exists_is_none cause e tell.0 breaks.0 (error_is (let r : Result T TantivyError = Err e in r) e IndexAlreadyExists refl at)
fresh_on (id ∷ ids) (cause ∷ causes) (f ∷ files) r a c tell distinct told absent (inl w) =
    let told_here = subst (λ (s : DirectoryState). IsTrue s.tells) (sym w.1.1) told in
    let absent_here = subst (λ (s : DirectoryState). AreAbsent (six_files (id ∷ ids)) s.files) (sym w.1.1) absent in
    elim (parts_on (write_steps id f) (batches_steps ids causes files) r w.0 c w.2) [
      | in_first e is works ↦ λ at. never_there told_here (absent_suit id f w.0.files (all_front (λ name. get w.0.files name ≡ None) (segment_names id) (six_files ids) absent_here)) works (sym is ∙ at)
      | in_next m works next ↦ fresh_on ids causes files r m c tell.1 (rest_distinct id ids distinct) (subst (λ t. IsTrue t) (sym (all_went works).tells) told_here)
          (still_absent (six_files ids) (segment_names id) w.0.files m.files (files_apart (λ (n : ℕ). n) segment_names id ids (λ n ne. parts_apart n id ne) (others_are id ids distinct)) (others_stay id f works)
          (all_back (λ name. get w.0.files name ≡ None) (segment_names id) (six_files ids) absent_here)) next.on
    ]
fresh_on (id ∷ ids) (cause ∷ causes) (f ∷ files) (Ok x) a c tell distinct told absent (inr no_error) = absurd no_error
fresh_on {T = T} (id ∷ ids) (cause ∷ causes) (f ∷ files) (Err e) a c tell distinct told absent (inr (inl starved)) = λ at. cc (sym starved.0 ∙ error_is (let r : Result T TantivyError = Err e in r) e IndexAlreadyExists refl at)
fresh_on {T = T} (id ∷ ids) (cause ∷ causes) (f ∷ files) (Err e) a c tell distinct told absent (inr (inr breaks)) = λ at. exists_is_none cause e tell.0 breaks.0 (error_is (let r : Result T TantivyError = Err e in r) e IndexAlreadyExists refl at)

-- where none of their files is there, none is found
pub batches_fresh : {T : Type 0} (ids : List ℕ) (causes : List (Option TantivyError)) (files : List SegmentFiles) (r : Result T TantivyError) (a c : DirectoryState) → AllByRecursion TellsRefusal causes → are_distinct ids ≡ true → Works (batches_steps ids causes files) r a c
    → IsTrue a.tells → AreAbsent (six_files ids) a.files → r ≢ Err IndexAlreadyExists
batches_fresh ids causes files r a c tell distinct works told absent = fresh_on ids causes files r a c tell distinct told absent works.on

-- ---- which cause they tell

told_on : (T : Type 0) (ids : List ℕ) (causes : List (Option TantivyError)) (files : List SegmentFiles) (e : TantivyError) (a c : DirectoryState) → GoesOn {T = T} StepGoes StepBreaks OutOfMemory (batches_steps ids causes files) (Err e) a c → IfRefusal (IsFirst causes) e
told_on T [] causes files e a c on = of_memory (IsFirst causes) e on.1
told_on T (id ∷ ids) [] files e a c on = of_memory (IsFirst []) e on.1
told_on T (id ∷ ids) (cause ∷ causes) [] e a c (inl w) = of_memory (IsFirst (cause ∷ causes)) e w.2.1
told_on T (id ∷ ids) (cause ∷ causes) [] e a c (inr (inl starved)) = of_memory (IsFirst (cause ∷ causes)) e starved.0
told_on T (id ∷ ids) (cause ∷ causes) [] e a c (inr (inr breaks)) = if_refusal (IsFirst (cause ∷ causes)) e (ap (λ o. option_or o (first_of (λ p. p) causes)) breaks.0)
told_on T (id ∷ ids) (cause ∷ causes) (f ∷ files) e a c (inl w) =
    let failed : Result T TantivyError = Err e in
    elim (parts_on (write_steps id f) (batches_steps ids causes files) failed w.0 c w.2) [
      | in_first d is works ↦ subst (IfRefusal (IsFirst (cause ∷ causes))) (sym (error_is failed e d refl is)) (unrefused (IsFirst (cause ∷ causes)) {steps = write_steps id f} tt works)
      | in_next m works next ↦ refusal_weaker (IsFirst causes) (IsFirst (cause ∷ causes)) (λ x h. ap (λ o. option_or o (first_of (λ p. p) causes)) w.1.0 ∙ h) e (told_on T ids causes files e m c next.on)
    ]
told_on T (id ∷ ids) (cause ∷ causes) (f ∷ files) e a c (inr (inl starved)) = of_memory (IsFirst (cause ∷ causes)) e starved.0
told_on T (id ∷ ids) (cause ∷ causes) (f ∷ files) e a c (inr (inr breaks)) = if_refusal (IsFirst (cause ∷ causes)) e (ap (λ o. option_or o (first_of (λ p. p) causes)) breaks.0)

-- an error that tells a refusal is the first cause
pub batches_told : {T : Type 0} (ids : List ℕ) (causes : List (Option TantivyError)) (files : List SegmentFiles) (r : Result T TantivyError) (a c : DirectoryState) → Works (batches_steps ids causes files) r a c → IfErr r (IfRefusal (IsFirst causes))
batches_told ids causes files (Ok x) a c works = tt
batches_told {T = T} ids causes files (Err e) a c works = told_on T ids causes files e a c works.on

-- where all went well there is none
none_on : {T : Type 0} (ids : List ℕ) (causes : List (Option TantivyError)) (files : List SegmentFiles) (x : T) (a c : DirectoryState) → length files ≡ length ids → length causes ≡ length ids → GoesOn StepGoes StepBreaks OutOfMemory (batches_steps ids causes files) (Ok x) a c
    → AllByRecursion (λ cause. cause ≡ None) causes
none_on [] [] files x a c many as_many on = tt
none_on [] (cause ∷ causes) files x a c many as_many on = absurd (omega (arith, as_many))
none_on (id ∷ ids) [] files x a c many as_many on = tt
none_on (id ∷ ids) (cause ∷ causes) [] x a c many as_many on = absurd (omega (arith, many))
none_on {T = T} (id ∷ ids) (cause ∷ causes) (f ∷ files) x a c many as_many (inl w) =
    let went : Result T TantivyError = Ok x in
    elim (parts_on (write_steps id f) (batches_steps ids causes files) went w.0 c w.2) [
      | in_first e is works ↦ absurd (cc is)
      | in_next m works next ↦ (w.1.0, none_on ids causes files x m c (omega (arith, many)) (omega (arith, as_many)) next.on)
    ]
none_on (id ∷ ids) (cause ∷ causes) (f ∷ files) x a c many as_many (inr no_error) = absurd no_error

pub batches_none : {T : Type 0} (ids : List ℕ) (causes : List (Option TantivyError)) (files : List SegmentFiles) (x : T) (a c : DirectoryState) → length files ≡ length ids → length causes ≡ length ids → Works (batches_steps ids causes files) (Ok x) a c → AllByRecursion (λ cause. cause ≡ None) causes
batches_none ids causes files x a c many as_many works = none_on ids causes files x a c many as_many works.on
