-- A directory lists that is to have no file.
use Rattle.std.proofs.Common.{◌≡◌, ◌∙◌, [], ◌∷◌, Result, Ok, Err, IsTrue, inl, inr, sym, ap}
use Rattle.std.specs.Prelude.{OnOk}
use Rattle.std.specs.FinMap.{len}
use Rattle.seg_values.specs.declared.error.TantivyError.{TantivyError}
use Rattle.seg_values.specs.declared.error.TantivyError.TheVariants.{OutOfMemory}
use Rattle.seg_directory.proofs.SuccessfulSteps.{all_went}
use Rattle.seg_directory.specs.Calls.{listed}
use Rattle.seg_directory.specs.StepSequences.{GoesOn}
use Rattle.seg_directory.specs.DirectoryStates.{DirectoryState}
use Rattle.seg_directory.specs.DirectorySteps.{calls, StepGoes, StepBreaks, CallBreaks, failed, has_files, Works}

-- it has none
pub listed_none : {T : Type 0} (r : Result T TantivyError) {a b : DirectoryState} → IsTrue a.tells → Works (calls (listed 0) ∷ []) r a b → OnOk r (len a.files ≡ 0)
listed_none (Ok x) told works = sym ((all_went works).suits told).0
listed_none (Err e) told works = tt

breaks_keep : (e : TantivyError) (a b : DirectoryState) → CallBreaks (listed 0) e a b → b.files ≡ a.files
breaks_keep e a b (failed d is fails) = fails.others
breaks_keep e a b (has_files n is some error goes) = goes.others

listing_keeps : {T : Type 0} (r : Result T TantivyError) (a b : DirectoryState) → GoesOn StepGoes StepBreaks OutOfMemory (calls (listed 0) ∷ []) r a b → b.files ≡ a.files
listing_keeps r a b (inl w) = ap (λ (s : DirectoryState). s.files) w.2.0 ∙ w.1.others
listing_keeps (Ok x) a b (inr no_error) = absurd no_error
listing_keeps (Err e) a b (inr (inl starved)) = ap (λ (s : DirectoryState). s.files) starved.1
listing_keeps (Err e) a b (inr (inr breaks)) = breaks_keep e a b breaks

-- its files stay, whether they are told or not
pub listed_keeps : {T : Type 0} {r : Result T TantivyError} {a b : DirectoryState} → Works (calls (listed 0) ∷ []) r a b → b.files ≡ a.files
listed_keeps works = listing_keeps _ _ _ works.on
