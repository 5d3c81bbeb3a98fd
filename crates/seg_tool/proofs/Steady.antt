-- Directories go on telling their files, and counts of faults never fall.
use Rattle.std.proofs.Common.{◌≡◌, ◌≤◌, ◌∙◌, List, [], ◌∷◌, Option, Some, None, Result, Ok, Err, IsTrue, refl, sym, ap, subst, inl, inr, arith}
use Rattle.seg_values.specs.declared.error.TantivyError.{TantivyError}
use Rattle.seg_values.specs.declared.error.TantivyError.TheVariants.{OutOfMemory}
use Rattle.seg_directory.specs.StepSequences.{GoesOn}
use Rattle.seg_directory.specs.DirectoryStates.{DirectoryState}
use Rattle.seg_directory.specs.DirectorySteps.{Step, StepBreaks, StepGoes, Works, CallBreaks, calls, failed, has_files, passes}
use Rattle.seg_directory.specs.Calls.{Call}
use Rattle.seg_meta.specs.declared.index_meta.IndexMeta.{IndexMeta}
use Rattle.seg_model.specs.Fields.{Analyzer}
use Rattle.seg_model.specs.Input.{Input}
use Rattle.seg_model.specs.ValidInputs.{Known}
use Rattle.seg_segment.proofs.Exports.{Unchanged}
use Rattle.seg_open.specs.OpenSegment.{OpenSegment}
use Rattle.seg_open.specs.OpeningSteps.{OpensSegments}
use Rattle.seg_open.proofs.Exports.{segments_stay}
use Rattle.seg_index_build.specs.DirectoryCalls.{BeginsIndexes, BuildsIndexes, FillsWork, WritesIndexes, merge_of}
use Rattle.seg_index_build.specs.MergedSegments.{FillsOutput, MergeInput, MergesLive, MergesSegments, fills, live_asked, mixes, starves}
use Rattle.seg_index_build.specs.WorkIndexSteps.{after_batches, in_batches}
use Rattle.seg_index_build.specs.TwoDirectories.{Directories, InOutput, InWork, Passes, Then, goes_on, stops}

-- ---- one directory

pub record Steady (a b : DirectoryState) : Type 0 where
  pub tells : b.tells ≡ a.tells
  pub later : a.faults ≤ b.faults

pub still_there : (a b : DirectoryState) → b ≡ a → Steady a b
still_there a b same = record {
  tells = ap (λ (s : DirectoryState). s.tells) same;
  later = subst (λ (s : DirectoryState). a.faults ≤ s.faults) (sym same) (omega arith);
}

pub then_steady : (a b c : DirectoryState) → Steady a b → Steady b c → Steady a c
then_steady a b c h k = record { tells = k.tells ∙ h.tells; later = omega (arith, h.later, k.later) }

step_steady : (step : Step) (a b : DirectoryState) → StepGoes step a b → Steady a b
step_steady (calls call) a b goes = record { tells = goes.tells; later = goes.later }
step_steady (passes refusal) a b goes = still_there a b goes.1

call_steady : (call : Call) (e : TantivyError) (a b : DirectoryState) → CallBreaks call e a b → Steady a b
call_steady call e a b (failed d is fails) = record { tells = fails.tells; later = fails.later }
call_steady call e a b (has_files n is some told goes) = record { tells = goes.tells; later = goes.later }

break_steady : (step : Step) (e : TantivyError) (a b : DirectoryState) → StepBreaks step e a b → Steady a b
break_steady (calls call) e a b breaks = call_steady call e a b breaks
break_steady (passes refusal) e a b breaks = still_there a b breaks.1

on_steady : {T : Type 0} (steps : List Step) (r : Result T TantivyError) (a b : DirectoryState)
    → GoesOn StepGoes StepBreaks OutOfMemory steps r a b → Steady a b
on_steady [] r a b h = still_there a b h.0
on_steady (step ∷ steps) r a b (inl w) = then_steady a w.0 b (step_steady step a w.0 w.1) (on_steady steps r w.0 b w.2)
on_steady (step ∷ steps) (Ok x) a b (inr no_error) = absurd no_error
on_steady (step ∷ steps) (Err e) a b (inr (inl starved)) = still_there a b starved.1
on_steady (step ∷ steps) (Err e) a b (inr (inr breaks)) = break_steady step e a b breaks

works_steady : {T : Type 0} {steps : List Step} (r : Result T TantivyError) (a b : DirectoryState) → Works steps r a b → Steady a b
works_steady r a b works = on_steady _ r a b works.on

pub unchanged_steady : (a b : DirectoryState) → Unchanged a b → Steady a b
unchanged_steady a b h = record { tells = h.tells; later = h.later }

-- ---- both

pub record BothSteady (a b : Directories) : Type 0 where
  pub work : Steady a.work b.work
  pub output : Steady a.output b.output

pub both_there : (a b : Directories) → b ≡ a → BothSteady a b
both_there a b same = record {
  work = still_there a.work b.work (ap (λ (d : Directories). d.work) same);
  output = still_there a.output b.output (ap (λ (d : Directories). d.output) same);
}

pub both_then : (a b c : Directories) → BothSteady a b → BothSteady b c → BothSteady a c
both_then a b c h k = record {
  work = then_steady a.work b.work c.work h.work k.work;
  output = then_steady a.output b.output c.output h.output k.output;
}

module _ {T : Type 0} (does : Result T TantivyError → DirectoryState → DirectoryState → Type 0)
    (steady : (r : Result T TantivyError) (a b : DirectoryState) → does r a b → Steady a b) where
  pub in_work : (r : Result T TantivyError) (a b : Directories) → InWork does r a b → BothSteady a b
  in_work r a b h = record { work = steady r a.work b.work h.0; output = still_there a.output b.output h.1 }

  pub in_output : (r : Result T TantivyError) (a b : Directories) → InOutput does r a b → BothSteady a b
  in_output r a b h = record { work = still_there a.work b.work h.1; output = steady r a.output b.output h.0 }

module _ {X T : Type 0} (first : Result X TantivyError → Directories → Directories → Type 0) (next : X → Result T TantivyError → Directories → Directories → Type 0)
    (first_so : (r : Result X TantivyError) (a b : Directories) → first r a b → BothSteady a b)
    (next_so : (x : X) (r : Result T TantivyError) (a b : Directories) → next x r a b → BothSteady a b) where
  pub in_turn : (r : Result T TantivyError) (a b : Directories) → Then first next r a b → BothSteady a b
  in_turn r a b (stops e is h) = first_so (Err e) a b h
  in_turn r a b (goes_on x m h k) = both_then a m b (first_so (Ok x) a m h) (next_so x r m b k)

-- ---- merges

module _ {T : Type 0} (m : MergeInput) where
  fills_steady : (opened : List OpenSegment) (r : Result T TantivyError) (a b : DirectoryState) → FillsOutput m opened r a b → Steady a b
  fills_steady opened r a b (starves is same) = still_there a b same
  fills_steady opened r a b (mixes is none same) = still_there a b same
  fills_steady opened r a b (fills files joins works) = works_steady r a b works

  live_steady : (r : Result T TantivyError) (a b : Directories) → MergesLive m r a b → BothSteady a b
  live_steady =
      in_turn _ _ (in_output _ (λ r a b h. works_steady r a b h))
      (λ u. in_turn _ _ (in_work _ (λ r a b h. unchanged_steady a b (segments_stay (live_asked m.segments m.filters) a b r h)))
      (λ opened. in_turn _ _ (λ r a b h. both_there a b h.1)
      (λ v. in_output _ (fills_steady opened))))

  pub merges_steady : (r : Result T TantivyError) (a b : Directories) → MergesSegments m r a b → BothSteady a b
  merges_steady r a b h = in_turn _ _ (λ q c d k. both_there c d k.1) (λ u. live_steady) r a b h.merges

-- ---- the building of both indexes

module _ (known : Known) (analyzer : Analyzer) (input : Input) where
  begins_steady : (r : Result (Unit {0}) TantivyError) (a b : Directories) → BeginsIndexes input.settings input.schema r a b → BothSteady a b
  begins_steady =
      in_turn _ _ (in_work _ (λ r a b h. works_steady r a b h))
      (λ u. in_turn _ _ (in_output _ (λ r a b h. works_steady r a b h))
      (λ v. in_work _ (λ r a b h. works_steady r a b h)))

  filled_steady : (r : Result (Unit {0}) TantivyError) (a b : DirectoryState) → FillsWork analyzer input r a b → Steady a b
  filled_steady r a b (in_batches e is h) = works_steady {T = Unit {0}} (Err e) a b h.works
  filled_steady r a b (after_batches m h k) = then_steady a m b (works_steady (Ok tt) a m h.works) (works_steady r m b k.works)

  writes_steady : (r : Result IndexMeta TantivyError) (a b : Directories) → WritesIndexes analyzer input r a b → BothSteady a b
  writes_steady =
      in_turn _ _ begins_steady
      (λ u. in_turn _ _ (in_work _ filled_steady) (λ v. live_steady (merge_of analyzer input)))

  pub builds_steady : (r : Result IndexMeta TantivyError) (a b : Directories) → BuildsIndexes known analyzer input r a b → BothSteady a b
  builds_steady r a b h = in_turn _ _ (λ q c d k. both_there c d k.1) (λ u. writes_steady) r a b h
