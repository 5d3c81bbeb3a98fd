-- What is told of the merge of segments, from its turns.
use Rattle.std.proofs.Common.{◌≡◌, ◌≢◌, ◌∙◌, ℕ, Bool, true, false, List, [], ◌∷◌, IsTrue, Option, Some, None, Result, Ok, Err, refl, sym, ap, subst, inl, inr}
use Rattle.std.specs.Prelude.{◌⊎◌, IfErr, IfOk}
use Rattle.std.specs.FinMap.{len}
use Rattle.std.specs.Option.{option_or}
use Rattle.seg_segment.proofs.Exports.{failing}
use Rattle.seg_values.specs.declared.error.ArgumentCause.{ArgumentCause}
use Rattle.seg_values.specs.declared.error.ArgumentCause.TheVariants.{DifferentSchemas, Filters, NoSegments, Settings}
use Rattle.seg_values.specs.declared.error.TantivyError.{TantivyError}
use Rattle.seg_values.specs.declared.error.TantivyError.TheVariants.{IndexAlreadyExists, InvalidArgument, OutOfMemory}
use Rattle.seg_meta.specs.IndexOfFiles as index
use Rattle.seg_meta.specs.IndexOfFiles.{Meta}
use Rattle.seg_meta.specs.Metas.{SegmentParts}
use Rattle.seg_model.specs.DocumentCheck.{unless}
use Rattle.seg_model.specs.ValidInputs.{settings_fit}
use Rattle.seg_segment.specs.IndexForms.{segment_forms}
use Rattle.seg_open.specs.Answers.{seen_as}
use Rattle.seg_open.specs.OpeningSteps.{IsNoDamage}
use Rattle.seg_merger.specs.Merger.{all_fit}
use Rattle.seg_index_build.specs.MergeAnswers.{CanBeMerged, IsMergeError, IsMergeOf, IsWholeIndex, LiveAreWhole}
use Rattle.seg_index_build.specs.MergedSegments.{AreMerged, AreOfOne, IsRefusal, MergeInput, MergesSegments, MergesTo, one_refusal, output_meta_of}
use Rattle.seg_index_build.specs.TwoDirectories.{Directories, goes_on, stops}
use Rattle.seg_index_build.proofs.MergeErrors.{merge_error, merge_fresh, merge_starved, merge_undamaged}
use Rattle.seg_index_build.proofs.MergeContents.{answer_index, answer_merge, answer_whole}
use Rattle.seg_index_build.proofs.MergeTurns.{answered, merge_exits, unanswered}

-- ---- refusals

-- there is one refusal, or none
pub one_only : (m : MergeInput) (segments : List SegmentParts) (r s : Option TantivyError) → IsRefusal m segments r
    → IsRefusal m segments s → r ≡ s
one_only m [] r s h k = h ∙ sym k
one_only m (x ∷ segments) r s (inl h) (inl k) = h.1 ∙ sym k.1
one_only m (x ∷ segments) r s (inl h) (inr k) = absurd (h.0 k.0)
one_only m (x ∷ segments) r s (inr h) (inl k) = absurd (k.0 h.0)
one_only m (x ∷ segments) r s (inr h) (inr k) = h.1 ∙ sym k.1

unless_cause : (b : Bool) (cause : ArgumentCause) (e : TantivyError) → unless b (InvalidArgument cause) ≡ Some e
    → InvalidArgument cause ≡ e
unless_cause true cause e is = absurd (cc is)
unless_cause false cause e is = cc is

or_cause : (b : Bool) (cause : ArgumentCause) (rest : Option TantivyError) (e : TantivyError)
    → option_or (unless b (InvalidArgument cause)) rest ≡ Some e → (InvalidArgument cause ≡ e) ⊎ (rest ≡ Some e)
or_cause true cause rest e is = inr is
or_cause false cause rest e is = inl (cc is)

-- and it tells a cause
abbrev pub IsArgument : TantivyError → Type 0
IsArgument e = (cause : ArgumentCause) × (e ≡ InvalidArgument cause)

one_cause : (m : MergeInput) (e : TantivyError) → one_refusal m ≡ Some e → IsArgument e
one_cause m e is = elim (or_cause (all_fit m.filters m.segments) Filters _ e is) [
  | inl first ↦ (Filters, sym first)
  | inr last ↦ (Settings, sym (unless_cause (settings_fit m.settings) Settings e last))
]

pub some_is : (e d : TantivyError) → Some e ≡ Some d → e ≡ d
some_is e d is = cc is

pub cause_of : (m : MergeInput) (segments : List SegmentParts) (e : TantivyError) → IsRefusal m segments (Some e) → IsArgument e
cause_of m [] e h = (NoSegments, some_is e (InvalidArgument NoSegments) h)
cause_of m (x ∷ segments) e (inl h) = (DifferentSchemas, some_is e (InvalidArgument DifferentSchemas) h.1)
cause_of m (x ∷ segments) e (inr h) = one_cause m e (sym h.1)

-- nothing refuses segments that are merged
none_refused : (m : MergeInput) → AreMerged m → one_refusal m ≡ None
none_refused m merged =
    ap (λ b. option_or (unless b (InvalidArgument Filters)) (unless (settings_fit m.settings) (InvalidArgument Settings))) merged.fit
    ∙ ap (λ b. unless b (InvalidArgument Settings)) merged.settings

refusal_none : (m : MergeInput) (segments : List SegmentParts) → (segments ≡ [] → ⊥) → AreOfOne m.segments
    → one_refusal m ≡ None → IsRefusal m segments None
refusal_none m [] some of_one none = absurd (some refl)
refusal_none m (x ∷ segments) some of_one none = inr (of_one, sym none)

pub merged_refusal : (m : MergeInput) → AreMerged m → IsRefusal m m.segments None
merged_refusal m merged = refusal_none m m.segments merged.some merged.of_one (none_refused m merged)

-- ---- segments that are refused

module _ (m : MergeInput) (e : TantivyError) (is : IsRefusal m m.segments (Some e)) where
  pub refused_does : (T : Type 0) (a : Directories) → MergesSegments {T = T} m (Err e) a a
  refused_does T a = record { refusal = Some e; is = is; merges = stops e refl (inl refl, refl) }

  pub refused_so : (T : Type 0) (d : TantivyError) → IsRefusal m m.segments (Some d) → failing T e ≡ Err d
  refused_so T d other = ap (failing T) (some_is e d (one_only m m.segments (Some e) (Some d) is other))

  argument : IsArgument e
  argument = cause_of m m.segments e is

  pub refused_error : (a b : Directories) → IsMergeError m a b e
  refused_error a b =
      subst (λ (x : TantivyError). IsMergeError m a b x) (sym argument.1)
      (inl (subst (λ (x : TantivyError). IsRefusal m m.segments (Some x)) argument.1 is))

  pub refused_undamaged : IsNoDamage e
  refused_undamaged = subst IsNoDamage (sym argument.1) tt

  pub refused_fresh : (T : Type 0) → failing T e ≢ Err IndexAlreadyExists
  refused_fresh T at = cc (ap (failing T) (sym argument.1) ∙ at)

  pub refused_complete : (a b : Directories) → CanBeMerged m a b → e ≡ OutOfMemory
  refused_complete a b can = absurd (cc (one_only m m.segments (Some e) None is (merged_refusal m can.merged)))

-- ---- and those that are merged

module _ {T : Type 0} (m : MergeInput) (merged : AreMerged m) (f : T → Meta) where
  pub merged_does : (r : Result T TantivyError) (a b : Directories) → MergesTo m (seen_as f r) a b → MergesSegments m r a b
  merged_does r a b h =
      record { refusal = None; is = merged_refusal m merged; merges = goes_on tt a (refl, refl) (unanswered m f r a b h) }

  pub merged_refused : (r : Result T TantivyError) (P : Type 0) (e : TantivyError) → IsRefusal m m.segments (Some e) → P
  merged_refused r P e refusal =
      absurd (cc (one_only m m.segments (Some e) None refusal (merged_refusal m merged)))

  pub merged_meta : (r : Result T TantivyError) (a b : Directories) → MergesTo m (seen_as f r) a b
      → IfOk r (λ x. (documents : ℕ) × (f x ≡ output_meta_of m documents))
  merged_meta (Ok x) a b h = let answer = answered m (f x) a b h in (_, answer.counted)
  merged_meta (Err e) a b h = tt

  pub merged_error : (r : Result T TantivyError) (a b : Directories) → MergesTo m (seen_as f r) a b
      → IfErr r (IsMergeError m a b)
  merged_error (Ok x) a b h = tt
  merged_error (Err e) a b h =
      merge_error m merged e a b (merge_exits m T e a b (unanswered m f (failing T e) a b h))

  pub merged_index : (r : Result T TantivyError) (a b : Directories) → MergesTo m (seen_as f r) a b → IsTrue a.work.tells
      → IfOk r (λ x. IsMergeOf m a.work.files (IsTrue a.output.tells) b.output.files (f x))
  merged_index (Ok x) a b h told = answer_merge m (f x) a b (answered m (f x) a b h) told
  merged_index (Err e) a b h told = tt

  pub merged_output : (r : Result T TantivyError) (a b : Directories) → MergesTo m (seen_as f r) a b → IsTrue a.output.tells
      → IfOk r (λ x. index.index_of segment_forms b.output.files ≡ Some (f x))
  merged_output (Ok x) a b h told = answer_index m (f x) a b (answered m (f x) a b h) told
  merged_output (Err e) a b h told = tt

  pub merged_undamaged : (r : Result T TantivyError) (a b : Directories) → MergesTo m (seen_as f r) a b → IsTrue a.work.tells
      → LiveAreWhole a.work.files m.segments → IfErr r IsNoDamage
  merged_undamaged (Ok x) a b h told whole = tt
  merged_undamaged (Err e) a b h told whole =
      merge_undamaged m merged e a b told whole (merge_exits m T e a b (unanswered m f (failing T e) a b h))

  pub merged_whole : (r : Result T TantivyError) (a b : Directories) → MergesTo m (seen_as f r) a b → IsTrue a.output.tells
      → IfOk r (λ x. IsWholeIndex b.output.files (f x))
  merged_whole (Ok x) a b h told = answer_whole m (f x) a b (answered m (f x) a b h) merged.fit told
  merged_whole (Err e) a b h told = tt

  pub merged_fresh : (r : Result T TantivyError) (a b : Directories) → MergesTo m (seen_as f r) a b → IsTrue a.output.tells
      → len a.output.files ≡ 0 → r ≢ Err IndexAlreadyExists
  merged_fresh (Ok x) a b h told none at = cc at
  merged_fresh (Err e) a b h told none at =
      merge_fresh m merged e a b told none (merge_exits m T e a b (unanswered m f (failing T e) a b h)) (cc at)

  pub merged_complete : (r : Result T TantivyError) (a b : Directories) → MergesTo m (seen_as f r) a b → CanBeMerged m a b
      → IfErr r (λ e. e ≡ OutOfMemory)
  merged_complete (Ok x) a b h can = tt
  merged_complete (Err e) a b h can =
      merge_starved m merged e a b can (merge_exits m T e a b (unanswered m f (failing T e) a b h))
