-- Segments that are asked for, and those of them that have a live document.
use Rattle.std.proofs.Common.{◌≡◌, ◌∙◌, Bool, true, false, cond, List, [], ◌∷◌, Option, refl, ap}
use Rattle.std.specs.Prelude.{◌&&◌}
use Rattle.std.specs.List.{AllByRecursion, filter}
use Rattle.std.proofs.lemmas.Bool.{false≢true, and_parts}
use Rattle.seg_directory.specs.Files.{NamedFiles}
use Rattle.seg_meta.specs.IndexOfFiles as index
use Rattle.seg_meta.specs.Metas.{SegmentParts}
use Rattle.seg_model.specs.Input.{Filter}
use Rattle.seg_segment.specs.IndexForms.{segment_forms}
use Rattle.seg_open.specs.OpeningSteps.{Asked, asked_of}
use Rattle.seg_open.proofs.Exports.{Whole}
use Rattle.seg_merger.specs.Merger.{all_fit, fits}
use Rattle.seg_index_build.specs.MergeAnswers.{LiveAreWhole}
use Rattle.seg_index_build.specs.MergedSegments.{is_live, kept_filters, live_asked}

-- ---- lists

-- what holds of each that passes a test holds of those that do
pub all_passed : {X : Type 0} (P : X → Type 0) (p : X → Bool) (xs : List X)
    → AllByRecursion (λ x. p x ≡ true → P x) xs → AllByRecursion P (filter p xs)
all_passed P p [] h = tt
all_passed P p (x ∷ xs) h = by (p x) refl (all_passed P p xs h.1)
  where
    by : (b : Bool) → p x ≡ b → AllByRecursion P (filter p xs)
        → AllByRecursion P (cond b (x ∷ filter p xs) (filter p xs))
    by true passes rest = (h.0 passes, rest)
    by false passes rest = rest

-- what holds of each segment holds of each that is asked for
pub all_asked : (P : SegmentParts → Type 0) (segments : List SegmentParts) (filters : List (Option Filter))
    → AllByRecursion P segments → AllByRecursion (λ (a : Asked). P a.segment) (asked_of segments filters)
all_asked P [] filters h = tt
all_asked P (s ∷ segments) [] h = tt
all_asked P (s ∷ segments) (f ∷ filters) h = (h.0, all_asked P segments filters h.1)

-- ---- the live segments

-- each is whole
pub live_whole : (files : NamedFiles) (segments : List SegmentParts) (filters : List (Option Filter))
    → LiveAreWhole files segments → AllByRecursion (Whole files) (live_asked segments filters)
live_whole files segments filters whole =
    all_passed (Whole files) (λ a. is_live a.segment.meta) (asked_of segments filters)
    (all_asked (λ s. is_live s.meta ≡ true → index.IsWhole segment_forms files s.schema s.meta) segments filters whole)

-- they are those that are live, each under its filter
pub live_parts : (segments : List SegmentParts) (filters : List (Option Filter)) → all_fit filters segments ≡ true
    → asked_of (filter (λ s. is_live s.meta) segments) (kept_filters segments filters) ≡ live_asked segments filters
live_parts [] filters fit = refl
live_parts (s ∷ segments) [] fit = absurd (false≢true fit)
live_parts (s ∷ segments) (f ∷ filters) fit =
    by (is_live s.meta) (live_parts segments filters (and_parts (fits f s) (all_fit filters segments) fit).1)
  where
    by : (b : Bool)
        → asked_of (filter (λ x. is_live x.meta) segments) (kept_filters segments filters) ≡ live_asked segments filters
        → asked_of (cond b (s ∷ filter (λ x. is_live x.meta) segments) (filter (λ x. is_live x.meta) segments))
        (cond b (f ∷ kept_filters segments filters) (kept_filters segments filters))
        ≡ cond b (record { segment = s; custom = f } ∷ live_asked segments filters) (live_asked segments filters)
    by true rest = ap (λ (l : List Asked). record { segment = s; custom = f } ∷ l) rest
    by false rest = rest

-- their filters fit
pub live_fit : (segments : List SegmentParts) (filters : List (Option Filter)) → all_fit filters segments ≡ true
    → all_fit (kept_filters segments filters) (filter (λ s. is_live s.meta) segments) ≡ true
live_fit [] [] fit = refl
live_fit [] (f ∷ filters) fit = absurd (false≢true fit)
live_fit (s ∷ segments) [] fit = absurd (false≢true fit)
live_fit (s ∷ segments) (f ∷ filters) fit =
    let parts = and_parts (fits f s) (all_fit filters segments) fit in
    by (is_live s.meta) parts.0 (live_fit segments filters parts.1)
  where
    by : (b : Bool) → fits f s ≡ true
        → all_fit (kept_filters segments filters) (filter (λ x. is_live x.meta) segments) ≡ true
        → all_fit (cond b (f ∷ kept_filters segments filters) (kept_filters segments filters))
        (cond b (s ∷ filter (λ x. is_live x.meta) segments) (filter (λ x. is_live x.meta) segments)) ≡ true
    by true one rest = ap (λ t. t && all_fit (kept_filters segments filters) (filter (λ x. is_live x.meta) segments)) one ∙ rest
    by false one rest = rest
