-- Filters that fit the segments that they are for.
use Rattle.std.proofs.Common.{◌≡◌, ◌≢◌, ℕ, suc, ◌+◌, ◌<◌, Bool, true, false, List, [], ◌∷◌, map, length, replicate, drop, get_or, Some, None, Option, Ok, refl, sym, ap, subst, ◌∙◌, arith, ◌^◌, ◌≤◌}
use Rattle.std.specs.Prelude.{◌&&◌}
use Rattle.std.specs.List.{AllByRecursion}
use Rattle.std.proofs.lemmas.Bool.{false≢true, le-ltb, lt-ltb, and_parts}
use Rattle.std.proofs.lemmas.Bool.Decides.{nat_tests}
use Rattle.std.proofs.lemmas.List.{drop_more}
use Rattle.seg_values.specs.declared.error.ArgumentCause.TheVariants.{Documents, Filters}
use Rattle.seg_values.specs.declared.error.TantivyError.{TantivyError}
use Rattle.seg_values.specs.declared.error.TantivyError.TheVariants.{InvalidArgument}
use Rattle.seg_directory.specs.DirectoryStates.{DirectoryState}
use Rattle.seg_meta.specs.Metas.{SegmentParts}
use Rattle.seg_model.specs.DocumentCheck.{unless}
use Rattle.seg_model.specs.Fields.{Schema}
use Rattle.seg_model.specs.Input.{Filter}
use Rattle.seg_open.specs.OpenSegment.{IsOfSchema, OpenSegment}
use Rattle.seg_open.specs.OpeningSteps.{AreReadersOf, FilterFits, FiltersFit, Found, OpensSegments, asked_of}
use Rattle.seg_merger.specs.Merger.{all_fit, fits, merger_refusal, too_many}
use Rattle.seg_merger.proofs.KeptCounts.{HasShape}

-- ---- whether they fit

one_fits : (f : Option Filter) (s : SegmentParts) → fits f s ≡ true → FilterFits f s
one_fits None s h = tt
one_fits (Some f) s h = grind (arith, nat_tests)

pub are_fitting : (filters : List (Option Filter)) (segments : List SegmentParts) → all_fit filters segments ≡ true → FiltersFit filters segments
are_fitting [] [] h = tt
are_fitting [] (s ∷ segments) h = absurd (false≢true h)
are_fitting (f ∷ filters) [] h = absurd (false≢true h)
are_fitting (f ∷ filters) (s ∷ segments) h =
    let parts = and_parts (fits f s) (all_fit filters segments) h in
    (one_fits f s parts.0, are_fitting filters segments parts.1)

-- more or fewer filters than segments don't fit
pub other_number : (filters : List (Option Filter)) (segments : List SegmentParts) → length filters ≢ length segments → all_fit filters segments ≡ false
other_number [] [] h = absurd (h refl)
other_number [] (s ∷ segments) h = refl
other_number (f ∷ filters) [] h = refl
other_number (f ∷ filters) (s ∷ segments) h = none (fits f s) _ (other_number filters segments (λ e. h (ap suc e)))
  where
    none : (a b : Bool) → b ≡ false → (a && b) ≡ false
    none true b e = e
    none false b e = refl

-- no filter fits each
pub fit_none : (segments : List SegmentParts) → all_fit (map (λ (s : SegmentParts). None) segments) segments ≡ true
fit_none [] = refl
fit_none (s ∷ segments) = fit_none segments

-- the first, and the others
pub fit_next : (filters : List (Option Filter)) (segments : List SegmentParts) (i : ℕ) (f : Option Filter) (s : SegmentParts) → i < length filters → i < length segments → f ≡ get_or filters i f → s ≡ get_or segments i s
    → all_fit (drop i filters) (drop i segments) ≡ (fits f s && all_fit (drop (i + 1) filters) (drop (i + 1) segments))
fit_next filters segments i f s lt within is_f is_s =
    ap (λ l. all_fit l (drop i segments)) (drop_more filters i f lt ∙ ap (λ x. x ∷ drop (i + 1) filters) (sym is_f))
    ∙ ap (λ l. all_fit (f ∷ drop (i + 1) filters) l) (drop_more segments i s within ∙ ap (λ x. x ∷ drop (i + 1) segments) (sym is_s))

-- as many times none as there are segments
abbrev pub no_filter : Option Filter
no_filter = None

pub none_each : (segments : List SegmentParts) → replicate (length segments) no_filter ≡ map (λ (s : SegmentParts). no_filter) segments
none_each [] = refl
none_each (s ∷ segments) = ap (λ l. no_filter ∷ l) (none_each segments)

-- ---- the schema of what is opened

of_schema : (schema : Schema) (segments : List SegmentParts) (filters : List (Option Filter)) (found : List Found) (opened : List OpenSegment) → AllByRecursion (λ (s : SegmentParts). s.schema ≡ schema) segments
    → AreReadersOf (asked_of segments filters) found opened → AllByRecursion (λ (r : OpenSegment). r.schema ≡ schema) opened
of_schema schema segments filters found [] same are = tt
of_schema schema [] filters found (r ∷ opened) same are = absurd are
of_schema schema (s ∷ segments) [] found (r ∷ opened) same are = absurd are
of_schema schema (s ∷ segments) (f ∷ filters) [] (r ∷ opened) same are = absurd are
of_schema schema (s ∷ segments) (f ∷ filters) (g ∷ found) (r ∷ opened) same are =
    (are.0.has.of_schema ∙ same.0, of_schema schema segments filters found opened same.1 are.1)

pub opened_schema : (schema : Schema) (segments : List SegmentParts) (filters : List (Option Filter)) (opened : List OpenSegment) (a b : DirectoryState) → AllByRecursion (λ (s : SegmentParts). s.schema ≡ schema) segments
    → OpensSegments (asked_of segments filters) (Ok opened) a b → AllByRecursion (λ (r : OpenSegment). r.schema ≡ schema) opened
opened_schema schema segments filters opened a b same o = of_schema schema segments filters o.found opened same o.are

-- ---- what is refused

module _ (segments : List SegmentParts) (filters : List (Option Filter)) where
  abbrev by : Bool → Option TantivyError
  by fit = unless fit (InvalidArgument Filters)

  pub refused_filters : all_fit filters segments ≡ false → merger_refusal segments filters ≡ Some (InvalidArgument Filters)
  refused_filters e = ap by e

  pub not_refused : all_fit filters segments ≡ true → merger_refusal segments filters ≡ None
  not_refused e = ap by e

-- ---- how many documents there are

module _ (documents : ℕ) where
  abbrev told_by : Bool → Option TantivyError
  told_by few = unless few (InvalidArgument Documents)

  pub told_none : documents < 2 ^ 31 → too_many documents ≡ None
  told_none few = ap told_by (lt-ltb documents 2147483648 few)

  pub told_many : 2 ^ 31 ≤ documents → too_many documents ≡ Some (InvalidArgument Documents)
  told_many many = ap told_by (le-ltb documents 2147483648 many)

-- ---- segments of full shape

pub of_full_shape : (schema : Schema) (readers : List OpenSegment) → AllByRecursion (λ (r : OpenSegment). r.schema ≡ schema) readers → AllByRecursion HasShape readers → AllByRecursion (IsOfSchema schema) readers
of_full_shape schema [] same shape = tt
of_full_shape schema (r ∷ readers) same shape =
    (subst (λ (s : Schema). IsOfSchema s r) same.0 shape.0, of_full_shape schema readers same.1 shape.1)
