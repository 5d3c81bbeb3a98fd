-- What is known of segments that are opened from several directories.
use Rattle.std.proofs.Common.{◌≡◌, ◌≤◌, ◌∙◌, ◌+◌, true, List, [], ◌∷◌, ◌++◌, map, Result, Ok, Err, refl, sym, ap, subst, inl, inr, arith}
use Rattle.std.specs.List.{AllByRecursion}
use Rattle.seg_segment.proofs.Exports.{same_error}
use Rattle.seg_common.proofs.Lists.{all_filtered}
use Rattle.seg_values.specs.declared.error.TantivyError.{TantivyError}
use Rattle.seg_values.specs.declared.error.TantivyError.TheVariants.{OpenReadError}
use Rattle.seg_directory.specs.Files.{NamedFiles}
use Rattle.seg_directory.specs.DirectoryStates.{DirectoryState}
use Rattle.seg_meta.specs.Metas.{SegmentParts}
use Rattle.seg_meta.specs.declared.index_meta.IndexMeta.{IndexMeta}
use Rattle.seg_meta.specs.MetaMeaning.{settings_of}
use Rattle.seg_model.specs.Fields.{Schema}
use Rattle.seg_open.specs.OpenSegment.{OpenSegment, kept_count}
use Rattle.seg_open.specs.OpeningSteps.{Asked, IsNoDamage, IsReadError, OpensSegments, asked_of}
use Rattle.seg_open.proofs.Exports.{EachRead, IsOf, segments_of_schema, segments_rose, segments_so, segments_stay, segments_undamaged}
use Rattle.seg_merger.specs.Merger.{all_fit}
use Rattle.seg_index_build.specs.MergedSegments.{MergeInput, is_live, live_documents}
use Rattle.seg_index_build.proofs.MergeCounts.{IsStored, opened_few, opened_stored, metas_of}
use Rattle.seg_index_build.proofs.MergeLists.{all_asked, live_whole}
use Rattle.seg_index_build.proofs.MergeContents.{opened_held}
use Rattle.seg_index_build.specs.MergedIndices.{all_segments, asked_of_index, listed_segments, unfiltered}
use Rattle.seg_index_build.specs.IndexMergeAnswers.{AnyRose, HaveHeld, SourcesAreWhole}
use Rattle.seg_index_build.specs.Sources.{AllTell, OpensSources, files_of, goes_on, stops}

abbrev opened_so : List OpenSegment → Result (List OpenSegment) TantivyError
opened_so opened = Ok opened

same_opened : (xs ys : List OpenSegment) → opened_so xs ≡ Ok ys → xs ≡ ys
same_opened xs ys is = cc is

-- no file of them changes
pub sources_stay : (asked : List (List Asked)) (r : Result (List OpenSegment) TantivyError) (before after : List DirectoryState)
    → OpensSources asked r before after
    → map (λ (s : DirectoryState). s.files) after ≡ map (λ (s : DirectoryState). s.files) before
sources_stay [] r before after h = ap (map (λ (s : DirectoryState). s.files)) h.1
sources_stay (x ∷ asked) r [] after h = absurd h
sources_stay (x ∷ asked) r (s ∷ before) after (stops e state opens is same) =
    ap (map (λ (t : DirectoryState). t.files)) same
    ∙ ap (λ (f : NamedFiles). f ∷ map (λ (t : DirectoryState). t.files) before) (segments_stay x s state (Err e) opens).files
sources_stay (x ∷ asked) r (s ∷ before) after (goes_on opened state last states opens next is same) =
    ap (map (λ (t : DirectoryState). t.files)) same
    ∙ ap (λ (f : NamedFiles). f ∷ map (λ (t : DirectoryState). t.files) states) (segments_stay x s state (Ok opened) opens).files
    ∙ ap (λ (l : List NamedFiles). s.files ∷ l) (sources_stay asked last before states next)

-- ---- what they hold

-- the segments of one index, as they are asked for
abbrev one_input : IndexMeta → MergeInput
one_input i = record { segments = listed_segments i; settings = settings_of i.index_settings; filters = unfiltered (listed_segments i); id = 0 }

pub sources_held : (indices : List IndexMeta) (before after : List DirectoryState) (opened : List OpenSegment)
    → AllTell before
    → OpensSources (map asked_of_index indices) (Ok opened) before after
    → HaveHeld (files_of before) indices opened
sources_held [] before after opened told h = same_opened opened [] h.0
sources_held (i ∷ indices) [] after opened told h = absurd h
sources_held (i ∷ indices) (s ∷ before) after opened told (stops e state opens is same) = absurd (cc is)
sources_held (i ∷ indices) (s ∷ before) after opened told (goes_on mine state (Err e) states opens next is same) = absurd (cc is)
sources_held (i ∷ indices) (s ∷ before) after opened told (goes_on mine state (Ok more) states opens next is same) = (
  mine,
  more,
  same_opened opened (mine ++ more) is,
  opened_held (one_input i) mine s state told.0 opens,
  sources_held indices before states more told.1 next,
)

-- ---- of which schema they are

module _ (schema : Schema) where
  abbrev IsSo : SegmentParts → Type 0
  IsSo s = s.schema ≡ schema

  each_so : (asked : List Asked) (opened : List OpenSegment) → AllByRecursion (λ (a : Asked). IsSo a.segment) asked
      → EachRead IsOf asked opened → AllByRecursion (λ (r : OpenSegment). r.schema ≡ schema) opened
  each_so [] [] all each = tt
  each_so [] (s ∷ opened) all each = absurd each
  each_so (a ∷ asked) [] all each = absurd each
  each_so (a ∷ asked) (s ∷ opened) all each = (each.0.of_schema ∙ all.0, each_so asked opened all.1 each.1)

  both_so : (xs ys : List OpenSegment) → AllByRecursion (λ (r : OpenSegment). r.schema ≡ schema) xs
      → AllByRecursion (λ (r : OpenSegment). r.schema ≡ schema) ys
      → AllByRecursion (λ (r : OpenSegment). r.schema ≡ schema) (xs ++ ys)
  both_so [] ys h k = k
  both_so (x ∷ xs) ys h k = (h.0, both_so xs ys h.1 k)

  first_so : (xs ys : List SegmentParts) → AllByRecursion IsSo (xs ++ ys) → AllByRecursion IsSo xs
  first_so [] ys h = tt
  first_so (x ∷ xs) ys h = (h.0, first_so xs ys h.1)

  last_so : (xs ys : List SegmentParts) → AllByRecursion IsSo (xs ++ ys) → AllByRecursion IsSo ys
  last_so [] ys h = h
  last_so (x ∷ xs) ys h = last_so xs ys h.1

  one_so : (i : IndexMeta) (opened : List OpenSegment) (a b : DirectoryState) → AllByRecursion IsSo (listed_segments i)
      → OpensSegments (asked_of_index i) (Ok opened) a b → AllByRecursion (λ (r : OpenSegment). r.schema ≡ schema) opened
  one_so i opened a b all opens =
      each_so (asked_of_index i) opened
      (all_filtered (λ (x : Asked). IsSo x.segment) (λ (x : Asked). is_live x.segment.meta)
      (asked_of (listed_segments i) (unfiltered (listed_segments i)))
      (all_asked IsSo (listed_segments i) (unfiltered (listed_segments i)) all))
      (segments_of_schema (asked_of_index i) a b opened opens)

  pub sources_of_schema : (indices : List IndexMeta) (before after : List DirectoryState) (opened : List OpenSegment)
      → AllByRecursion IsSo (all_segments indices) → OpensSources (map asked_of_index indices) (Ok opened) before after
      → AllByRecursion (λ (r : OpenSegment). r.schema ≡ schema) opened
  sources_of_schema [] before after opened all h =
      subst (AllByRecursion (λ (r : OpenSegment). r.schema ≡ schema)) (sym (same_opened opened [] h.0)) tt
  sources_of_schema (i ∷ indices) [] after opened all h = absurd h
  sources_of_schema (i ∷ indices) (s ∷ before) after opened all (stops e state opens is same) = absurd (cc is)
  sources_of_schema (i ∷ indices) (s ∷ before) after opened all (goes_on mine state (Err e) states opens next is same) =
      absurd (cc is)
  sources_of_schema (i ∷ indices) (s ∷ before) after opened all (goes_on mine state (Ok more) states opens next is same) =
      subst (AllByRecursion (λ (r : OpenSegment). r.schema ≡ schema)) (sym (same_opened opened (mine ++ more) is))
      (both_so mine more (one_so i mine s state (first_so (listed_segments i) (all_segments indices) all) opens)
      (sources_of_schema indices before states more (last_so (listed_segments i) (all_segments indices) all) next))

-- ---- how many documents they have

-- no filter fits each
none_fit : (segments : List SegmentParts) → all_fit (unfiltered segments) segments ≡ true
none_fit [] = refl
none_fit (s ∷ segments) = none_fit segments

stored_both : (xs ys : List OpenSegment) → AllByRecursion IsStored xs → AllByRecursion IsStored ys → AllByRecursion IsStored (xs ++ ys)
stored_both [] ys h k = k
stored_both (x ∷ xs) ys h k = (h.0, stored_both xs ys h.1 k)

-- each has as many marks as documents that are stored
pub sources_stored : (indices : List IndexMeta) (before after : List DirectoryState) (opened : List OpenSegment)
    → OpensSources (map asked_of_index indices) (Ok opened) before after → AllByRecursion IsStored opened
sources_stored [] before after opened h = subst (AllByRecursion IsStored) (sym (same_opened opened [] h.0)) tt
sources_stored (i ∷ indices) [] after opened h = absurd h
sources_stored (i ∷ indices) (s ∷ before) after opened (stops e state opens is same) = absurd (cc is)
sources_stored (i ∷ indices) (s ∷ before) after opened (goes_on mine state (Err e) states opens next is same) = absurd (cc is)
sources_stored (i ∷ indices) (s ∷ before) after opened (goes_on mine state (Ok more) states opens next is same) =
    subst (AllByRecursion IsStored) (sym (same_opened opened (mine ++ more) is))
    (stored_both mine more (opened_stored (one_input i) mine s state opens (none_fit (listed_segments i)))
    (sources_stored indices before states more next))

kept_both : (xs ys : List OpenSegment) → kept_count (xs ++ ys) ≡ kept_count xs + kept_count ys
kept_both [] ys = omega arith
kept_both (x ∷ xs) ys = let rest = kept_both xs ys in omega (arith, rest)

live_both : (xs ys : List SegmentParts)
    → live_documents (metas_of (xs ++ ys)) ≡ live_documents (metas_of xs) + live_documents (metas_of ys)
live_both [] ys = omega arith
live_both (x ∷ xs) ys = let rest = live_both xs ys in omega (arith, rest)

-- no more documents are kept than are live by the metas
pub sources_few : (indices : List IndexMeta) (before after : List DirectoryState) (opened : List OpenSegment)
    → OpensSources (map asked_of_index indices) (Ok opened) before after
    → kept_count opened ≤ live_documents (metas_of (all_segments indices))
sources_few [] before after opened h =
    subst (λ (l : List OpenSegment). kept_count l ≤ 0) (sym (same_opened opened [] h.0)) (omega arith)
sources_few (i ∷ indices) [] after opened h = absurd h
sources_few (i ∷ indices) (s ∷ before) after opened (stops e state opens is same) = absurd (cc is)
sources_few (i ∷ indices) (s ∷ before) after opened (goes_on mine state (Err e) states opens next is same) = absurd (cc is)
sources_few (i ∷ indices) (s ∷ before) after opened (goes_on mine state (Ok more) states opens next is same) =
    let first = opened_few (one_input i) mine s state opens in
    let rest = sources_few indices before states more next in
    let count = kept_both mine more in
    let live = live_both (listed_segments i) (all_segments indices) in
    subst (λ (l : List OpenSegment). kept_count l ≤ live_documents (metas_of (all_segments (i ∷ indices))))
    (sym (same_opened opened (mine ++ more) is)) (omega (arith, first, rest, count, live))

-- ---- with which errors they are not opened

-- what holds where those of one index are not opened, and is handed on from what is left, holds of all
module _ (P : List IndexMeta → TantivyError → List DirectoryState → List DirectoryState → Type 0)
    (here : (i : IndexMeta) (indices : List IndexMeta) (e : TantivyError) (s t : DirectoryState) (rest : List DirectoryState)
    → OpensSegments (asked_of_index i) (Err e) s t → P (i ∷ indices) e (s ∷ rest) (t ∷ rest))
    (there : (i : IndexMeta) (indices : List IndexMeta) (e : TantivyError) (s t : DirectoryState) (before after : List DirectoryState)
    → P indices e before after → P (i ∷ indices) e (s ∷ before) (t ∷ after)) where
  pub on_error : (indices : List IndexMeta) (e : TantivyError) (before after : List DirectoryState)
      → OpensSources (map asked_of_index indices) (Err e) before after → P indices e before after
  on_error [] e before after h = absurd (cc h.0)
  on_error (i ∷ indices) e [] after h = absurd h
  on_error (i ∷ indices) e (s ∷ before) after (stops d state opens is same) =
      subst (λ (l : List DirectoryState). P (i ∷ indices) e (s ∷ before) l) (sym same)
      (here i indices e s state before
      (subst (λ (x : TantivyError). OpensSegments (asked_of_index i) (Err x) s state) (sym (same_error (List OpenSegment) e d is)) opens))
  on_error (i ∷ indices) e (s ∷ before) after (goes_on opened state (Ok more) states opens next is same) = absurd (cc is)
  on_error (i ∷ indices) e (s ∷ before) after (goes_on opened state (Err d) states opens next is same) =
      subst (λ (l : List DirectoryState). P (i ∷ indices) e (s ∷ before) l) (sym same)
      (there i indices e s state before states
      (on_error indices e before states
      (subst (λ (x : TantivyError). OpensSources (map asked_of_index indices) (Err x) before states) (sym (same_error (List OpenSegment) e d is)) next)))

pub sources_so : (indices : List IndexMeta) (e : TantivyError) (before after : List DirectoryState)
    → OpensSources (map asked_of_index indices) (Err e) before after → IsReadError e
sources_so indices e before after h =
    on_error (λ _ d _ _. IsReadError d) (λ i rest d s t others opens. segments_so (asked_of_index i) s t d opens)
    (λ i rest d s t earlier later so. so) indices e before after h

-- a fault was counted where a file was not read
pub sources_rose : (indices : List IndexMeta) (e : TantivyError) (before after : List DirectoryState)
    → OpensSources (map asked_of_index indices) (Err e) before after → e ≡ OpenReadError → AnyRose before after
sources_rose indices e before after h =
    on_error (λ _ d a b. d ≡ OpenReadError → AnyRose a b)
    (λ i rest d s t others opens is. inl (segments_rose (asked_of_index i) s t
    (subst (λ (x : TantivyError). OpensSegments (asked_of_index i) (Err x) s t) is opens)))
    (λ i rest d s t earlier later rose is. inr (rose is)) indices e before after h

-- there is no damage where the directories tell, and their live segments are whole
pub sources_undamaged : (indices : List IndexMeta) (e : TantivyError) (before after : List DirectoryState)
    → OpensSources (map asked_of_index indices) (Err e) before after → AllTell before
    → SourcesAreWhole (files_of before) indices → IsNoDamage e
sources_undamaged indices e before after h =
    on_error (λ is d a b. AllTell a → SourcesAreWhole (files_of a) is → IsNoDamage d)
    (λ i rest d s t others opens told whole.
    segments_undamaged (asked_of_index i) s t d
    (live_whole s.files (listed_segments i) (unfiltered (listed_segments i)) whole.0) told.0 opens)
    (λ i rest d s t earlier later undamaged told whole. undamaged told.1 whole.1) indices e before after h
