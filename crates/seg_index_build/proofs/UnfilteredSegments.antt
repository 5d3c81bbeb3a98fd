-- Segments without filters, and settings that are compared.
use Rattle.std.proofs.Common.{◌≡◌, ◌∙◌, ℕ, Bool, true, false, cond, List, [], ◌∷◌, None, Some, Option, refl, sym, ap, subst}
use Rattle.std.specs.List.{AllByRecursion, filter, slice_get}
use Rattle.seg_directory.specs.DirectoryStates.{DirectoryState}
use Rattle.seg_values.specs.declared.error.ArgumentCause.TheVariants.{DifferentSettings, NoIndices}
use Rattle.seg_values.specs.declared.error.TantivyError.{TantivyError}
use Rattle.seg_values.specs.declared.error.TantivyError.TheVariants.{InvalidArgument}
use Rattle.std.specs.Prelude.{Result}
use Rattle.seg_meta.specs.Metas.{SegmentParts}
use Rattle.seg_meta.specs.MetaMeaning.{settings_of}
use Rattle.seg_meta.specs.declared.index_meta.IndexMeta.{IndexMeta}
use Rattle.seg_meta.specs.declared.index_settings.IndexSettings.{IndexSettings}
use Rattle.seg_model.specs.Input as input
use Rattle.seg_model.specs.Input.{Filter}
use Rattle.seg_open.specs.OpenSegment.{OpenSegment}
use Rattle.seg_open.specs.OpeningSteps.{Asked, FiltersFit, OpensSegments, asked_of}
use Rattle.seg_index_build.specs.MergedSegments.{MergeInput, is_live, live_asked, merge_input}
use Rattle.seg_index_build.specs.MergedIndices.{AreAlike, IsUnlike, all_segments, asked_of_index, first_settings, indices_input, listed_segments, unfiltered}

-- no filter fits each
pub none_fit : (segments : List SegmentParts) → FiltersFit (unfiltered segments) segments
none_fit [] = tt
none_fit (s ∷ segments) = (tt, none_fit segments)

-- the live ones are asked for
pub live_unfiltered : (segments : List SegmentParts)
    → asked_of (filter (λ s. is_live s.meta) segments) (unfiltered (filter (λ s. is_live s.meta) segments))
    ≡ live_asked segments (unfiltered segments)
live_unfiltered [] = refl
live_unfiltered (s ∷ segments) = by (is_live s.meta) (live_unfiltered segments)
  where
    by : (b : Bool)
        → asked_of (filter (λ x. is_live x.meta) segments) (unfiltered (filter (λ x. is_live x.meta) segments))
        ≡ live_asked segments (unfiltered segments)
        → asked_of (cond b (s ∷ filter (λ x. is_live x.meta) segments) (filter (λ x. is_live x.meta) segments))
        (unfiltered (cond b (s ∷ filter (λ x. is_live x.meta) segments) (filter (λ x. is_live x.meta) segments)))
        ≡ cond b (record { segment = s; custom = None } ∷ live_asked segments (unfiltered segments)) (live_asked segments (unfiltered segments))
    by true rest = ap (λ (l : List Asked). record { segment = s; custom = None } ∷ l) rest
    by false rest = rest

-- they are opened
pub opens_as : (i : IndexMeta) (listed live : List SegmentParts) (filters : List (Option Filter)) → listed ≡ listed_segments i
    → live ≡ filter (λ s. is_live s.meta) listed → filters ≡ unfiltered live
    → (r : Result (List OpenSegment) TantivyError) (a b : DirectoryState) → OpensSegments (asked_of live filters) r a b
    → OpensSegments (asked_of_index i) r a b
opens_as i listed live filters listed_is live_is filters_are r a b h =
    subst (λ (l : List Asked). OpensSegments l r a b)
    (ap (asked_of live) filters_are ∙ ap (λ (l : List SegmentParts). asked_of l (unfiltered l)) live_is
    ∙ live_unfiltered listed ∙ ap (λ (l : List SegmentParts). live_asked l (unfiltered l)) listed_is)
    h

-- what is asked for is the merge of the indices
abbrev made_of : List SegmentParts → input.Settings → ℕ → MergeInput
made_of segments settings id = record { segments = segments; settings = settings; filters = unfiltered segments; id = id }

pub input_is : (indices : List IndexMeta) (segments : List SegmentParts) (settings : IndexSettings) (id : ℕ)
    → segments ≡ all_segments indices → settings_of settings ≡ first_settings indices
    → merge_input segments settings (unfiltered segments) id ≡ indices_input indices id
input_is indices segments settings id are_segments are_settings =
    ap (λ (l : List SegmentParts). made_of l (settings_of settings) id) are_segments
    ∙ ap (λ (s : input.Settings). made_of (all_segments indices) s id) are_settings

-- and so with filters that are none
pub called_is : (indices : List IndexMeta) (segments : List SegmentParts) (settings : IndexSettings) (filters : List (Option Filter)) (id : ℕ)
    → segments ≡ all_segments indices → filters ≡ unfiltered segments → settings_of settings ≡ first_settings indices
    → merge_input segments settings filters id ≡ indices_input indices id
called_is indices segments settings filters id are_segments are_filters are_settings =
    ap (λ (fs : List (Option Filter)). merge_input segments settings fs id) are_filters
    ∙ input_is indices segments settings id are_segments are_settings

-- ---- settings that are compared

pub no_indices : (indices : List IndexMeta) → None ≡ slice_get indices 0 → IsUnlike indices (InvalidArgument NoIndices)
no_indices [] none = refl
no_indices (i ∷ indices) none = absurd (cc none)

module _ (settings : IndexSettings) where
  abbrev Have : List IndexMeta → Type 0
  Have indices = AllByRecursion (λ (i : IndexMeta). i.index_settings ≡ settings) indices

  first_is : (i first : IndexMeta) → Some first ≡ Some i → settings ≡ first.index_settings → settings ≡ i.index_settings
  first_is i first found is = let same : first ≡ i = cc found in is ∙ ap (λ (x : IndexMeta). x.index_settings) same

  pub other_settings : (indices : List IndexMeta) (first : IndexMeta) → Some first ≡ slice_get indices 0 → settings ≡ first.index_settings
      → (Have indices → ⊥) → IsUnlike indices (InvalidArgument DifferentSettings)
  other_settings [] first found is differ = absurd (cc found)
  other_settings (i ∷ indices) first found is differ = (
    λ all. differ
        (subst (λ (s : IndexSettings). AllByRecursion (λ (x : IndexMeta). x.index_settings ≡ s) (i ∷ indices))
        (sym (first_is i first found is)) all),
    refl,
  )

  pub same_settings : (indices : List IndexMeta) (first : IndexMeta) → Some first ≡ slice_get indices 0 → settings ≡ first.index_settings
      → Have indices → AreAlike indices
  same_settings [] first found is all = absurd (cc found)
  same_settings (i ∷ indices) first found is all =
      subst (λ (s : IndexSettings). AllByRecursion (λ (x : IndexMeta). x.index_settings ≡ s) (i ∷ indices)) (first_is i first found is) all
