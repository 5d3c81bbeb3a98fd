-- Segments of several directories, opened in a loop over these.
use Rattle.std.proofs.Common.{◌≡◌, ◌∙◌, ℕ, ◌+◌, ◌<◌, List, [], ◌∷◌, ◌++◌, map, length, take, drop, get_or, Result, Ok, Err, refl, sym, ap, subst, arith}
use Rattle.std.proofs.lemmas.List.{append-nil, append_assoc, drop-set-lt, drop_all, map-append, take-append-drop, take_all, take_more_set}
use Rattle.std.specs.Prelude.{◌≤◌, slice_set}
use Rattle.seg_values.specs.declared.error.TantivyError.{TantivyError}
use Rattle.seg_values.specs.declared.error.TantivyError.TheVariants.{OutOfMemory}
use Rattle.seg_directory.proofs.Exports.{does_nothing, then_does}
use Rattle.seg_directory.specs.DirectoryStates.{DirectoryState}
use Rattle.seg_directory.specs.DirectorySteps.{Step, Works}
use Rattle.seg_segment.proofs.Exports.{drop-item}
use Rattle.seg_open.specs.OpenSegment.{OpenSegment}
use Rattle.seg_open.specs.OpeningSteps.{Asked, OpensSegments, all_steps}
use Rattle.seg_index_build.specs.Sources.{OpensSources, followed, goes_on, stops}

-- ---- one directory

-- memory runs out after all that went well
pub runs_out : (asked : List Asked) (opened : List OpenSegment) (a b : DirectoryState) → OpensSegments asked (Ok opened) a b
    → OpensSegments asked (Err OutOfMemory) a b
runs_out asked opened a b h = record {
  found = h.found;
  checked = h.checked;
  works =
      subst (λ (steps : List Step). Works {T = List OpenSegment} steps (Err OutOfMemory) a b)
      (append-nil (all_steps asked h.found)) (then_does h.works (does_nothing []));
  are = tt;
}

-- ---- all of them

-- what is open comes to what is open
follows : (xs ys : List OpenSegment) (last : Result (List OpenSegment) TantivyError)
    → followed xs (followed ys last) ≡ followed (xs ++ ys) last
follows xs ys (Ok zs) = ap (λ (l : List OpenSegment). Ok l) (sym (append_assoc xs ys zs))
follows xs ys (Err e) = refl

module _ {I W : Type 0} (asked : I → List Asked) (state : W → DirectoryState) (indices : List I) (old : List W) where
  abbrev Opens : List I → Result (List OpenSegment) TantivyError → List W → List DirectoryState → Type 0
  Opens left r before after = OpensSources (map asked left) r (map state before) after

  -- whatever comes of those that are left, comes of all, after what is open
  abbrev pub SoFar : ℕ → List W → List OpenSegment → Type 0
  SoFar at now readers =
      (last : Result (List OpenSegment) TantivyError) (states : List DirectoryState)
      → Opens (drop at indices) last (drop at now) states
      → Opens indices (followed readers last) old (map state (take at now) ++ states)

  pub none_yet : SoFar 0 old []
  none_yet (Ok opened) states h = h
  none_yet (Err e) states h = h

  module _ (at : ℕ) (now : List W) (readers : List OpenSegment) (so_far : SoFar at now readers)
      (i : I) (within : at < length indices) (here : i ≡ get_or indices at i)
      (w : W) (w_within : at < length now) (w_here : w ≡ get_or now at w) (v : W) where
    left_indices : drop at indices ≡ i ∷ drop (at + 1) indices
    left_indices = drop-item indices at i within here

    left_sources : drop at now ≡ w ∷ drop (at + 1) now
    left_sources = drop-item now at w w_within w_here

    -- at this place
    at_place : (r : Result (List OpenSegment) TantivyError) (states : List DirectoryState)
        → Opens (i ∷ drop (at + 1) indices) r (w ∷ drop (at + 1) now) states
        → Opens indices (followed readers r) old (map state (take at now) ++ states)
    at_place r states h =
        so_far r states
        (subst (λ (l : List I). Opens l r (drop at now) states) (sym left_indices)
        (subst (λ (l : List W). Opens (i ∷ drop (at + 1) indices) r l states) (sym left_sources) h))

    taken : map state (take (at + 1) (slice_set now at v)) ≡ map state (take at now) ++ state v ∷ []
    taken = ap (map state) (take_more_set now at v w_within) ∙ map-append state (take at now) (v ∷ [])

    left : drop (at + 1) (slice_set now at v) ≡ drop (at + 1) now
    left = drop-set-lt (at + 1) now at v (omega arith)

    -- it is opened, and what comes after it
    pub opens_turn : (opened : List OpenSegment) → OpensSegments (asked i) (Ok opened) (state w) (state v)
        → SoFar (at + 1) (slice_set now at v) (readers ++ opened)
    opens_turn opened opens last states h =
        subst (λ (r : Result (List OpenSegment) TantivyError). Opens indices r old (map state (take (at + 1) (slice_set now at v)) ++ states))
        (follows readers opened last)
        (subst (λ (l : List DirectoryState). Opens indices (followed readers (followed opened last)) old l)
        (sym (ap (λ (l : List DirectoryState). l ++ states) taken ∙ append_assoc (map state (take at now)) (state v ∷ []) states))
        (at_place (followed opened last) (state v ∷ states)
        (goes_on opened (state v) last states opens
        (subst (λ (l : List W). Opens (drop (at + 1) indices) last l states) left h) refl refl)))

    -- or it is not, which ends it
    pub stops_turn : (e : TantivyError) → OpensSegments (asked i) (Err e) (state w) (state v)
        → OpensSources (map asked indices) (Err e) (map state old) (map state (slice_set now at v))
    stops_turn e opens =
        subst (λ (l : List DirectoryState). Opens indices (Err e) old l) all
        (at_place (Err e) (state v ∷ map state (drop (at + 1) now)) (stops e (state v) opens refl refl))
      where
        all : map state (take at now) ++ state v ∷ map state (drop (at + 1) now) ≡ map state (slice_set now at v)
        all =
            sym (append_assoc (map state (take at now)) (state v ∷ []) (map state (drop (at + 1) now)))
            ∙ ap (λ (l : List DirectoryState). l ++ map state (drop (at + 1) now)) (sym taken)
            ∙ ap (λ (l : List W). map state (take (at + 1) (slice_set now at v)) ++ map state l) (sym left)
            ∙ sym (map-append state (take (at + 1) (slice_set now at v)) (drop (at + 1) (slice_set now at v)))
            ∙ ap (map state) (take-append-drop (at + 1) (slice_set now at v))

  -- all are open
  pub all_open : (at : ℕ) (now : List W) (readers : List OpenSegment) → SoFar at now readers → length indices ≤ at
      → length now ≤ at → OpensSources (map asked indices) (Ok readers) (map state old) (map state now)
  all_open at now readers so_far end now_end =
      subst (λ (l : List OpenSegment). Opens indices (Ok l) old (map state now)) (append-nil readers)
      (subst (λ (l : List DirectoryState). Opens indices (Ok (readers ++ [])) old l)
      (append-nil (map state (take at now)) ∙ ap (map state) (take_all at now now_end))
      (so_far (Ok []) []
      (subst (λ (l : List I). Opens l (Ok []) (drop at now) []) (sym (drop_all at indices end))
      (subst (λ (l : List W). Opens [] (Ok []) l []) (sym (drop_all at now now_end)) (refl, refl)))))
