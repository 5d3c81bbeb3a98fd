-- The leaves of a JSON value, as they are gathered one after another.
use Rattle.std.proofs.Common.{◌≡◌, ℕ, ◌+◌, ◌-◌, ◌^◌, min, List, [], ◌∷◌, sym, refl, ap, ◌∙◌, subst, arith}
use Rattle.seg_values.specs.Tree.{Leaf, text}
use Rattle.seg_tokens.specs.declared.token.Token.{Token}
use Rattle.std.specs.List.{slice_index_or}
use Rattle.seg_model.specs.DocumentTerms.{Terms}
use Rattle.seg_terms.specs.AddedOccurrences.{with_occurrences}
use Rattle.seg_check.specs.LeafContents.{LeafContent, leaf_with, texts_after, with_texts}
use Rattle.seg_build.specs.GatheredFieldTerms.{Gathered, json_gathered, with_leaf, with_leaves, AddsLeaf}
use Rattle.seg_build.specs.LeafPositions.{PathLeaves, leaf_occur, leaf_count, LeafFits, after_leaf, leaves_occur, leaves_count, LeavesFit, kept_start, kept_starts}
use Rattle.seg_model.specs.SaturatedNumbers.{saturated}
use Rattle.seg_build.specs.PathStarts.{path_start}
use Rattle.seg_build.specs.declared.json_terms.JsonTerms.{JsonTerms}
use Rattle.seg_build.proofs.GrownTerms.{with_occurrences-append}
use Rattle.seg_build.proofs.KeptStarts.{one_kept}

-- all leaves at once
pub gathered-leaves : (document : ℕ) (g : Gathered) (ls : PathLeaves)
    → with_leaves document g ls
    ≡ record {
      terms = with_occurrences g.terms document (leaves_occur (path_start document g.starts) ls);
      starts
          = kept_starts document g.starts ls;
    }
gathered-leaves document g [] = refl
gathered-leaves document g (l ∷ ls) =
    let at = path_start document g.starts in
    let here = leaf_occur l.0 (at l.0) l.1 in
    let starts = kept_starts document (kept_start document g.starts l.0 l.1) ls in
    let following : path_start document (kept_start document g.starts l.0 l.1)
    ≡ after_leaf at l = λ i path. one_kept document g.starts l.0 l.1 path i in
    gathered-leaves document (with_leaf document g l) ls
    ∙ ap (λ (t : Terms). record { terms = t; starts = starts }) (
    ap (λ f. with_occurrences (with_occurrences g.terms document here) document (leaves_occur f ls)) following
    ∙ sym (with_occurrences-append g.terms document here (leaves_occur (after_leaf at l) ls)))

-- ---- a turn of the loop

-- a leaf has the first of the texts that are left
first_left : (texts : List (List Token)) (l : Leaf) → leaf_with (slice_index_or texts 0 [] ∷ []) l ≡ leaf_with texts l
first_left texts (text s) = refl
first_left texts l = refl

module _ (document : ℕ) (before after : JsonTerms) (texts : List (List Token)) (path : List ℕ) (l : Leaf)
    (rest : List (List ℕ × Leaf)) (left : List (List ℕ × Leaf)) (is : left ≡ (path, l) ∷ rest)
    (adds : AddsLeaf document before after (path, leaf_with (slice_index_or texts 0 [] ∷ []) l)) where
  abbrev own : List ℕ × LeafContent
  own = (path, leaf_with texts l)

  abbrev others : PathLeaves
  others = with_texts (texts_after texts l) rest

  now : json_gathered after ≡ with_leaf document (json_gathered before) own
  now = adds.gathered_now ∙ ap (λ c. with_leaf document (json_gathered before) (path, c)) (first_left texts l)

  cut : with_texts texts left ≡ own ∷ others
  cut = ap (with_texts texts) is

  count_with : (count more sum : ℕ) → more ≡ leaf_count (leaf_with (slice_index_or texts 0 [] ∷ []) l)
      → sum ≡ min (count + more) (2 ^ 64 - 1)
      → saturated (sum + leaves_count others) ≡ saturated (count + leaves_count (with_texts texts left))
  count_with count more sum some total =
      let same : more ≡ leaf_count (leaf_with texts l) = some ∙ ap leaf_count (first_left texts l) in
      let all : leaves_count (with_texts texts left)
      ≡ leaf_count (leaf_with texts l) + leaves_count others = ap leaves_count cut in
      omega (arith, total, same, all)

  fit_cut : LeavesFit (path_start document (json_gathered before).starts) (with_texts texts left)
      → LeavesFit (path_start document (json_gathered before).starts) (own ∷ others)
  fit_cut fit = subst (LeavesFit (path_start document (json_gathered before).starts)) cut fit

  fit_with : LeavesFit (path_start document (json_gathered before).starts) (with_texts texts left)
      → LeavesFit (path_start document (json_gathered after).starts) others
  fit_with fit =
      let starts : path_start document (json_gathered after).starts
      ≡ after_leaf (path_start document (json_gathered before).starts) own =
      ap (λ (g : Gathered). path_start document g.starts) now
      ∙ (λ i q. one_kept document (json_gathered before).starts own.0 own.1 q i) in
      subst (λ f. LeavesFit f others) (sym starts) (fit_cut fit).1

  -- the texts that are left after the leaf
  module _ (following : List (List Token)) (moved : following ≡ texts_after texts l) where
    pub leaves_turn : with_leaves document (json_gathered after) (with_texts following rest)
        ≡ with_leaves document (json_gathered before) (with_texts texts left)
    leaves_turn =
        ap (λ ts. with_leaves document (json_gathered after) (with_texts ts rest)) moved
        ∙ ap (λ g. with_leaves document g others) now
        ∙ ap (with_leaves document (json_gathered before)) (sym cut)

    pub count_turn : (count more sum : ℕ) → more ≡ leaf_count (leaf_with (slice_index_or texts 0 [] ∷ []) l)
        → sum ≡ min (count + more) (2 ^ 64 - 1)
        → saturated (sum + leaves_count (with_texts following rest)) ≡ saturated (count + leaves_count (with_texts texts left))
    count_turn count more sum some total =
        ap (λ ts. saturated (sum + leaves_count (with_texts ts rest))) moved ∙ count_with count more sum some total

    pub fit_turn : LeavesFit (path_start document (json_gathered before).starts) (with_texts texts left)
        → LeavesFit (path_start document (json_gathered after).starts) (with_texts following rest)
    fit_turn fit =
        subst (λ ts. LeavesFit (path_start document (json_gathered after).starts) (with_texts ts rest)) (sym moved) (fit_with fit)

-- the leaf fits before it is added
pub fit_first : (at : List ℕ
    → ℕ) (texts : List (List Token)) (path : List ℕ) (l : Leaf) (rest left : List (List ℕ × Leaf)) → left
    ≡ (path, l) ∷ rest
    → LeavesFit at (with_texts texts left) → LeafFits (at path) (leaf_with (slice_index_or texts 0 [] ∷ []) l)
fit_first at texts path l rest left is fit =
    subst (LeafFits (at path)) (sym (first_left texts l)) (subst (LeavesFit at) (ap (with_texts texts) is) fit).0
