-- What merged terms have at a key.
use Rattle.std.proofs.Common.{◌≡◌, ℕ, ◌+◌, false, cond, List, [], ◌∷◌, ◌++◌, map, filter, sym, refl, ap, ◌∙◌}
use Rattle.std.specs.List.{flat_map}
use Rattle.std.specs.Ordering.{eq_by_cmp}
use Rattle.std.specs.Cmp.Lexicographic.{nat_list_cmp_total}
use Rattle.std.specs.Str.{bytes_eq}
use Rattle.std.proofs.lemmas.Map.Text.{is_eq-slice_cmp}
use Rattle.std.proofs.lemmas.List.Folds.{list_any-append}
use Rattle.seg_common.specs.TabulatedMaps.{is_among}
use Rattle.seg_termdict.specs.SortedTerms.{RankedTerm, key_cmp}
use Rattle.seg_termdict.specs.MergedTerms.{standing_in, standings_from, if_stands, keys_in}
use Rattle.seg_termdict.specs.Laws.{MergedTermsAnswer}
use Rattle.seg_common.proofs.TabulatedMaps.{texts_apart, first_false, second_false, get-tabulated}

module _ {Info : Type 0} (key : List ℕ) where
  none_in : (segment : ℕ) (terms : List (RankedTerm Info)) → is_among key_cmp (keys_in terms) key ≡ false → standing_in segment key terms ≡ []
  none_in segment [] h = refl
  none_in segment (t ∷ terms) h =
      ap (λ b. map (λ (u : RankedTerm Info). record { segment = segment; ord = u.ord; info = u.info }) (cond b (t ∷ filter (λ (u : RankedTerm Info). bytes_eq key u.key) terms) (filter (λ (u : RankedTerm Info). bytes_eq key u.key) terms)))
      (sym (is_eq-slice_cmp key t.key) ∙ first_false (eq_by_cmp key_cmp key t.key) (is_among key_cmp (keys_in terms) key) h)
      ∙ none_in segment terms (second_false (eq_by_cmp key_cmp key t.key) (is_among key_cmp (keys_in terms) key) h)

  none_stands : (first : ℕ) (segments : List (List (RankedTerm Info))) → is_among key_cmp (flat_map keys_in segments) key ≡ false → standings_from first key segments ≡ []
  none_stands first [] h = refl
  none_stands first (terms ∷ segments) h =
      let parted = sym (list_any-append (eq_by_cmp key_cmp key) (keys_in terms) (flat_map keys_in segments)) ∙ h in
      ap (λ ss. ss ++ standings_from (first + 1) key segments) (none_in first terms (first_false (is_among key_cmp (keys_in terms) key) (is_among key_cmp (flat_map keys_in segments) key) parted))
      ∙ none_stands (first + 1) segments (second_false (is_among key_cmp (keys_in terms) key) (is_among key_cmp (flat_map keys_in segments) key) parted)

pub merged_terms_answer : (Info : Type 0) → MergedTermsAnswer Info
merged_terms_answer Info segments key =
    get-tabulated nat_list_cmp_total texts_apart (λ k. if_stands (standings_from 0 k segments)) (flat_map keys_in segments) (record { outside = λ q h. ap if_stands (none_stands q 0 segments h) }) key
