-- A list that is walked along another one, place by place.
use Rattle.std.proofs.Common.{◌≡◌, ℕ, ◌+◌, ◌<◌, List, [], ◌∷◌, ◌++◌, length, sym, ap, ◌∙◌, drop, get_or, map, Bool, true, false}
use Rattle.std.proofs.lemmas.List.{drop_more}
use Rattle.std.specs.Prelude.{if◌then◌else◌}
use Rattle.std.specs.List.{enumerate_from, flat_map}
use Rattle.seg_values.specs.declared.schema.FieldEntry.{FieldEntry}
use Rattle.seg_model.specs.Fields.{has_lengths}

-- what is wanted of fields, by their places
abbrev wanted_of : ℕ → List (ℕ × FieldEntry) → List (ℕ × ℕ)
wanted_of documents fields = map (λ f. (f, documents)) (flat_map (λ f. if has_lengths f.1 then f.0 ∷ [] else []) fields)

-- what is wanted of the fields from a place on
abbrev wanted_from : List FieldEntry → ℕ → ℕ → List (ℕ × ℕ)
wanted_from entries documents from = wanted_of documents (enumerate_from from (drop from entries))

module _ (entries : List FieldEntry) (documents from : ℕ) (e : FieldEntry) (lt : from < length entries) (is : e ≡ get_or entries from e) where
  one_field : wanted_from entries documents from ≡ wanted_of documents ((from, e) ∷ enumerate_from (from + 1) (drop (from + 1) entries))
  one_field = ap (λ es. wanted_of documents (enumerate_from from es)) (drop_more entries from e lt ∙ ap (λ x. x ∷ drop (from + 1) entries) (sym is))

  one_test : Bool → List (ℕ × ℕ)
  one_test test = map (λ f. (f, documents)) ((if test then from ∷ [] else []) ++ flat_map (λ f. if has_lengths f.1 then f.0 ∷ [] else []) (enumerate_from (from + 1) (drop (from + 1) entries)))

  pub with_lengths : has_lengths e ≡ true → wanted_from entries documents from ≡ (from, documents) ∷ wanted_from entries documents (from + 1)
  unfolding one_test
  with_lengths has = one_field ∙ ap one_test has

  pub without_lengths : has_lengths e ≡ false → wanted_from entries documents from ≡ wanted_from entries documents (from + 1)
  unfolding one_test
  without_lengths has = one_field ∙ ap one_test has
