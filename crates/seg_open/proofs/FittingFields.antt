-- The fields of parts that are walked along those of a schema, place by place.
use Rattle.std.proofs.Common.{◌≡◌, ℕ, ◌+◌, ◌<◌, List, [], ◌∷◌, ◌++◌, length, sym, ap, ◌∙◌, drop, get_or, Bool, true, false}
use Rattle.std.proofs.lemmas.List.{drop_more}
use Rattle.std.specs.Prelude.{if◌then◌else◌}
use Rattle.std.specs.List.{enumerate_from, flat_map}
use Rattle.seg_values.specs.declared.schema.FieldEntry.{FieldEntry}
use Rattle.seg_model.specs.Fields.{is_indexed}

-- what is wanted of fields, by their places
abbrev wanted_of : List (ℕ × FieldEntry) → List ℕ
wanted_of fields = flat_map (λ f. if is_indexed f.1 then f.0 ∷ [] else []) fields

-- what is wanted of the fields from a place on
abbrev wanted_from : List FieldEntry → ℕ → List ℕ
wanted_from entries from = wanted_of (enumerate_from from (drop from entries))

module _ (entries : List FieldEntry) (from : ℕ) (e : FieldEntry) (lt : from < length entries) (is : e ≡ get_or entries from e) where
  one_field : wanted_from entries from ≡ wanted_of ((from, e) ∷ enumerate_from (from + 1) (drop (from + 1) entries))
  one_field = ap (λ es. wanted_of (enumerate_from from es)) (drop_more entries from e lt ∙ ap (λ x. x ∷ drop (from + 1) entries) (sym is))

  one_test : Bool → List ℕ
  one_test test = (if test then from ∷ [] else []) ++ flat_map (λ f. if is_indexed f.1 then f.0 ∷ [] else []) (enumerate_from (from + 1) (drop (from + 1) entries))

  pub indexed : is_indexed e ≡ true → wanted_from entries from ≡ from ∷ wanted_from entries (from + 1)
  unfolding one_test
  indexed has = one_field ∙ ap one_test has

  pub not_indexed : is_indexed e ≡ false → wanted_from entries from ≡ wanted_from entries (from + 1)
  unfolding one_test
  not_indexed has = one_field ∙ ap one_test has
