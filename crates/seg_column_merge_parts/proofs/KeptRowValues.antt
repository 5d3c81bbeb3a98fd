-- The values of the rows that are kept, row by row.
use Rattle.std.proofs.Common.{◌≡◌, ℕ, ◌+◌, ◌<◌, ◌≤◌, Bool, List, [], ◌∷◌, ◌++◌, length, drop, get_or, slice_get, ◌||◌, cond, refl, sym, ap, ◌∙◌, arith}
use Rattle.std.specs.Prelude.{is_some}
use Rattle.std.specs.List.{list_any}
use Rattle.std.proofs.lemmas.List.{drop_more, drop_all}
use Rattle.seg_column_merge_parts.specs.declared.number_range.NumberRange.{NumberRange}
use Rattle.seg_column_merge_parts.specs.KeptColumns.{there}
use Rattle.seg_column_file.specs.KeptRows.{kept_values}
use Rattle.seg_column_merge_parts.specs.NumberRanges.{with_all}

module _ {T : Type 0} (kept : List Bool) (rows : List (List T)) (i : ℕ) where
  pub next_kept : (d : Bool) (e : List T) → i < length kept → length kept ≡ length rows
      → kept_values (drop i kept) (drop i rows)
      ≡ cond (get_or kept i d) (get_or rows i e) [] ++ kept_values (drop (i + 1) kept) (drop (i + 1) rows)
  next_kept d e lt same =
      ap (λ (ms : List Bool). kept_values ms (drop i rows)) (drop_more kept i d lt)
      ∙ ap (λ (rs : List (List T)). kept_values (get_or kept i d ∷ drop (i + 1) kept) rs)
      (drop_more rows i e (omega (arith, same)))

  pub last_kept : length kept ≤ i → kept_values (drop i kept) (drop i rows) ≡ []
  last_kept le = ap (λ (ms : List Bool). kept_values ms (drop i rows)) (drop_all i kept le)

module _ {T : Type 0} (next : NumberRange → T → NumberRange) where
  with_both : (range : NumberRange) (xs ys : List T)
      → with_all next (with_all next range xs) ys ≡ with_all next range (xs ++ ys)
  with_both range [] ys = refl
  with_both range (x ∷ xs) ys = with_both (next range x) xs ys

  module _ (kept : List Bool) (rows : List (List T)) (i : ℕ) (range new : NumberRange) where
    -- one more row
    pub with_row : (d : Bool) (e : List T) → i < length kept → length kept ≡ length rows
        → new ≡ with_all next range (cond (get_or kept i d) (get_or rows i e) [])
        → with_all next new (kept_values (drop (i + 1) kept) (drop (i + 1) rows))
        ≡ with_all next range (kept_values (drop i kept) (drop i rows))
    with_row d e lt same is =
        ap (λ (r : NumberRange). with_all next r (kept_values (drop (i + 1) kept) (drop (i + 1) rows))) is
        ∙ with_both range (cond (get_or kept i d) (get_or rows i e) [])
        (kept_values (drop (i + 1) kept) (drop (i + 1) rows))
        ∙ sym (ap (with_all next range) (next_kept kept rows i d e lt same))

  pub with_last : (kept : List Bool) (rows : List (List T)) (i : ℕ) (range : NumberRange) → length kept ≤ i
      → with_all next range (kept_values (drop i kept) (drop i rows)) ≡ range
  with_last kept rows i range le = ap (with_all next range) (last_kept kept rows i le)

-- ---- whether a value is there

pub first_there : {T : Type 0} (xs : List T) → is_some (slice_get xs 0) ≡ list_any there xs
first_there [] = refl
first_there (x ∷ xs) = refl

any_there : {T : Type 0} (xs ys : List T) → list_any there (xs ++ ys) ≡ (list_any there xs || list_any there ys)
any_there [] ys = refl
any_there (x ∷ xs) ys = refl

module _ {T : Type 0} (kept : List Bool) (rows : List (List T)) (i : ℕ) (d : Bool) (e : List T) (lt : i < length kept)
    (same : length kept ≡ length rows) where
  -- from a row on
  pub there_from : list_any there (kept_values (drop i kept) (drop i rows))
      ≡ (list_any there (cond (get_or kept i d) (get_or rows i e) [])
      || list_any there (kept_values (drop (i + 1) kept) (drop (i + 1) rows)))
  there_from =
      ap (list_any there) (next_kept kept rows i d e lt same)
      ∙ any_there (cond (get_or kept i d) (get_or rows i e) []) (kept_values (drop (i + 1) kept) (drop (i + 1) rows))
