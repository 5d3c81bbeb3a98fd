-- The rows of a column that are printed, one after another.
use Rattle.std.proofs.Common.{◌≡◌, ℕ, ◌+◌, ◌<◌, List, [], ◌∷◌, ◌++◌, length, map, drop, get_or, Option, None, false, true, Bool, codes, sym, ap, subst, ◌∙◌, append_assoc}
use Rattle.std.specs.Prelude.{Result, OnOk, slice_get, unwrap_or}
use Rattle.std.proofs.lemmas.List.{drop_more}
use Rattle.std.proofs.lemmas.Option.{unwrap_or-slice_get}
use Rattle.json.specs.Print.{quoted}
use Rattle.seg_common.specs.declared.column_type.ColumnType.{ColumnType}
use Rattle.seg_model.specs.Columns.{ColumnValue}
use Rattle.seg_text.specs.ColumnText.{column_line, mark_text, printed_value, rows_text, type_text, values_text}

module _ {X : Type 0} (meant : X → ColumnValue) where
  -- one more row
  pub row_more : (rows : List (List X)) (doc : ℕ) (out new start all : List ℕ) → doc < length rows
      → new ≡ out ++ values_text false doc (map meant (get_or rows doc []))
      → out ++ rows_text doc (map (map meant) (drop doc rows)) ≡ start ++ all
      → new ++ rows_text (doc + 1) (map (map meant) (drop (doc + 1) rows)) ≡ start ++ all
  row_more rows doc out new start all within printed so_far =
      ap (λ (l : List ℕ). l ++ rows_text (doc + 1) (map (map meant) (drop (doc + 1) rows))) printed
      ∙ append_assoc out (values_text false doc (map meant (get_or rows doc [])))
      (rows_text (doc + 1) (map (map meant) (drop (doc + 1) rows)))
      ∙ ap (λ (l : List (List X)). out ++ rows_text doc (map (map meant) l)) (sym (drop_more rows doc [] within))
      ∙ so_far

  -- one more value
  pub value_more : (later : Bool) (doc : ℕ) (x : X) (xs left : List X) (out marked new start all : List ℕ)
      → left ≡ x ∷ xs → marked ≡ out ++ mark_text later doc → new ≡ marked ++ printed_value (meant x)
      → out ++ values_text later doc (map meant left) ≡ start ++ all
      → new ++ values_text true doc (map meant xs) ≡ start ++ all
  value_more later doc x xs left out marked new start all is mark value so_far =
      let rest : List ℕ = values_text true doc (map meant xs) in
      ap (λ (l : List ℕ). l ++ rest) (value ∙ ap (λ (l : List ℕ). l ++ printed_value (meant x)) mark)
      ∙ append_assoc (out ++ mark_text later doc) (printed_value (meant x)) rest
      ∙ append_assoc out (mark_text later doc) (printed_value (meant x) ++ rest)
      ∙ ap (λ (l : List X). out ++ values_text later doc (map meant l)) (sym is)
      ∙ so_far

-- the line of a column, from its pieces
pub line_printed : (path : List ℕ) (type : ColumnType) (rows : List (List ColumnValue)) (start a b c d e f : List ℕ)
    → a ≡ start ++ codes "column " → b ≡ a ++ quoted path → c ≡ b ++ 32 ∷ [] → d ≡ c ++ type_text type
    → e ≡ d ++ rows_text 0 rows → f ≡ e ++ 10 ∷ [] → f ≡ start ++ column_line path type rows
line_printed path type rows start a b c d e f word name space kind values end =
    rw (end, values, kind, space, name, word) (simp append_assoc)

-- where no term is at a place, the empty one is printed
pub term_lacking : {T E : Type 0} (r : Result T E) (meant : List ℕ → ColumnValue) (terms : List (List ℕ)) (ord : ℕ)
    (out new : List ℕ) → slice_get terms ord ≡ None → OnOk r (new ≡ out ++ printed_value (meant []))
    → OnOk r (new ≡ out ++ printed_value (meant (get_or terms ord [])))
term_lacking r meant terms ord out new none =
    let empty : get_or terms ord [] ≡ [] =
    sym (unwrap_or-slice_get terms ord []) ∙ ap (λ (o : Option (List ℕ)). unwrap_or o []) none in
    subst (λ (term : List ℕ). OnOk r (new ≡ out ++ printed_value (meant term))) (sym empty)
