-- The order of facets within a row.
use Rattle.std.proofs.Common.{◌≡◌, ℕ, Bool, true, false, cond, List, [], ◌∷◌, map, filter, refl, sym, ap, ◌∙◌}
use Rattle.std.specs.Ordering.{is_gt, nat_cmp}
use Rattle.std.specs.Cmp.Lexicographic.{slice_cmp}
use Rattle.std.specs.List.{AllByRecursion}
use Rattle.seg_common.specs.TabulatedMaps.{is_among}
use Rattle.seg_model.specs.Columns.{ColumnKey, ColumnValue, FastValue, number, bytes_value, text_value, boolean_value, ip_value, date_value, column_cmp, inserted, sorted, value_keys, value_text, values_at}
use Rattle.seg_column_writer.specs.RecordedColumns.{in_order, put_in_order}
use Rattle.seg_column_writer.specs.declared.value_kind.ValueKind.TheVariants.{Str}
use Rattle.seg_column_writer.proofs.Exports.{is_at, key_named}
use Rattle.seg_fastfield.specs.FastLeaves.{values_under}

abbrev pub IsText : ColumnValue → Type 0
IsText (number z) = ⊥
IsText (bytes_value b) = ⊥
IsText (text_value s) = Unit {0}
IsText (boolean_value b) = ⊥
IsText (ip_value a) = ⊥
IsText (date_value z) = ⊥

abbrev pub AreTexts : List ColumnValue → Type 0
AreTexts values = AllByRecursion IsText values

put_same : (s : List ℕ) (ws : List ColumnValue) → AreTexts ws
    → put_in_order (text_value s) ws ≡ inserted (text_value s) ws
put_same s [] texts = refl
put_same s (number z ∷ ws) texts = absurd texts.0
put_same s (bytes_value b ∷ ws) texts = absurd texts.0
put_same s (text_value t ∷ ws) texts =
    ap (λ (l : List ColumnValue). cond (is_gt (slice_cmp nat_cmp s t)) (text_value t ∷ l)
    (text_value s ∷ text_value t ∷ ws))
    (put_same s ws texts.1)
put_same s (boolean_value b ∷ ws) texts = absurd texts.0
put_same s (ip_value a ∷ ws) texts = absurd texts.0
put_same s (date_value z ∷ ws) texts = absurd texts.0

texts_inserted : (v : ColumnValue) (ws : List ColumnValue) → IsText v → AreTexts ws → AreTexts (inserted v ws)
texts_inserted v [] text texts = (text, tt)
texts_inserted v (w ∷ ws) text texts =
    by (is_gt (slice_cmp nat_cmp (value_text v) (value_text w))) (texts_inserted v ws text texts.1)
  where
    by : (b : Bool) → AreTexts (inserted v ws) → AreTexts (cond b (w ∷ inserted v ws) (v ∷ w ∷ ws))
    by true rest = (texts.0, rest)
    by false rest = (text, texts)

texts_sorted : (vs : List ColumnValue) → AreTexts vs → AreTexts (sorted vs)
texts_sorted [] texts = tt
texts_sorted (v ∷ vs) texts = texts_inserted v (sorted vs) texts.0 (texts_sorted vs texts.1)

-- texts are put in the order of the model
pub in_order_same : (vs : List ColumnValue) → AreTexts vs → in_order vs ≡ sorted vs
in_order_same [] texts = refl
in_order_same (number z ∷ vs) texts = absurd texts.0
in_order_same (bytes_value b ∷ vs) texts = absurd texts.0
in_order_same (text_value s ∷ vs) texts =
    ap (put_in_order (text_value s)) (in_order_same vs texts.1) ∙ put_same s (sorted vs) (texts_sorted vs texts.1)
in_order_same (boolean_value b ∷ vs) texts = absurd texts.0
in_order_same (ip_value a ∷ vs) texts = absurd texts.0
in_order_same (date_value z ∷ vs) texts = absurd texts.0

module _ (key : ColumnKey) (path : List ℕ) where
  -- texts under a path are at a key, or none is
  texts_at : (b : Bool) → is_at key path Str ≡ b → (vs : List ColumnValue) → AreTexts vs
      → values_at key (values_under path vs) ≡ cond b vs []
  texts_at true at [] texts = refl
  texts_at false at [] texts = refl
  texts_at b at (number z ∷ vs) texts = absurd texts.0
  texts_at b at (bytes_value x ∷ vs) texts = absurd texts.0
  texts_at b at (text_value s ∷ vs) texts =
      let here : FastValue = record { path = path; value = text_value s } in
      let rest : List FastValue = filter (λ (w : FastValue). is_among column_cmp (value_keys w) key)
      (values_under path vs) in
      ap (λ (x : Bool). map (λ (w : FastValue). w.value) (cond x (here ∷ rest) rest)) (sym (key_named key here) ∙ at)
      ∙ by b (texts_at b at vs texts.1)
    where
      by : (b : Bool) → values_at key (values_under path vs) ≡ cond b vs []
          → map (λ (w : FastValue). w.value) (cond b (record { path = path; value = text_value s }
          ∷ filter (λ (w : FastValue). is_among column_cmp (value_keys w) key) (values_under path vs))
          (filter (λ (w : FastValue). is_among column_cmp (value_keys w) key) (values_under path vs)))
          ≡ cond b (text_value s ∷ vs) []
      by true e = ap (λ (l : List ColumnValue). text_value s ∷ l) e
      by false e = e
  texts_at b at (boolean_value x ∷ vs) texts = absurd texts.0
  texts_at b at (ip_value a ∷ vs) texts = absurd texts.0
  texts_at b at (date_value z ∷ vs) texts = absurd texts.0

  pub facets_at : (vs : List ColumnValue) → AreTexts vs → values_at key (values_under path (sorted vs))
      ≡ cond (cond (is_at key path Str) true false) (in_order (values_at key (values_under path vs)))
      (values_at key (values_under path vs))
  facets_at vs texts =
      texts_at (is_at key path Str) refl (sorted vs) (texts_sorted vs texts)
      ∙ by (is_at key path Str)
      ∙ ap (λ (l : List ColumnValue). cond (cond (is_at key path Str) true false) (in_order l) l)
      (sym (texts_at (is_at key path Str) refl vs texts))
    where
      by : (b : Bool) → cond b (sorted vs) [] ≡ cond (cond b true false) (in_order (cond b vs [])) (cond b vs [])
      by true = sym (in_order_same vs texts)
      by false = refl
