-- The path of the columns below a JSON field.
use Rattle.std.proofs.Common.{◌≡◌, ◌≢◌, ℕ, ◌==◌, ◌&&◌, ◌++◌, Bool, true, false, cond, List, [], ◌∷◌, None, Some, refl, ap, ◌∙◌}
use Rattle.std.proofs.lemmas.Bool.{cond-true, cond-false}
use Rattle.seg_common.specs.JsonPaths.{joined_path}
use Rattle.seg_values.specs.declared.schema.FieldEntry.{FieldEntry}
use Rattle.seg_values.specs.JsonPathTexts.{before_first, keys_in, path_keys}
use Rattle.seg_model.specs.Columns.{json_column_path}
use Rattle.seg_model.specs.Fields.{is_json}
use Rattle.seg_fastfield.specs.ColumnNames.{column_path}

abbrev HasKeys : List (List ℕ) → Type 0
HasKeys [] = ⊥
HasKeys (key ∷ keys) = Unit {0}

either : (test : Bool) (xs ys : List (List ℕ)) → HasKeys xs → HasKeys ys → HasKeys (cond test xs ys)
either true xs ys h k = h
either false xs ys h k = k

before : (bytes : List ℕ) (keys : List (List ℕ)) → HasKeys (before_first bytes keys)
before bytes [] = tt
before bytes (key ∷ keys) = tt

cut : (bytes : List ℕ) → HasKeys (keys_in bytes)
cut [] = tt
cut (b ∷ []) = either (b == 46) ([] ∷ [] ∷ []) ((b ∷ []) ∷ []) tt tt
cut (b ∷ c ∷ text) =
    either ((b == 92) && (c == 46)) (before_first (46 ∷ []) (keys_in text))
    (cond (b == 46) ([] ∷ keys_in (c ∷ text)) (before_first (b ∷ []) (keys_in (c ∷ text))))
    (before (46 ∷ []) (keys_in text))
    (either (b == 46) ([] ∷ keys_in (c ∷ text)) (before_first (b ∷ []) (keys_in (c ∷ text))) tt (before (b ∷ []) (keys_in (c ∷ text))))

below : (entry : FieldEntry) (keys : List (List ℕ)) → HasKeys keys
    → json_column_path entry keys ≡ entry.name ++ 1 ∷ joined_path entry.expand_dots keys
below entry [] h = absurd h
below entry (key ∷ keys) h = refl

-- a path in a JSON field
pub path_below : (entry : FieldEntry) (path : List ℕ) → path ≢ [] → is_json entry.kind ≡ true
    → column_path entry path ≡ Some (entry.name ++ 1 ∷ joined_path entry.expand_dots (path_keys path))
path_below entry [] some json = absurd (some refl)
path_below entry (b ∷ path) some json =
    cond-true (is_json entry.kind) (Some (json_column_path entry (path_keys (b ∷ path)))) None json
    ∙ ap Some (below entry (keys_in (b ∷ path)) (cut (b ∷ path)))

-- a path in another one
pub no_path : (entry : FieldEntry) (path : List ℕ) → path ≢ [] → is_json entry.kind ≡ false → column_path entry path ≡ None
no_path entry [] some json = absurd (some refl)
no_path entry (b ∷ path) some json = cond-false (is_json entry.kind) (Some (json_column_path entry (path_keys (b ∷ path)))) None json
