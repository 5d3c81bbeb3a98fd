-- What the limits say about each joined path of JSON values.
use Rattle.std.proofs.Common.{◌≡◌, ℕ, ◌<◌, ◌^◌, Bool, true, false, cond, List, [], ◌∷◌, ◌++◌, map, length, sym, refl, ap, ◌∙◌, subst, arith}
use Rattle.std.specs.Prelude.{◌&&◌}
use Rattle.std.specs.List.{flat_map, list_all}
use Rattle.std.specs.Str.{bytes_eq}
use Rattle.std.specs.Cmp.Lexicographic.{bytes_decides}
use Rattle.std.proofs.lemmas.Bool.{and_parts, false≢true, ltb-true}
use Rattle.seg_tokens.specs.declared.token.Token.{Token}
use Rattle.seg_values.specs.declared.schema.FieldKind.TheVariants.{Json}
use Rattle.seg_values.specs.Tree.{Tree}
use Rattle.seg_model.specs.DocumentCheck.{is_u32, count_of, texts_fit, kind_fits, path_fits, leaves_with_path, value_texts}
use Rattle.seg_model.specs.Leaves.{PlacedLeaf, joined_path, leaves_of}
use Rattle.seg_model.specs.Occurrences.{leaf_text, texts_at, start_after_all}

-- at a path: where its texts end, how many tokens they have, and how many leaves there are
pub record IsLow (e : Bool) (analyze : List ℕ → List Token) (path : List ℕ) (found : List PlacedLeaf) : Type 0 where
  pub end : start_after_all 0 (texts_at e analyze path found) < 2 ^ 32
  pub tokens : count_of (texts_at e analyze path found) < 2 ^ 32
  pub leaves : length (leaves_with_path e path found) < 2 ^ 32

module _ (e : Bool) (analyze : List ℕ → List Token) (path : List ℕ) where
  -- whether some leaf has the path
  abbrev has_path : List PlacedLeaf → Bool
  has_path [] = false
  has_path (p ∷ found) = cond (bytes_eq path (joined_path e p.keys)) true (has_path found)

  no_texts : (found : List PlacedLeaf) → has_path found ≡ false → texts_at e analyze path found ≡ []
  no_texts [] none = refl
  no_texts (p ∷ found) none = by (no_texts found) (bytes_eq path (joined_path e p.keys)) none
    where
      by : (has_path found ≡ false → texts_at e analyze path found ≡ []) → (b : Bool)
          → cond b true (has_path found) ≡ false
          → cond b (map analyze (leaf_text p.leaf)) [] ++ texts_at e analyze path found ≡ []
      by rest true none = absurd (false≢true (sym none))
      by rest false none = rest none

  no_leaves : (found : List PlacedLeaf) → has_path found ≡ false → leaves_with_path e path found ≡ []
  no_leaves [] none = refl
  no_leaves (p ∷ found) none = by (no_leaves found) (bytes_eq path (joined_path e p.keys)) none
    where
      by : (has_path found ≡ false → leaves_with_path e path found ≡ []) → (b : Bool)
          → cond b true (has_path found) ≡ false
          → cond b (p ∷ leaves_with_path e path found) (leaves_with_path e path found) ≡ []
      by rest true none = absurd (false≢true (sym none))
      by rest false none = rest none

  -- what holds at the path of each leaf holds here, if some leaf has the path
  at_some : (Q : List ℕ → Bool) (found : List PlacedLeaf)
      → list_all (λ (p : PlacedLeaf). Q (joined_path e p.keys)) found ≡ true → has_path found ≡ true → Q path ≡ true
  at_some Q [] all some = absurd (false≢true some)
  at_some Q (p ∷ found) all some =
      let two = and_parts (Q (joined_path e p.keys)) (list_all (λ (p : PlacedLeaf). Q (joined_path e p.keys)) found)
      all in
      by two.0 (at_some Q found two.1) (bytes_eq path (joined_path e p.keys)) refl some
    where
      by : Q (joined_path e p.keys) ≡ true → (has_path found ≡ true → Q path ≡ true) → (b : Bool)
          → bytes_eq path (joined_path e p.keys) ≡ b → cond b true (has_path found) ≡ true → Q path ≡ true
      by here rest true is some = ap Q ((bytes_decides path (joined_path e p.keys)).0 is) ∙ here
      by here rest false is some = rest some

  low_by : (found : List PlacedLeaf)
      → list_all (λ (p : PlacedLeaf). path_fits e analyze found (joined_path e p.keys)) found ≡ true → (b : Bool)
      → has_path found ≡ b → IsLow e analyze path found
  low_by found all true some =
      let texts = texts_at e analyze path found in
      let here = at_some (path_fits e analyze found) found all some in
      let both = and_parts (texts_fit texts) (is_u32 (length (leaves_with_path e path found))) here in
      let three = and_parts (is_u32 (start_after_all 0 texts) && is_u32 (count_of texts)) (is_u32 (length texts))
      both.0 in
      let two = and_parts (is_u32 (start_after_all 0 texts)) (is_u32 (count_of texts)) three.0 in
      record {
        end = ltb-true (start_after_all 0 texts) (2 ^ 32) two.0;
        tokens = ltb-true (count_of texts) (2 ^ 32) two.1;
        leaves = ltb-true (length (leaves_with_path e path found)) (2 ^ 32) both.1;
      }
  low_by found all false none = record {
    end = subst (λ l. start_after_all 0 l < 2 ^ 32) (sym (no_texts found none)) (omega arith);
    tokens = subst (λ l. count_of l < 2 ^ 32) (sym (no_texts found none)) (omega arith);
    leaves = subst (λ (l : List PlacedLeaf). length l < 2 ^ 32) (sym (no_leaves found none)) (omega arith);
  }

  -- values of a JSON field that are within the limits are so at each path
  pub low_at : (values : List Tree) → kind_fits Json e analyze values ≡ true → IsLow e analyze path (leaves_of values)
  low_at values fits =
      let found = leaves_of values in
      let all = (and_parts (list_all (λ (p : PlacedLeaf). path_fits e analyze found (joined_path e p.keys)) found)
      (is_u32 (count_of (flat_map (value_texts Json analyze) values))) fits).0 in
      low_by found all (has_path found) refl

pub path_ends : (e : Bool) (analyze : List ℕ → List Token) (values : List Tree) → kind_fits Json e analyze values ≡ true
    → (path : List ℕ) → start_after_all 0 (texts_at e analyze path (leaves_of values)) < 2 ^ 32
path_ends e analyze values fits path = (low_at e analyze path values fits).end
