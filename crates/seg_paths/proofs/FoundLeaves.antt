-- The leaves that a walk has found so far.
use Rattle.std.proofs.Common.{◌≡◌, ℕ, suc, ◌+◌, Bool, List, [], ◌∷◌, ◌++◌, map, length, get_or, drop, Option, Some, append-nil, append_assoc, refl, sym, ap, ◌∙◌, arith}
use Rattle.std.specs.List.{slice_get}
use Rattle.std.proofs.lemmas.List.{map-append}
use Rattle.seg_common.proofs.Lists.{drop-slice_get}
use Rattle.seg_values.specs.Tree.{Leaf, Tree, trees_from, members_from}
use Rattle.seg_values.specs.ValueTrees.{tree_of}
use Rattle.seg_values.specs.declared.value.OwnedValue.{OwnedValue}
use Rattle.seg_values.specs.declared.value.OwnedValue.TheVariants.{Null, Str, PreTokStr, U64, I64, Bool as Boolean, Date, Facet, Bytes, Array, Object, IpAddr}
use Rattle.seg_model.specs.Leaves.{PlacedLeaf, leaves_at, leaves_of_trees, leaves_of_members, joined_path}
use Rattle.seg_paths.specs.NumberedLeaves.{leaf_in, numbered, in_table}
use Rattle.seg_paths.specs.Paths.{number_of, Extends}
use Rattle.seg_paths.specs.declared.leaves.NumberedLeaf.{NumberedLeaf}
use Rattle.seg_paths.proofs.PathNumbers.{number-kept}

-- these leaves were found, which with what is left are all
pub record HasFound (e : Bool) (paths : List (List ℕ)) (out : List NumberedLeaf)
    (left all : List PlacedLeaf) : Type 0 where
  pub found : List PlacedLeaf
  pub numbered : map numbered out ≡ map (in_table paths e) found
  pub with_left : found ++ left ≡ all

-- a value that is neither an array nor an object is a leaf
is_leaf : (keys : List (List ℕ)) (level : ℕ) (v : OwnedValue) → ((ts : List Tree) → v ≡ Array ts → ⊥)
    → ((ms : List (List ℕ × Tree)) → v ≡ Object ms → ⊥)
    → leaves_at keys level (tree_of v) ≡ record { keys = keys; level = level; leaf = leaf_in (tree_of v) } ∷ []
is_leaf keys level Null no_array no_object = refl
is_leaf keys level (Str s) no_array no_object = refl
is_leaf keys level (PreTokStr p) no_array no_object = refl
is_leaf keys level (U64 n) no_array no_object = refl
is_leaf keys level (I64 z) no_array no_object = refl
is_leaf keys level (Boolean b) no_array no_object = refl
is_leaf keys level (Date z) no_array no_object = refl
is_leaf keys level (Facet s) no_array no_object = refl
is_leaf keys level (Bytes b) no_array no_object = refl
is_leaf keys level (Array ts) no_array no_object = absurd (no_array ts refl)
is_leaf keys level (Object ms) no_array no_object = absurd (no_object ms refl)
is_leaf keys level (IpAddr a) no_array no_object = refl

module _ (e : Bool) where
  one-kept : (old new : List (List ℕ)) (l : NumberedLeaf) (p : PlacedLeaf) → Extends old new
      → numbered l ≡ in_table old e p → numbered l ≡ in_table new e p
  one-kept old new l p more is =
      let number = number-kept old new (joined_path e p.keys) l.path more (sym (ap (λ (x : Option ℕ
      × Leaf). x.0) is)) in
      let leaf = ap (λ (x : Option ℕ × Leaf). x.1) is in
      λ i. (sym number i, leaf i)

  -- the paths keep their numbers
  pub found-kept : (old new : List (List ℕ)) (out : List NumberedLeaf) (found : List PlacedLeaf) → Extends old new
      → map numbered out ≡ map (in_table old e) found → map numbered out ≡ map (in_table new e) found
  found-kept old new [] [] more is = refl
  found-kept old new [] (p ∷ ps) more is = let n : 0
      ≡ suc (length (map (in_table old e) ps)) = ap length is in absurd (omega (arith, n))
  found-kept old new (l ∷ ls) [] more is = let n : suc (length (map numbered ls))
      ≡ 0 = ap length is in absurd (omega (arith, n))
  found-kept old new (l ∷ ls) (p ∷ ps) more is =
      let first : numbered l ≡ in_table old e p = ap (λ (xs : List (Option ℕ × Leaf)). get_or xs 0 (numbered l)) is in
      let rest = found-kept old new ls ps more (ap (λ (xs : List (Option ℕ × Leaf)). drop 1 xs) is) in
      λ i. one-kept old new l p more first i ∷ rest i

  module _ (paths : List (List ℕ)) (out : List NumberedLeaf) (all : List PlacedLeaf) where
    -- one more value of an array
    pub one-tree : (keys : List (List ℕ)) (level : ℕ) (old : List (List ℕ)) (before : List NumberedLeaf)
        (ts : List Tree) (i : ℕ) (t : Tree) → slice_get ts i ≡ Some t
        → (so_far : HasFound e old before (leaves_of_trees keys level (trees_from (drop i ts))) all)
        → map numbered out ≡ map (in_table paths e) (so_far.found ++ leaves_at keys level t)
        → HasFound e paths out (leaves_of_trees keys level (trees_from (drop (i + 1) ts))) all
    one-tree keys level old before ts i t at so_far is = record {
      found = so_far.found ++ leaves_at keys level t;
      numbered = is;
      with_left = append_assoc so_far.found (leaves_at keys level t) (leaves_of_trees keys level (trees_from (drop
          (i + 1) ts)))
          ∙ ap (λ l. so_far.found ++ leaves_of_trees keys level (trees_from l)) (sym (drop-slice_get ts i t at))
          ∙ so_far.with_left;
    }

    -- one more member of an object
    pub one-member : (keys : List (List ℕ)) (level : ℕ) (old : List (List ℕ)) (before : List NumberedLeaf)
        (ms : List (List ℕ × Tree)) (i : ℕ) (key : List ℕ) (t : Tree) → slice_get ms i ≡ Some (key, t)
        → (so_far : HasFound e old before (leaves_of_members keys level (members_from (drop i ms))) all)
        → map numbered out ≡ map (in_table paths e) (so_far.found ++ leaves_at (keys ++ key ∷ []) level t)
        → HasFound e paths out (leaves_of_members keys level (members_from (drop (i + 1) ms))) all
    one-member keys level old before ms i key t at so_far is = record {
      found = so_far.found ++ leaves_at (keys ++ key ∷ []) level t;
      numbered = is;
      with_left = append_assoc so_far.found (leaves_at (keys ++ key ∷ []) level t) (leaves_of_members keys level
          (members_from (drop (i + 1) ms)))
          ∙ ap (λ l. so_far.found ++ leaves_of_members keys level (members_from l)) (sym (drop-slice_get ms i (
            key,
            t,
          ) at)) ∙ so_far.with_left;
    }

    -- nothing is left
    pub all-found : (left : List PlacedLeaf) → left ≡ [] → HasFound e paths out left all
        → map numbered out ≡ map (in_table paths e) all
    all-found left none so_far =
        so_far.numbered ∙ ap (map (in_table paths e)) (sym (append-nil so_far.found)
        ∙ ap (λ l. so_far.found ++ l) (sym none) ∙ so_far.with_left)

  -- one more leaf
  pub leaf-found : (keys : List (List ℕ)) (level : ℕ) (old new : List (List ℕ)) (found : List PlacedLeaf)
      (before after : List NumberedLeaf) (l : NumberedLeaf)
      → Extends old new → map numbered before ≡ map (in_table old e) found → after ≡ before ++ l ∷ []
      → number_of new (joined_path e keys) ≡ Some l.path
      → ((ts : List Tree) → l.leaf.now ≡ Array ts → ⊥) → ((ms : List (List ℕ × Tree)) → l.leaf.now ≡ Object ms → ⊥)
      → map numbered after ≡ map (in_table new e) (found ++ leaves_at keys level (tree_of l.leaf.now))
  leaf-found keys level old new found before after l more so_far pushed number no_array no_object =
      let one : map numbered (l ∷ [])
      ≡ map (in_table new e) (record { keys = keys; level = level; leaf = leaf_in (tree_of l.leaf.now) } ∷ []) =
      (λ i. (sym number i, leaf_in (tree_of l.leaf.now)) ∷ []) in
      ap (map numbered) pushed ∙ map-append numbered before (l ∷ [])
      ∙ (λ i. found-kept old new before found more so_far i ++ one i)
      ∙ sym (map-append (in_table new e) found (record {
        keys = keys;
        level = level;
        leaf = leaf_in
            (tree_of l.leaf.now);
      } ∷ []))
      ∙ ap (λ ls. map (in_table new e) (found ++ ls)) (sym (is_leaf keys level l.leaf.now no_array no_object))
