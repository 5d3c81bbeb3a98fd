-- The leaves of JSON values, one after another, as the model has them.
use Rattle.std.proofs.Common.{◌≡◌, ℕ, ◌+◌, ◌<◌, ◌≤◌, ◌^◌, Bool, true, false, cond, List, [], ◌∷◌, ◌++◌, map, length, sym, refl, ap, ◌∙◌, subst, arith, append_assoc, append-nil, length-append}
use Rattle.std.specs.Str.{bytes_eq}
use Rattle.std.specs.Cmp.Lexicographic.{bytes_decides}
use Rattle.std.proofs.lemmas.Grind.{flat_map-append}
use Rattle.std.proofs.lemmas.List.{length-map}
use Rattle.seg_tokens.specs.declared.token.Token.{Token}
use Rattle.seg_values.specs.Tree.{Leaf, text}
use Rattle.seg_model.specs.Leaves.{PlacedLeaf, joined_path}
use Rattle.seg_model.specs.Occurrences.{Occurrence, at_zero, counted, reach, start_after, start_after_all, leaf_text, texts_at, leaf_occurrences, json_occurrences}
use Rattle.seg_check.specs.LeafContents.{LeafContent, text_leaf, coded_leaf, leaf_content}
use Rattle.seg_check.specs.Paths.{at_path}
use Rattle.seg_build.specs.LeafPositions.{PathLeaves, leaf_occur, leaf_count, leaf_next, LeafFits, after_leaf, after_leaves, leaves_occur, leaves_count, LeavesFit}

-- ---- in two parts

pub leaves_occur-append : (at : List ℕ → ℕ) (xs ys : PathLeaves) → leaves_occur at (xs ++ ys)
    ≡ leaves_occur at xs ++ leaves_occur (after_leaves at xs) ys
leaves_occur-append at [] ys = refl
leaves_occur-append at (x ∷ xs) ys =
    ap (λ l. leaf_occur x.0 (at x.0) x.1 ++ l) (leaves_occur-append (after_leaf at x) xs ys)
    ∙ sym (append_assoc (leaf_occur x.0 (at x.0) x.1) (leaves_occur (after_leaf at x) xs)
    (leaves_occur (after_leaves (after_leaf at x) xs) ys))

pub after_leaves-append : (at : List ℕ → ℕ) (xs ys : PathLeaves) → after_leaves at (xs ++ ys)
    ≡ after_leaves (after_leaves at xs) ys
after_leaves-append at [] ys = refl
after_leaves-append at (x ∷ xs) ys = after_leaves-append (after_leaf at x) xs ys

-- where the texts after some begin
pub starts_add : (start : ℕ) (xs ys : List (List Token)) → start_after_all start (xs ++ ys)
    ≡ start_after_all (start_after_all start xs) ys
starts_add start [] ys = refl
starts_add start (x ∷ xs) ys = starts_add (start_after start x) xs ys

-- ---- how many occurrences there are

one_length : (path : List ℕ) (start : ℕ) (c : LeafContent) → length (leaf_occur path start c) ≡ leaf_count c
one_length path start (text_leaf ts) = length-map {B = Occurrence} (counted ts)
    (λ (t : Token). record { bytes = (path ++ 0 ∷ 115 ∷ []) ++ t.text; position = start + t.position })
one_length path start (coded_leaf coded) = length-map coded (λ c. at_zero (path ++ 0 ∷ c))

pub leaves-length : (at : List ℕ → ℕ) (ls : PathLeaves) → length (leaves_occur at ls) ≡ leaves_count ls
leaves-length at [] = refl
leaves-length at (l ∷ ls) =
    omega (
      arith,
      length-append (leaf_occur l.0 (at l.0) l.1) (leaves_occur (after_leaf at l) ls),
      one_length l.0
          (at l.0) l.1,
      leaves-length (after_leaf at l) ls,
    )

-- ---- where texts begin

pub reach-ge : (start : ℕ) (ts : List Token) → start ≤ reach start ts
reach-ge start [] = omega arith
reach-ge start (t ∷ ts) = omega (arith, reach-ge start ts)

leaf_next-ge : (start : ℕ) (c : LeafContent) → start ≤ leaf_next start c
leaf_next-ge start (text_leaf ts) = omega (arith, reach-ge start (counted ts))
leaf_next-ge start (coded_leaf coded) = omega arith

module _ (at : List ℕ → ℕ) (l : List ℕ × LeafContent) where
  -- the path of the leaf
  pub following-own : (path : List ℕ) → bytes_eq path l.0 ≡ true → after_leaf at l path ≡ leaf_next (at l.0) l.1
  following-own path own = ap (λ b. cond b (leaf_next (at l.0) l.1) (at path)) own

  -- and any other
  pub following-other : (path : List ℕ) → bytes_eq path l.0 ≡ false → after_leaf at l path ≡ at path
  following-other path other = ap (λ b. cond b (leaf_next (at l.0) l.1) (at path)) other

  following-ge : (path : List ℕ) → at path ≤ after_leaf at l path
  following-ge path = by (bytes_eq path l.0) refl
    where
      by : (b : Bool) → bytes_eq path l.0 ≡ b → at path ≤ after_leaf at l path
      by true own =
          let same : path ≡ l.0 = (bytes_decides path l.0).0 own in
          subst (λ n. at path ≤ n) (sym (following-own path own))
          (subst (λ (q : List ℕ). at q ≤ leaf_next (at l.0) l.1) (sym same) (leaf_next-ge (at l.0) l.1))
      by false other = subst (λ n. at path ≤ n) (sym (following-other path other)) (omega arith)

pub after_leaves-ge : (at : List ℕ → ℕ) (ls : PathLeaves) (path : List ℕ) → at path ≤ after_leaves at ls path
after_leaves-ge at [] path = omega arith
after_leaves-ge at (l ∷ ls) path = omega (arith, following-ge at l path, after_leaves-ge (after_leaf at l) ls path)

leaf_fits : (start : ℕ) (c : LeafContent) → leaf_next start c < 2 ^ 32 → LeafFits start c
leaf_fits start (text_leaf ts) low = low
leaf_fits start (coded_leaf coded) low = tt

-- leaves fit where their texts end low enough at every path
pub leaves_fit : (at : List ℕ → ℕ) (ls : PathLeaves) → ((path : List ℕ) → after_leaves at ls path < 2 ^ 32)
    → LeavesFit at ls
leaves_fit at [] low = tt
leaves_fit at (l ∷ ls) low =
    let own : after_leaf at l l.0 ≡ leaf_next (at l.0) l.1 = following-own at l l.0 ((bytes_decides l.0 l.0).1 refl) in
    let ge = after_leaves-ge (after_leaf at l) ls l.0 in
    let here = low l.0 in
    (leaf_fits (at l.0) l.1 (omega (arith, own, ge, here)), leaves_fit (after_leaf at l) ls low)

-- ---- the leaves of values

module _ (e : Bool) (analyze : List ℕ → List Token) where
  -- what leaves give
  abbrev pub contents : List PlacedLeaf → PathLeaves
  contents found = map (λ (p : List ℕ × Leaf). (p.0, leaf_content analyze p.1)) (map (at_path e) found)

  pub contents-append : (xs ys : List PlacedLeaf) → contents (xs ++ ys) ≡ contents xs ++ contents ys
  contents-append [] ys = refl
  contents-append (x ∷ xs) ys = ap (λ l. (joined_path e x.keys, leaf_content analyze x.leaf) ∷ l)
      (contents-append xs ys)

  -- a leaf gives what the model says
  one_occurs : (path : List ℕ) (start : ℕ) (l : Leaf) → leaf_occur path start (leaf_content analyze l)
      ≡ leaf_occurrences analyze path start l
  one_occurs path start (text s) = refl
  one_occurs path start l = refl

  -- its text, if it is one, moves where the next begins
  one_moves : (start : ℕ) (l : Leaf) → leaf_next start (leaf_content analyze l)
      ≡ start_after_all start (map analyze (leaf_text l))
  one_moves start (text s) = refl
  one_moves start l = refl

  texts_at-last : (path : List ℕ) (before : List PlacedLeaf) (p : PlacedLeaf)
      → texts_at e analyze path (before ++ p ∷ [])
      ≡ texts_at e analyze path before ++ cond (bytes_eq path (joined_path e p.keys)) (map analyze (leaf_text p.leaf))
      []
  texts_at-last path before p =
      let f : PlacedLeaf → List (List Token) = λ p. cond (bytes_eq path (joined_path e p.keys))
      (map analyze (leaf_text p.leaf)) [] in
      flat_map-append f before (p ∷ []) ∙ ap (λ l. texts_at e analyze path before ++ l) (append-nil (f p))

  module _ (before : List PlacedLeaf) (p : PlacedLeaf) (at : List ℕ → ℕ) (are : (path : List ℕ) → at path
      ≡ start_after_all 0 (texts_at e analyze path before)) where
    abbrev own : List ℕ
    own = joined_path e p.keys

    abbrev own_texts : List (List Token)
    own_texts = map analyze (leaf_text p.leaf)

    last_by : (path : List ℕ) (b : Bool) → bytes_eq path own ≡ b
        → after_leaf at (own, leaf_content analyze p.leaf) path
        ≡ start_after_all (start_after_all 0 (texts_at e analyze path before)) (cond (bytes_eq path own) own_texts [])
    last_by path true is =
        following-own at (own, leaf_content analyze p.leaf) path is
        ∙ one_moves (at own) p.leaf
        ∙ ap (λ n. start_after_all n own_texts) (ap at (sym ((bytes_decides path own).0 is)) ∙ are path)
        ∙ ap (λ b. start_after_all (start_after_all 0 (texts_at e analyze path before)) (cond b own_texts [])) (sym is)
    last_by path false is =
        following-other at (own, leaf_content analyze p.leaf) path is
        ∙ are path
        ∙ ap (λ b. start_after_all (start_after_all 0 (texts_at e analyze path before)) (cond b own_texts [])) (sym is)

    starts-last : (path : List ℕ) → after_leaf at (own, leaf_content analyze p.leaf) path
        ≡ start_after_all 0 (texts_at e analyze path (before ++ p ∷ []))
    starts-last path =
        last_by path (bytes_eq path own) refl
        ∙ sym (starts_add 0 (texts_at e analyze path before) (cond (bytes_eq path own) own_texts []))
        ∙ ap (start_after_all 0) (sym (texts_at-last path before p))

  -- the occurrences are those of the model
  pub leaves_occur-model : (before found : List PlacedLeaf) (at : List ℕ → ℕ)
      → ((path : List ℕ) → at path ≡ start_after_all 0 (texts_at e analyze path before))
      → leaves_occur at (contents found) ≡ json_occurrences e analyze before found
  leaves_occur-model before [] at are = refl
  leaves_occur-model before (p ∷ found) at are =
      let own = joined_path e p.keys in
      let first : leaf_occur own (at own) (leaf_content analyze p.leaf)
      ≡ leaf_occurrences analyze own (start_after_all 0 (texts_at e analyze own before)) p.leaf =
      ap (λ n. leaf_occur own n (leaf_content analyze p.leaf)) (are own)
      ∙ one_occurs own (start_after_all 0 (texts_at e analyze own before)) p.leaf in
      let rest = leaves_occur-model (before ++ p ∷ []) found (after_leaf at (own, leaf_content analyze p.leaf))
      (starts-last before p at are) in
      λ i. first i ++ rest i

  -- and so is where texts begin after them
  pub following-model : (before found : List PlacedLeaf) (at : List ℕ → ℕ)
      → ((path : List ℕ) → at path ≡ start_after_all 0 (texts_at e analyze path before))
      → (path : List ℕ) → after_leaves at (contents found) path
      ≡ start_after_all 0 (texts_at e analyze path (before ++ found))
  following-model before [] at are path = are path
      ∙ ap (λ l. start_after_all 0 (texts_at e analyze path l)) (sym (append-nil before))
  following-model before (p ∷ found) at are path =
      following-model (before ++ p ∷ []) found (after_leaf at (joined_path e p.keys, leaf_content analyze p.leaf))
      (starts-last before p at are) path
      ∙ ap (λ l. start_after_all 0 (texts_at e analyze path l)) (append_assoc before (p ∷ []) found)
