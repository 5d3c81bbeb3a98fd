-- Joined paths without a byte 0: what stands before and after the first one in their terms.
use Rattle.std.proofs.Common.{◌≡◌, ℕ, suc, ◌<◌, Bool, true, false, cond, List, [], ◌∷◌, ◌++◌, drop, None, sym, refl, ap, arith}
use Rattle.std.specs.Prelude.{◌==◌}
use Rattle.std.specs.List.{AllByRecursion, join_with_byte}
use Rattle.std.proofs.lemmas.Bool.{true≢false, eqb-true}
use Rattle.seg_paths.specs.Paths.{HaveNoZero}
use Rattle.seg_values.specs.Tree.{Tree, leaf, array, object, Trees, no_trees, tree, Members, no_members, member}
use Rattle.seg_common.proofs.Lists.{all_both}
use Rattle.seg_model.specs.DocumentCheck.{json_key, unless, has_no_zero, tree_refusal, trees_refusal, members_refusal}
use Rattle.seg_model.specs.Leaves.{PlacedLeaf, joined_path, level_in_array, leaves_at, leaves_of_trees, leaves_of_members, leaves, leaves_of}
use Rattle.seg_model.specs.DocumentTerms.{type_code}
use Rattle.seg_model.specs.Shape.{path_part}
use Rattle.seg_model.proofs.Exports.{or_first, or_second, unless_true, has_no_zero-append, has_no_zero-dots}

-- ---- keys without a byte 0

plain-join : (keys : List (List ℕ)) → HaveNoZero keys → has_no_zero (join_with_byte 1 keys) ≡ true
plain-join [] h = refl
plain-join (k ∷ []) h = h.0
plain-join (k ∷ j ∷ keys) h = has_no_zero-append k _ h.0 (plain-join (j ∷ keys) h.1)

plain-joined : (e : Bool) (keys : List (List ℕ)) → HaveNoZero keys → has_no_zero (joined_path e keys) ≡ true
plain-joined true keys h = has_no_zero-dots (join_with_byte 1 keys) (plain-join keys h)
plain-joined false keys h = plain-join keys h

-- ---- the leaves of values that passed the check of leaves and keys

module _ (e : Bool) where
  abbrev pub IsPlainLeaf : PlacedLeaf → Type 0
  IsPlainLeaf p = has_no_zero (joined_path e p.keys) ≡ true

  mutual
    plain_leaves : (keys : List (List ℕ)) (level : ℕ) (t : Tree) → HaveNoZero keys → tree_refusal t ≡ None
        → AllByRecursion IsPlainLeaf (leaves_at keys level t)
    plain_leaves keys level (leaf l) z r = (plain-joined e keys z, tt)
    plain_leaves keys level (array ts) z r = plain_tree_leaves keys (level_in_array level) ts z r
    plain_leaves keys level (object ms) z r = plain_member_leaves keys (suc level) ms z r

    plain_tree_leaves : (keys : List (List ℕ)) (level : ℕ) (ts : Trees) → HaveNoZero keys → trees_refusal ts ≡ None
        → AllByRecursion IsPlainLeaf (leaves_of_trees keys level ts)
    plain_tree_leaves keys level no_trees z r = tt
    plain_tree_leaves keys level (tree t ts) z r = all_both IsPlainLeaf _ _
        (plain_leaves keys level t z (or_first (tree_refusal t) _ r))
        (plain_tree_leaves keys level ts z (or_second (tree_refusal t) _ r))

    plain_member_leaves : (keys : List (List ℕ)) (level : ℕ) (ms : Members) → HaveNoZero keys → members_refusal ms ≡ None
        → AllByRecursion IsPlainLeaf (leaves_of_members keys level ms)
    plain_member_leaves keys level no_members z r = tt
    plain_member_leaves keys level (member key t ms) z r =
        all_both IsPlainLeaf _ _
        (plain_leaves (keys ++ key ∷ []) level t
        (all_both _ keys (key ∷ []) z
        (unless_true (has_no_zero key) json_key (or_first (unless (has_no_zero key) json_key) _ r), tt))
        (or_first (tree_refusal t) _ (or_second (unless (has_no_zero key) json_key) _ r)))
        (plain_member_leaves keys level ms z
        (or_second (tree_refusal t) _ (or_second (unless (has_no_zero key) json_key) _ r)))

  pub plain_leaves_of : (values : List Tree) → AllByRecursion (λ t. tree_refusal t ≡ None) values
      → AllByRecursion IsPlainLeaf (leaves_of values)
  plain_leaves_of [] h = tt
  plain_leaves_of (t ∷ ts) h = all_both IsPlainLeaf (leaves t) (leaves_of ts) (plain_leaves [] 0 t tt h.0)
      (plain_leaves_of ts h.1)

-- ---- before and after the first byte 0

-- the bytes after a type code
abbrev pub value_part : List ℕ → List ℕ
value_part [] = []
value_part (b ∷ bytes) = cond (b == 0) (drop 1 bytes) (value_part bytes)

pub value_after : (path : List ℕ) (code : ℕ) (rest : List ℕ) → has_no_zero path ≡ true
    → value_part (path ++ 0 ∷ code ∷ rest) ≡ rest
value_after [] code rest h = refl
value_after (b ∷ path) code rest h = by (b == 0) h (value_after path code rest)
  where
    by : (x : Bool) → cond x false (has_no_zero path) ≡ true
        → (has_no_zero path ≡ true → value_part (path ++ 0 ∷ code ∷ rest) ≡ rest)
        → cond x (drop 1 (path ++ 0 ∷ code ∷ rest)) (value_part (path ++ 0 ∷ code ∷ rest)) ≡ rest
    by true h later = absurd (true≢false (sym h))
    by false h later = later h

-- bytes that have a type code are made of these parts
pub in_parts : (code : ℕ) → 0 < code → (q : List ℕ) → type_code q ≡ code → q ≡ path_part q ++ 0 ∷ code ∷ value_part q
in_parts code some [] is = absurd (let none : ⊥ = omega (arith, is, some) in none)
in_parts code some (b ∷ []) is = absurd (let none : ⊥ = omega (arith, is, some) in none)
in_parts code some (b ∷ c ∷ rest) is = by (b == 0) refl is (in_parts code some (c ∷ rest))
  where
    by : (x : Bool) → (b == 0) ≡ x → cond x c (type_code (c ∷ rest)) ≡ code
        → (type_code (c ∷ rest) ≡ code → c ∷ rest ≡ path_part (c ∷ rest) ++ 0 ∷ code ∷ value_part (c ∷ rest))
        → b ∷ c ∷ rest ≡ cond x [] (b ∷ path_part (c ∷ rest)) ++ 0 ∷ code ∷ cond x rest (value_part (c ∷ rest))
    by true first is later = λ i. eqb-true b 0 first i ∷ is i ∷ rest
    by false zero is later = ap (λ l. b ∷ l) (later is)
