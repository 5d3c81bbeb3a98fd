-- Codes of trees and of terms, by which a proof tells them apart.
use Rattle.std.specs.Prelude.{◌≡◌, ℕ, ℤ, Bool, List, refl, ◌⊎◌, not, nat_eq, T}
use Rattle.std.proofs.Common.{sym, ap, subst, inl, inr, arith}
use Rattle.std.proofs.lemmas.Bool.Decides.{nat_tests}
use base.Stored.{Gv, gnil, gnum, gcons, Coded, coded_unit, coded_ℕ, coded_ℤ, coded_bool, coded_list, coded⊎, coded×, num}
use Rattle.std.specs.Coded.{code_by}
use Rattle.seg_values.specs.Tree.{Leaf, null, text, pre_tokenized, unsigned, signed, boolean, date, facet, byte_string, ip, Tree, leaf, array, object, Trees, no_trees, tree, Members, no_members, member}
use Rattle.seg_values.specs.ValueBytes.{TermKey}
use Rattle.seg_tokens.specs.declared.token.PreTokenizedString.{PreTokenizedString}
use Rattle.seg_tokens.specs.TokenCodes.{pre_tokenized_code, key_code}

abbrev pub LeafSum : Type 0
LeafSum = Unit {0} ⊎ (List ℕ ⊎ (PreTokenizedString ⊎ (ℕ ⊎ (ℤ ⊎ (Bool ⊎ (ℤ ⊎ (List ℕ ⊎ (List ℕ ⊎ List ℕ))))))))

abbrev pub leaf_sum : Leaf → LeafSum
leaf_sum null = inl tt
leaf_sum (text s) = inr (inl s)
leaf_sum (pre_tokenized p) = inr (inr (inl p))
leaf_sum (unsigned n) = inr (inr (inr (inl n)))
leaf_sum (signed z) = inr (inr (inr (inr (inl z))))
leaf_sum (boolean b) = inr (inr (inr (inr (inr (inl b)))))
leaf_sum (date z) = inr (inr (inr (inr (inr (inr (inl z))))))
leaf_sum (facet s) = inr (inr (inr (inr (inr (inr (inr (inl s)))))))
leaf_sum (byte_string b) = inr (inr (inr (inr (inr (inr (inr (inr (inl b))))))))
leaf_sum (ip a) = inr (inr (inr (inr (inr (inr (inr (inr (inr a))))))))

abbrev pub sum_leaf : LeafSum → Leaf
sum_leaf (inl _) = null
sum_leaf (inr (inl s)) = text s
sum_leaf (inr (inr (inl p))) = pre_tokenized p
sum_leaf (inr (inr (inr (inl n)))) = unsigned n
sum_leaf (inr (inr (inr (inr (inl z))))) = signed z
sum_leaf (inr (inr (inr (inr (inr (inl b)))))) = boolean b
sum_leaf (inr (inr (inr (inr (inr (inr (inl z))))))) = date z
sum_leaf (inr (inr (inr (inr (inr (inr (inr (inl s)))))))) = facet s
sum_leaf (inr (inr (inr (inr (inr (inr (inr (inr (inl b))))))))) = byte_string b
sum_leaf (inr (inr (inr (inr (inr (inr (inr (inr (inr a))))))))) = ip a

pub sum_leaf-leaf_sum : (l : Leaf) → sum_leaf (leaf_sum l) ≡ l
sum_leaf-leaf_sum null = refl
sum_leaf-leaf_sum (text s) = refl
sum_leaf-leaf_sum (pre_tokenized p) = refl
sum_leaf-leaf_sum (unsigned n) = refl
sum_leaf-leaf_sum (signed z) = refl
sum_leaf-leaf_sum (boolean b) = refl
sum_leaf-leaf_sum (date z) = refl
sum_leaf-leaf_sum (facet s) = refl
sum_leaf-leaf_sum (byte_string b) = refl
sum_leaf-leaf_sum (ip a) = refl

abbrev pub leaf_code : Coded Leaf
leaf_code = code_by LeafSum
    (coded⊎ coded_unit (coded⊎ (coded_list coded_ℕ) (coded⊎ pre_tokenized_code (coded⊎ coded_ℕ (coded⊎ coded_ℤ (coded⊎
    coded_bool (coded⊎ coded_ℤ (coded⊎ (coded_list coded_ℕ) (coded⊎ (coded_list coded_ℕ) (coded_list coded_ℕ))))))))))
    leaf_sum sum_leaf sum_leaf-leaf_sum

abbrev mutual
  pub code_tree : Tree → Gv
  code_tree (leaf l) = gcons (gnum 0) (leaf_code.code l)
  code_tree (array ts) = gcons (gnum 1) (code_trees ts)
  code_tree (object ms) = gcons (gnum 2) (code_members ms)

  pub code_trees : Trees → Gv
  code_trees no_trees = gnil
  code_trees (tree t ts) = gcons (code_tree t) (code_trees ts)

  pub code_members : Members → Gv
  code_members no_members = gnil
  code_members (member k t ms) = gcons (key_code.code k) (gcons (code_tree t) (code_members ms))

abbrev head : Gv → Gv
head gnil = gnil
head (gnum n) = gnil
head (gcons a b) = a

abbrev tail : Gv → Gv
tail gnil = gnil
tail (gnum n) = gnil
tail (gcons a b) = b

abbrev IsCons : Gv → Type 0
IsCons gnil = ⊥
IsCons (gnum n) = ⊥
IsCons (gcons a b) = Unit {0}

-- two kinds of a tree have two codes
apart : (m n : ℕ) {x y : Gv} → T (not (nat_eq m n)) → gcons (gnum m) x ≡ gcons (gnum n) y → ⊥
apart m n {x} {y} differ p = different m n differ (ap (λ g. num (head g)) p)
  where
    different : (m n : ℕ) → T (not (nat_eq m n)) → m ≡ n → ⊥
    different m n d e = grind (arith, nat_tests)

mutual
  pub tree_inj : (x y : Tree) → code_tree x ≡ code_tree y → x ≡ y
  tree_inj (leaf l) (leaf m) p = ap leaf (leaf_code.inj l m (ap tail p))
  tree_inj (array ts) (array us) p = ap array (trees_inj ts us (ap tail p))
  tree_inj (object ms) (object ns) p = ap object (members_inj ms ns (ap tail p))
  tree_inj (leaf l) (array us) p = absurd (apart 0 1 tt p)
  tree_inj (leaf l) (object ns) p = absurd (apart 0 2 tt p)
  tree_inj (array ts) (leaf m) p = absurd (apart 1 0 tt p)
  tree_inj (array ts) (object ns) p = absurd (apart 1 2 tt p)
  tree_inj (object ms) (leaf m) p = absurd (apart 2 0 tt p)
  tree_inj (object ms) (array us) p = absurd (apart 2 1 tt p)

  pub trees_inj : (x y : Trees) → code_trees x ≡ code_trees y → x ≡ y
  trees_inj no_trees no_trees p = refl
  trees_inj (tree t ts) (tree u us) p = λ i. tree (tree_inj t u (ap head p) i) (trees_inj ts us (ap tail p) i)
  trees_inj no_trees (tree u us) p = absurd (subst IsCons (sym p) tt)
  trees_inj (tree t ts) no_trees p = absurd (subst IsCons p tt)

  pub members_inj : (x y : Members) → code_members x ≡ code_members y → x ≡ y
  members_inj no_members no_members p = refl
  members_inj (member k t ms) (member j u ns) p = λ i. member (key_code.inj k j (ap head p) i)
      (tree_inj t u (ap (λ g. head (tail g)) p) i) (members_inj ms ns (ap (λ g. tail (tail g)) p) i)
  members_inj no_members (member j u ns) p = absurd (subst IsCons (sym p) tt)
  members_inj (member k t ms) no_members p = absurd (subst IsCons p tt)

abbrev pub tree_code : Coded Tree
tree_code = record { code = code_tree; inj = tree_inj }

-- a term is stored as its field and its bytes
abbrev pub term_code : Coded TermKey
term_code = code_by (ℕ × List ℕ) (coded× coded_ℕ key_code) (λ t. (t.field, t.bytes))
    (λ p. record { field = p.0; bytes = p.1 }) (λ _. refl)
