-- The bytes of trees, one tree after another.
use Rattle.std.proofs.Common.{◌≡◌, ℕ, ◌+◌, ◌≤◌, ◌<◌, ◌^◌, List, [], ◌∷◌, ◌++◌, Some, length, drop, append_assoc, append-nil, sym, subst, ◌∙◌, arith}
use Rattle.std.specs.List.{slice_get}
use Rattle.std.proofs.lemmas.List.{drop_all}
use Rattle.seg_common.specs.Varint.{varint}
use Rattle.seg_common.proofs.Lists.{drop-slice_get}
use Rattle.seg_values.specs.Tree.{Tree, array, object, trees_from, members_from}
use Rattle.seg_values.specs.StoredBytes.{sized, tree_count, member_count, tree_form, tree_forms, member_forms}
use Rattle.seg_values.proofs.Exports.{count_members, count_trees}
use Rattle.seg_doc_bytes.specs.StorableDocuments.{IsText, IsStorable, AreStorable, AreStorableMembers}

module _ (out after : List ℕ) where
  pub one_tree : (ts : List Tree) (i : ℕ) (t : Tree) → slice_get ts i ≡ Some t → after ≡ out ++ tree_form t → after ++ tree_forms (trees_from (drop (i + 1) ts)) ≡ out ++ tree_forms (trees_from (drop i ts))
  one_tree ts i t at is = rw (is, drop-slice_get ts i t at) (simp append_assoc)

  pub one_member : (ms : List (List ℕ × Tree)) (i : ℕ) (k : List ℕ) (t : Tree) → slice_get ms i ≡ Some (k, t) → after ≡ (out ++ sized k) ++ tree_form t → after ++ member_forms (members_from (drop (i + 1) ms)) ≡ out ++ member_forms (members_from (drop i ms))
  one_member ms i k t at is = rw (is, drop-slice_get ms i (k, t) at) (simp append_assoc)

-- one storable tree more
pub one_storable : (ts : List Tree) (i : ℕ) (t : Tree) → slice_get ts i ≡ Some t → IsStorable t → AreStorable (trees_from (drop (i + 1) ts)) → AreStorable (trees_from (drop i ts))
one_storable ts i t at is others = subst (λ (us : List Tree). AreStorable (trees_from us)) (sym (drop-slice_get ts i t at)) (is, others)

pub one_storable_member : (ms : List (List ℕ × Tree)) (i : ℕ) (k : List ℕ) (t : Tree) → slice_get ms i ≡ Some (k, t) → IsText k → IsStorable t → AreStorableMembers (members_from (drop (i + 1) ms)) → AreStorableMembers (members_from (drop i ms))
one_storable_member ms i k t at key is others = subst (λ (us : List (List ℕ × Tree)). AreStorableMembers (members_from us)) (sym (drop-slice_get ms i (k, t) at)) (key, is, others)

-- all of an array is written
pub array_form : (before out after : List ℕ) (n at : ℕ) (ts : List Tree) → n ≡ length ts → after ≡ before ++ 10 ∷ varint n → out ++ tree_forms (trees_from (drop at ts)) ≡ after ++ tree_forms (trees_from ts) → n ≤ at → out ≡ before ++ tree_form (array (trees_from ts))
array_form before out after n at ts many head all end =
    let none : drop at ts ≡ [] = drop_all at ts (omega arith) in
    let whole : out ++ tree_forms (trees_from []) ≡ after ++ tree_forms (trees_from ts) = subst (λ (us : List Tree). out ++ tree_forms (trees_from us) ≡ after ++ tree_forms (trees_from ts)) none all in
    let count : n ≡ tree_count (trees_from ts) = many ∙ sym (count_trees ts) in
    sym (append-nil out) ∙ whole ∙ rw (head, count) (simp append_assoc)

pub object_form : (before out after : List ℕ) (n at : ℕ) (ms : List (List ℕ × Tree)) → n ≡ length ms → after ≡ before ++ 11 ∷ varint n → out ++ member_forms (members_from (drop at ms)) ≡ after ++ member_forms (members_from ms) → n ≤ at → out ≡ before ++ tree_form (object (members_from ms))
object_form before out after n at ms many head all end =
    let none : drop at ms ≡ [] = drop_all at ms (omega arith) in
    let whole : out ++ member_forms (members_from []) ≡ after ++ member_forms (members_from ms) = subst (λ (us : List (List ℕ × Tree)). out ++ member_forms (members_from us) ≡ after ++ member_forms (members_from ms)) none all in
    let count : n ≡ member_count (members_from ms) = many ∙ sym (count_members ms) in
    sym (append-nil out) ∙ whole ∙ rw (head, count) (simp append_assoc)

pub array_storable : (n at : ℕ) (ts : List Tree) → n ≡ length ts → n < 2 ^ 64 → (AreStorable (trees_from (drop at ts)) → AreStorable (trees_from ts)) → n ≤ at → IsStorable (array (trees_from ts))
array_storable n at ts many small go end =
    let none : drop at ts ≡ [] = drop_all at ts (omega arith) in
    (omega (arith, count_trees ts), go (subst (λ (us : List Tree). AreStorable (trees_from us)) (sym none) tt))

pub object_storable : (n at : ℕ) (ms : List (List ℕ × Tree)) → n ≡ length ms → n < 2 ^ 64 → (AreStorableMembers (members_from (drop at ms)) → AreStorableMembers (members_from ms)) → n ≤ at → IsStorable (object (members_from ms))
object_storable n at ms many small go end =
    let none : drop at ms ≡ [] = drop_all at ms (omega arith) in
    (omega (arith, count_members ms), go (subst (λ (us : List (List ℕ × Tree)). AreStorableMembers (members_from us)) (sym none) tt))
