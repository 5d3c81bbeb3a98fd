-- Trees that are made.
use Rattle.std.proofs.Common.{◌≡◌, ℕ, suc, Bool, false, cond, List, ◌∷◌, Option, Some, None, refl, ap, ◌∙◌}
use Rattle.std.specs.Prelude.{nat_eq, Result, Ok, Err, IfOk}
use Rattle.seg_values.specs.Tree.{Tree, leaf, array, object, trees_from, members_from}
use Rattle.seg_doc_bytes.specs.FrontValues.{Makes}
use Rattle.seg_doc_bytes.specs.FrontReaders.{Reader, then_read, made_of, counted_at, text_at}
use Rattle.seg_doc_bytes.specs.StoredTree.{leaf_at, member_at, tree_at, stored_tree_at}

-- what reads the same is made of it
pub makes_as : {A B E : Type 0} (read as_read : Reader A) (view : B → A) (bytes as_bytes rest : List ℕ) (r : Result (Option B) E) → read bytes ≡ as_read as_bytes → IfOk r (Makes as_read view as_bytes rest) → IfOk r (Makes read view bytes rest)
makes_as read as_read view bytes as_bytes rest (Ok (Some x)) is h = is ∙ h
makes_as read as_read view bytes as_bytes rest (Ok None) is h = is ∙ h
makes_as read as_read view bytes as_bytes rest (Err e) is h = h

-- a tree whose tag was taken
tree_front : (levels l tag : ℕ) (old rest : List ℕ) → levels ≡ suc l → old ≡ tag ∷ rest → stored_tree_at levels old ≡ tree_at (stored_tree_at l) (tag ∷ rest)
unfolding stored_tree_at
tree_front levels l tag old rest is front = ap (λ n. stored_tree_at n old) is ∙ ap (tree_at (stored_tree_at l)) front

pub array_front : (levels l tag : ℕ) (old rest : List ℕ) → levels ≡ suc l → old ≡ tag ∷ rest → tag ≡ 10 → stored_tree_at levels old ≡ made_of (λ ts. array (trees_from ts)) (counted_at (stored_tree_at l) rest)
array_front levels l tag old rest is front ten = tree_front levels l tag old rest is front ∙ ap (λ t. tree_at (stored_tree_at l) (t ∷ rest)) ten

pub object_front : (levels l tag : ℕ) (old rest : List ℕ) → levels ≡ suc l → old ≡ tag ∷ rest → tag ≡ 11 → stored_tree_at levels old ≡ made_of (λ ms. object (members_from ms)) (counted_at (member_at (stored_tree_at l)) rest)
object_front levels l tag old rest is front eleven = tree_front levels l tag old rest is front ∙ ap (λ t. tree_at (stored_tree_at l) (t ∷ rest)) eleven

by_tag : (ten eleven : Bool) (x y z : Option (Tree × List ℕ)) → ten ≡ false → eleven ≡ false → cond ten x (cond eleven y z) ≡ z
by_tag ten eleven x y z no_ten no_eleven = rw (no_ten, no_eleven) refl

pub leaf_front : (levels l tag : ℕ) (old rest : List ℕ) → levels ≡ suc l → old ≡ tag ∷ rest → nat_eq tag 10 ≡ false → nat_eq tag 11 ≡ false → stored_tree_at levels old ≡ made_of leaf (leaf_at tag rest)
leaf_front levels l tag old rest is front no_ten no_eleven =
    tree_front levels l tag old rest is front
    ∙ by_tag (nat_eq tag 10) (nat_eq tag 11) (made_of (λ ts. array (trees_from ts)) (counted_at (stored_tree_at l) rest)) (made_of (λ ms. object (members_from ms)) (counted_at (member_at (stored_tree_at l)) rest)) (made_of leaf (leaf_at tag rest)) no_ten no_eleven

-- a key with its tree
pub member_made : (inner : Reader Tree) (old left new key : List ℕ) (t : Tree) → text_at old ≡ Some (key, left) → inner left ≡ Some (t, new) → member_at inner old ≡ Some ((key, t), new)
member_made inner old left new key t k is =
    ap (λ o. then_read o (λ k rest. then_read (inner rest) (λ t after. Some ((k, t), after)))) k
    ∙ ap (λ o. then_read o (λ t after. Some ((key, t), after))) is
