-- Trees are read from their bytes.
use Rattle.std.proofs.Common.{◌≡◌, ℕ, zero, suc, ◌≤◌, true, false, List, [], ◌∷◌, ◌++◌, Some, length, append_assoc, refl, sym, ap, ◌∙◌, arith, ℤ}
use Rattle.std.specs.Prelude.{FitsSigned}
use Rattle.std.specs.List.{flat_map}
use Rattle.std.specs.Int.{w64, to_le_bytes, cast_unsigned, cast_signed}
use Rattle.std.proofs.lemmas.Int.{to_z-of_z}
use Rattle.std.proofs.Math.Facts.{Fits-of_z}
use Rattle.seg_common.specs.Varint.{varint}
use Rattle.seg_tokens.specs.declared.token.Token.{Token}
use Rattle.seg_values.specs.Tree.{Leaf, null, text, pre_tokenized, unsigned, signed, boolean, date, facet, byte_string, ip, Tree, leaf, array, object, Trees, no_trees, tree, Members, no_members, member, trees_from, members_from, levels, most_levels, most_member_levels}
use Rattle.seg_values.specs.StoredBytes.{sized, token_form, leaf_form, tree_count, member_count, tree_form, tree_forms, member_forms}
use Rattle.seg_doc_bytes.specs.FrontReaders.{Reader, then_read, made_of, times_at, front, number_at}
use Rattle.seg_doc_bytes.specs.StoredTree.{token_at, pre_tokenized_at, member_at, tree_at, stored_tree_at}
use Rattle.seg_doc_bytes.specs.StorableDocuments.{IsToken, IsLeaf, IsStorable, AreStorable, AreStorableMembers}
use Rattle.seg_doc_bytes.proofs.RoundTrips.{Reads, varint_reads, small_reads, front_reads, sized_reads, text_reads, number_reads, times_read, counted_reads}

token_grouped : (a b c d e rest : List ℕ) → (a ++ (b ++ (c ++ (d ++ e)))) ++ rest ≡ a ++ (b ++ (c ++ (d ++ (e ++ rest))))
token_grouped a b c d e rest = simp append_assoc

pub token_reads : (t : Token) → IsToken t → Reads token_at (token_form t) t
token_reads t is rest =
    let form4 = sized t.text ++ rest in
    let form3 = varint t.position_length ++ form4 in
    let form2 = varint t.position ++ form3 in
    let form1 = varint t.offset_to ++ form2 in
    ap token_at (token_grouped (varint t.offset_from) (varint t.offset_to) (varint t.position) (varint t.position_length) (sized t.text) rest)
    ∙ rw (varint_reads t.offset_from is.from form1) (rw (varint_reads t.offset_to is.to form2) (rw (small_reads t.position is.position form3) (rw (small_reads t.position_length is.span form4) (rw (text_reads t.text is.text rest) refl))))

-- what was read, made into another thing
made : {A B : Type 0} (make : A → B) (read : Reader A) (form : List ℕ) (x : A) (rest : List ℕ) → Reads read form x → made_of make (read (form ++ rest)) ≡ Some (make x, rest)
made make read form x rest reads = ap (made_of make) (reads rest)

signed_leaf : (make : ℤ → Leaf) (z : ℤ) → FitsSigned w64 z → (rest : List ℕ) → made_of (λ n. make (cast_signed w64 n)) (number_at (to_le_bytes w64 (cast_unsigned w64 z) ++ rest)) ≡ Some (make z, rest)
signed_leaf make z fits rest = ap (made_of (λ n. make (cast_signed w64 n))) (number_reads (cast_unsigned w64 z) (omega (arith, Fits-of_z {w = w64} fits)) rest) ∙ ap (λ (y : ℤ). Some (make y, rest)) (to_z-of_z w64 z fits)

-- a leaf after its tag, read as a tree
pub leaf_reads : (inner : Reader Tree) (l : Leaf) → IsLeaf l → Reads (tree_at inner) (leaf_form l) (leaf l)
leaf_reads inner null is rest = refl
leaf_reads inner (text s) is rest = ap (λ r. made_of leaf (made_of text r)) (text_reads s is rest)
leaf_reads inner (pre_tokenized p) is rest =
    let tokens = varint (length p.tokens) ++ flat_map token_form p.tokens in
    ap (λ bytes. made_of leaf (pre_tokenized_at bytes)) (append_assoc (sized p.text) tokens rest)
    ∙ rw (text_reads p.text is.0 (tokens ++ rest)) (rw (counted_reads token_at (length p.tokens) (flat_map token_form p.tokens) p.tokens is.1 (times_read token_at token_form IsToken token_reads p.tokens is.2) rest) refl)
leaf_reads inner (unsigned n) is rest = ap (λ r. made_of leaf (made_of unsigned r)) (number_reads n is rest)
leaf_reads inner (signed z) is rest = ap (made_of leaf) (signed_leaf signed z is rest)
leaf_reads inner (boolean true) is rest = refl
leaf_reads inner (boolean false) is rest = refl
leaf_reads inner (date z) is rest = ap (made_of leaf) (signed_leaf date z is rest)
leaf_reads inner (facet s) is rest = ap (λ r. made_of leaf (made_of facet r)) (text_reads s is rest)
leaf_reads inner (byte_string b) is rest = ap (λ r. made_of leaf (made_of byte_string r)) (sized_reads b is rest)
leaf_reads inner (ip octets) is rest = ap (λ (n : ℕ). made_of leaf (made_of ip (front n (octets ++ rest)))) (sym is) ∙ ap (λ r. made_of leaf (made_of ip r)) (front_reads octets rest)

abbrev trees_list : Trees → List Tree
trees_list no_trees = []
trees_list (tree t ts) = t ∷ trees_list ts

abbrev members_list : Members → List (List ℕ × Tree)
members_list no_members = []
members_list (member k t ms) = (k, t) ∷ members_list ms

trees_from-list : (ts : Trees) → trees_from (trees_list ts) ≡ ts
trees_from-list no_trees = refl
trees_from-list (tree t ts) = ap (tree t) (trees_from-list ts)

members_from-list : (ms : Members) → members_from (members_list ms) ≡ ms
members_from-list no_members = refl
members_from-list (member k t ms) = ap (member k t) (members_from-list ms)

open_tree : (levels : ℕ) (bytes : List ℕ) → stored_tree_at (suc levels) bytes ≡ tree_at (stored_tree_at levels) bytes
unfolding stored_tree_at
open_tree levels bytes = refl

pub member_grouped : (a b c rest : List ℕ) → (a ++ (b ++ c)) ++ rest ≡ a ++ (b ++ (c ++ rest))
member_grouped a b c rest = simp append_assoc

mutual
  pub tree_reads : (t : Tree) (n : ℕ) → IsStorable t → levels t ≤ n → Reads (stored_tree_at n) (tree_form t) t
  tree_reads t zero is deep rest = absurd (none t deep)
    where
      none : (t : Tree) → levels t ≤ 0 → ⊥
      none (leaf l) h = omega arith
      none (array ts) h = omega arith
      none (object ms) h = omega arith
  tree_reads (leaf l) (suc n) is deep rest = open_tree n (leaf_form l ++ rest) ∙ leaf_reads (stored_tree_at n) l is rest
  tree_reads (array ts) (suc n) is deep rest =
      open_tree n (tree_form (array ts) ++ rest)
      ∙ ap (made_of (λ us. array (trees_from us))) (counted_reads (stored_tree_at n) (tree_count ts) (tree_forms ts) (trees_list ts) is.0 (trees_read ts n is.1 (omega arith)) rest)
      ∙ ap (λ us. Some (array us, rest)) (trees_from-list ts)
  tree_reads (object ms) (suc n) is deep rest =
      open_tree n (tree_form (object ms) ++ rest)
      ∙ ap (made_of (λ us. object (members_from us))) (counted_reads (member_at (stored_tree_at n)) (member_count ms) (member_forms ms) (members_list ms) is.0 (members_read ms n is.1 (omega arith)) rest)
      ∙ ap (λ us. Some (object us, rest)) (members_from-list ms)

  trees_read : (ts : Trees) (n : ℕ) → AreStorable ts → most_levels ts ≤ n → Reads (times_at (stored_tree_at n) (tree_count ts)) (tree_forms ts) (trees_list ts)
  trees_read no_trees n is deep rest = refl
  trees_read (tree t ts) n is deep rest =
      ap (times_at (stored_tree_at n) (suc (tree_count ts))) (append_assoc (tree_form t) (tree_forms ts) rest)
      ∙ ap (λ r. then_read r (λ y more. then_read (times_at (stored_tree_at n) (tree_count ts) more) (λ ys after. Some (y ∷ ys, after)))) (tree_reads t n is.0 (omega arith) (tree_forms ts ++ rest))
      ∙ ap (λ r. then_read r (λ ys after. Some (t ∷ ys, after))) (trees_read ts n is.1 (omega arith) rest)

  members_read : (ms : Members) (n : ℕ) → AreStorableMembers ms → most_member_levels ms ≤ n → Reads (times_at (member_at (stored_tree_at n)) (member_count ms)) (member_forms ms) (members_list ms)
  members_read no_members n is deep rest = refl
  members_read (member k t ms) n is deep rest =
      let tail = member_forms ms ++ rest in
      let one : member_at (stored_tree_at n) (sized k ++ (tree_form t ++ tail)) ≡ Some ((k, t), tail) =
      ap (λ r. then_read r (λ key more. then_read (stored_tree_at n more) (λ u after. Some ((key, u), after)))) (text_reads k is.0 (tree_form t ++ tail))
      ∙ ap (λ r. then_read r (λ u after. Some ((k, u), after))) (tree_reads t n is.1 (omega arith) tail) in
      ap (times_at (member_at (stored_tree_at n)) (suc (member_count ms))) (member_grouped (sized k) (tree_form t) (member_forms ms) rest)
      ∙ ap (λ r. then_read r (λ y more. then_read (times_at (member_at (stored_tree_at n)) (member_count ms) more) (λ ys after. Some (y ∷ ys, after)))) one
      ∙ ap (λ r. then_read r (λ ys after. Some ((k, t) ∷ ys, after))) (members_read ms n is.2 (omega arith) rest)
