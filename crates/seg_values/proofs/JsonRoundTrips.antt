-- JSON values of trees are read back.
use Rattle.std.proofs.Common.{◌≡◌, ℕ, pos, negsuc, List, [], ◌∷◌, ◌++◌, map, Some, Less, Greater, nat_cmp, refl, sym, ap, ◌∙◌, subst, append_assoc, append-nil}
use Rattle.std.proofs.lemmas.Cmp.{nat_list_cmp_total}
use Rattle.std.specs.Cmp.Lexicographic.{slice_cmp}
use Rattle.std.specs.List.{AllByRecursion}
use Rattle.std.specs.List.Sorted.{IsStrictlySortedBy}
use Rattle.std.specs.Option.{option_map}
use Rattle.std.specs.Ordering.{ordering_reverse}
use Rattle.serde_json.specs.Data as json
use Rattle.serde_json.specs.Data.{Data, put}
use Rattle.seg_values.specs.declared.reading.Reading.TheVariants.{Plain}
use Rattle.seg_values.specs.JsonTrees.{tree_read, trees_read, members_read, put_first}
use Rattle.seg_values.specs.LosslessJsonTrees.{IsToldLeaf, keys_of, IsToldByJson, AreToldByJson, AreMembersToldByJson}
use Rattle.seg_values.specs.Tree.{Leaf, null, text, pre_tokenized, unsigned, signed, boolean, date, facet, byte_string, ip, Tree, leaf, array, object, Trees, no_trees, tree, trees_from, Members, no_members, member, members_from}
use Rattle.seg_values.specs.ValueJson.{leaf_json, value_json, items_json, members_json}

-- trees and members as plain lists
abbrev list_of : Trees → List Tree
list_of no_trees = []
list_of (tree t ts) = t ∷ list_of ts

abbrev pairs_of : Members → List (List ℕ × Tree)
pairs_of no_members = []
pairs_of (member k t ms) = (k, t) ∷ pairs_of ms

trees_of_list : (ts : Trees) → trees_from (list_of ts) ≡ ts
trees_of_list no_trees = refl
trees_of_list (tree t ts) = ap (tree t) (trees_of_list ts)

members_of_pairs : (ms : Members) → members_from (pairs_of ms) ≡ ms
members_of_pairs no_members = refl
members_of_pairs (member k t ms) = ap (member k t) (members_of_pairs ms)

-- members in a plain list as an object has them
abbrev members_in : List (List ℕ × Data) → json.Members
members_in [] = json.no_members
members_in (m ∷ ms) = json.member m.0 m.1 (members_in ms)

abbrev names : List (List ℕ × Data) → List (List ℕ)
names ms = map (λ m. m.0) ms

abbrev told : Members → List (List ℕ × Data)
told no_members = []
told (member k t ms) = (k, value_json t) ∷ told ms

below : (l k : List ℕ) (xs more : List (List ℕ)) → AllByRecursion (λ y. slice_cmp nat_cmp l y ≡ Less) (xs ++ k ∷ more) → slice_cmp nat_cmp l k ≡ Less
below l k [] more h = h.0
below l k (x ∷ xs) more h = below l k xs more h.1

-- a key above those before it goes last
put_end : (done : List (List ℕ × Data)) (k : List ℕ) (d : Data) (more : List (List ℕ)) → IsStrictlySortedBy (slice_cmp nat_cmp) (names done ++ k ∷ more) → put k d (members_in done) ≡ members_in (done ++ (k, d) ∷ [])
unfolding IsStrictlySortedBy
put_end [] k d more h = refl
put_end (m ∷ done) k d more h =
    let above : slice_cmp nat_cmp k m.0 ≡ Greater = nat_list_cmp_total.antisymm k m.0 ∙ ap ordering_reverse (below m.0 k (names done) more h.0) in
    rw above (ap (json.member m.0 m.1) (put_end done k d more h.1))

names_more : (done : List (List ℕ × Data)) (k : List ℕ) (d : Data) (more : List (List ℕ)) → names done ++ k ∷ more ≡ names (done ++ (k, d) ∷ []) ++ more
names_more [] k d more = refl
names_more (m ∷ done) k d more = ap (λ l. m.0 ∷ l) (names_more done k d more)

all_put : (done : List (List ℕ × Data)) (ms : Members) → IsStrictlySortedBy (slice_cmp nat_cmp) (names done ++ keys_of ms) → members_json (members_in done) ms ≡ members_in (done ++ told ms)
all_put done no_members h = ap members_in (sym (append-nil done))
all_put done (member k t ms) h =
    ap (λ b. members_json b ms) (put_end done k (value_json t) (keys_of ms) h)
    ∙ all_put (done ++ (k, value_json t) ∷ []) ms (subst (IsStrictlySortedBy (slice_cmp nat_cmp)) (names_more done k (value_json t) (keys_of ms)) h)
    ∙ ap members_in (append_assoc done ((k, value_json t) ∷ []) (told ms))

leaf_back : (l : Leaf) → IsToldLeaf l → tree_read Plain (leaf_json l) ≡ Some (leaf l)
leaf_back null h = refl
leaf_back (text s) h = refl
leaf_back (pre_tokenized p) h = absurd h
leaf_back (unsigned n) h = refl
leaf_back (signed (pos n)) h = absurd h
leaf_back (signed (negsuc n)) h = refl
leaf_back (boolean b) h = refl
leaf_back (date nanos) h = absurd h
leaf_back (facet encoded) h = absurd h
leaf_back (byte_string bytes) h = absurd h
leaf_back (ip octets) h = absurd h

mutual
  pub tree_back : (t : Tree) → IsToldByJson t → tree_read Plain (value_json t) ≡ Some t
  tree_back (leaf l) h = leaf_back l h
  tree_back (array ts) h = ap (option_map (λ us. array (trees_from us))) (trees_back ts h) ∙ ap (λ us. Some (array us)) (trees_of_list ts)
  tree_back (object ms) h =
      ap (λ d. option_map (λ found. object (members_from found)) (members_read Plain d)) (all_put [] ms h.0)
      ∙ ap (option_map (λ found. object (members_from found))) (members_back ms h.1)
      ∙ ap (λ us. Some (object us)) (members_of_pairs ms)

  trees_back : (ts : Trees) → AreToldByJson ts → trees_read Plain (items_json ts) ≡ Some (list_of ts)
  trees_back no_trees h = refl
  trees_back (tree t ts) h = rw (tree_back t h.0, trees_back ts h.1)

  members_back : (ms : Members) → AreMembersToldByJson ms → members_read Plain (members_in (told ms)) ≡ Some (pairs_of ms)
  members_back no_members h = refl
  members_back (member k t ms) h = rw (tree_back t h.0, members_back ms h.1)
