-- JSON values of trees have no float.
use Rattle.std.proofs.Common.{◌≡◌, ℕ, pos, negsuc, List, [], ◌∷◌, false, ◌||◌, Ordering, Less, Equal, Greater, nat_cmp, ◌+◌, refl}
use Rattle.std.proofs.lemmas.Bool.{or_parts, or_from}
use Rattle.std.specs.Cmp.Lexicographic.{slice_cmp}
use Rattle.std.specs.Ordering.{match_ordering}
use Rattle.serde_json.specs.Data as json
use Rattle.serde_json.specs.Data.{Data, put}
use Rattle.serde_json.specs.Written.{has_float, items_have_float, members_have_float}
use Rattle.seg_tokens.specs.declared.token.Token.{Token}
use Rattle.seg_values.specs.DocumentJson.{values_of, put_values, fields_json, document_object}
use Rattle.seg_values.specs.Schemas.{Schema}
use Rattle.seg_values.specs.Tree.{Leaf, null, text, pre_tokenized, unsigned, signed, boolean, date, facet, byte_string, ip, Tree, leaf, array, object, Trees, no_trees, tree, trees_from, Members, no_members, member, Document}
use Rattle.seg_values.specs.ValueJson.{tokens_items, leaf_json, value_json, items_json, members_json}

put_at : (o : Ordering) (k l : List ℕ) (d e : Data) (ms : json.Members) → has_float d ≡ false → has_float e ≡ false → members_have_float ms ≡ false → members_have_float (put k d ms) ≡ false
    → members_have_float (match_ordering o (json.member k d (json.member l e ms)) (json.member l d ms) (json.member l e (put k d ms))) ≡ false
put_at Less k l d e ms hd he hms later = or_from (has_float d) (has_float e || members_have_float ms) hd (or_from (has_float e) (members_have_float ms) he hms)
put_at Equal k l d e ms hd he hms later = or_from (has_float d) (members_have_float ms) hd hms
put_at Greater k l d e ms hd he hms later = or_from (has_float e) (members_have_float (put k d ms)) he later

put_none : (k : List ℕ) (d : Data) (ms : json.Members) → has_float d ≡ false → members_have_float ms ≡ false → members_have_float (put k d ms) ≡ false
put_none k d json.no_members hd h = or_from (has_float d) false hd refl
put_none k d (json.member l e ms) hd h =
    let parts = or_parts (has_float e) (members_have_float ms) h in
    put_at (slice_cmp nat_cmp k l) k l d e ms hd parts.0 parts.1 (put_none k d ms hd parts.1)

tokens_none : (ts : List Token) → items_have_float (tokens_items ts) ≡ false
tokens_none [] = refl
tokens_none (t ∷ ts) = tokens_none ts

leaf_none : (l : Leaf) → has_float (leaf_json l) ≡ false
leaf_none null = refl
leaf_none (text s) = refl
leaf_none (pre_tokenized p) = or_from (items_have_float (tokens_items p.tokens)) false (tokens_none p.tokens) refl
leaf_none (unsigned n) = refl
leaf_none (signed (pos n)) = refl
leaf_none (signed (negsuc n)) = refl
leaf_none (boolean b) = refl
leaf_none (date nanos) = refl
leaf_none (facet encoded) = refl
leaf_none (byte_string bytes) = refl
leaf_none (ip octets) = refl

mutual
  value_none : (t : Tree) → has_float (value_json t) ≡ false
  value_none (leaf l) = leaf_none l
  value_none (array ts) = items_none ts
  value_none (object ms) = members_none json.no_members ms refl

  items_none : (ts : Trees) → items_have_float (items_json ts) ≡ false
  items_none no_trees = refl
  items_none (tree t ts) = or_from (has_float (value_json t)) (items_have_float (items_json ts)) (value_none t) (items_none ts)

  members_none : (before : json.Members) (ms : Members) → members_have_float before ≡ false → members_have_float (members_json before ms) ≡ false
  members_none before no_members h = h
  members_none before (member k t ms) h = members_none (put k (value_json t) before) ms (put_none k (value_json t) before (value_none t) h)

values_none : (name : List ℕ) (ts : List Tree) (ms : json.Members) → members_have_float ms ≡ false → members_have_float (put_values name ts ms) ≡ false
values_none name [] ms h = h
values_none name (t ∷ ts) ms h = put_none name (json.array (items_json (trees_from (t ∷ ts)))) ms (items_none (trees_from (t ∷ ts))) h

fields_none : (field : ℕ) (schema : Schema) (document : Document) → members_have_float (fields_json field schema document) ≡ false
fields_none field [] document = refl
fields_none field (e ∷ es) document = values_none e.name (values_of field document) (fields_json (field + 1) es document) (fields_none (field + 1) es document)

pub object_none : (schema : Schema) (document : Document) → has_float (document_object schema document) ≡ false
object_none schema document = fields_none 0 schema document
