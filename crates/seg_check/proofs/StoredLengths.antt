-- The number of bytes of the parts of what is stored, one after another.
use Rattle.std.proofs.Common.{◌≡◌, ℕ, ◌+◌, ◌-◌, Bool, true, false, cond, List, ◌∷◌, ◌++◌, map, length, Some, drop, sym, ap, ◌∙◌, arith}
use Rattle.std.specs.Prelude.{filter}
use Rattle.std.specs.List.{slice_get, flat_map}
use Rattle.std.proofs.lemmas.List.{length-append}
use Rattle.seg_common.specs.Varint.{varint}
use Rattle.seg_common.proofs.Lists.{drop-slice_get}
use Rattle.seg_values.specs.Tree.{Tree, array, object, trees_from, members_from, Document}
use Rattle.seg_model.proofs.Exports.{sum_on}
use Rattle.seg_model.specs.Fields.{Schema, is_field}
use Rattle.seg_model.specs.DocumentTerms.{stored_value, stored_document}
use Rattle.seg_values.specs.StoredBytes.{sized, tree_count, member_count, tree_form, tree_forms, member_forms, pair_form}
use Rattle.seg_values.proofs.Exports.{count_members, count_trees}
use Rattle.seg_model.specs.SaturatedNumbers.{saturated}

begins : (rest : List ℕ) (tag n m : ℕ) → n ≡ m → 1 + length (varint m) + length rest ≡ length (tag ∷ (varint n ++ rest))
begins rest tag n m same = let e : length (varint n ++ rest) ≡ length (varint n) + length rest = length-append (varint n) rest in let k : length (varint m) ≡ length (varint n) = ap (λ x. length (varint x)) (sym same) in omega (arith, e, k)

pub array_begins : (ts : List Tree) (n size : ℕ) → n ≡ length ts → size ≡ length (varint n) → 1 + size + length (tree_forms (trees_from ts)) ≡ length (tree_form (array (trees_from ts)))
array_begins ts n size many is = ap (λ k. 1 + k + length (tree_forms (trees_from ts))) is ∙ begins (tree_forms (trees_from ts)) 10 (tree_count (trees_from ts)) n (count_trees ts ∙ sym many)

pub object_begins : (ms : List (List ℕ × Tree)) (n size : ℕ) → n ≡ length ms → size ≡ length (varint n) → 1 + size + length (member_forms (members_from ms)) ≡ length (tree_form (object (members_from ms)))
object_begins ms n size many is = ap (λ k. 1 + k + length (member_forms (members_from ms))) is ∙ begins (member_forms (members_from ms)) 11 (member_count (members_from ms)) n (count_members ms ∙ sym many)

pub sized_bytes : (bytes : List ℕ) → length (varint (length bytes)) + length bytes ≡ length (sized bytes)
sized_bytes bytes = sym (length-append (varint (length bytes)) bytes)

module _ (size after : ℕ) where
  pub tree_more : (ts : List Tree) (i : ℕ) (t : Tree) → slice_get ts i ≡ Some t → after ≡ saturated (size + saturated (length (tree_form t))) → saturated (after + length (tree_forms (trees_from (drop (i + 1) ts)))) ≡ saturated (size + length (tree_forms (trees_from (drop i ts))))
  tree_more ts i t at is =
      let rest = tree_forms (trees_from (drop (i + 1) ts)) in
      ap (λ n. saturated (n + length rest)) is
      ∙ sum_on size (length (tree_form t)) (length rest)
      ∙ ap (λ n. saturated (size + n)) (sym (length-append (tree_form t) rest))
      ∙ ap (λ l. saturated (size + length (tree_forms (trees_from l)))) (sym (drop-slice_get ts i t at))

  pub member_more : (ms : List (List ℕ × Tree)) (i : ℕ) (k : List ℕ) (t : Tree) → slice_get ms i ≡ Some (k, t) → after ≡ saturated (size + saturated (length (sized k) + length (tree_form t))) → saturated (after + length (member_forms (members_from (drop (i + 1) ms)))) ≡ saturated (size + length (member_forms (members_from (drop i ms))))
  member_more ms i k t at is =
      let rest = member_forms (members_from (drop (i + 1) ms)) in
      let one : length (sized k ++ (tree_form t ++ rest)) ≡ length (sized k) + length (tree_form t) + length rest = length-append (sized k) (tree_form t ++ rest) ∙ ap (λ n. length (sized k) + n) (length-append (tree_form t) rest) ∙ sums (length (sized k)) (length (tree_form t)) (length rest) in
      ap (λ n. saturated (n + length rest)) is
      ∙ sum_on size (length (sized k) + length (tree_form t)) (length rest)
      ∙ ap (λ n. saturated (size + n)) (sym one)
      ∙ ap (λ l. saturated (size + length (member_forms (members_from l)))) (sym (drop-slice_get ms i (k, t) at))
    where
      sums : (a b c : ℕ) → a + (b + c) ≡ a + b + c
      sums a b c = omega arith

-- ---- the pairs of a document

module _ (schema : Schema) (document : Document) (i field : ℕ) (t : Tree) (at : slice_get document i ≡ Some (field, t)) where
  one_kept : (b : Bool) → is_field (λ e. e.stored) (slice_get schema field) ≡ b → stored_document schema (drop i document) ≡ cond b ((field, stored_value t) ∷ stored_document schema (drop (i + 1) document)) (stored_document schema (drop (i + 1) document))
  one_kept b e = ap (stored_document schema) (drop-slice_get document i (field, t) at) ∙ by_case b e
    where
      by_case : (b : Bool) → is_field (λ e. e.stored) (slice_get schema field) ≡ b → map (λ (p : ℕ × Tree). (p.0, stored_value p.1)) (cond (is_field (λ e. e.stored) (slice_get schema field)) ((field, t) ∷ filter (λ p. is_field (λ e. e.stored) (slice_get schema p.0)) (drop (i + 1) document)) (filter (λ p. is_field (λ e. e.stored) (slice_get schema p.0)) (drop (i + 1) document))) ≡ cond b ((field, stored_value t) ∷ stored_document schema (drop (i + 1) document)) (stored_document schema (drop (i + 1) document))
      by_case true e = ap (λ c. map (λ (p : ℕ × Tree). (p.0, stored_value p.1)) (cond c ((field, t) ∷ filter (λ p. is_field (λ e. e.stored) (slice_get schema p.0)) (drop (i + 1) document)) (filter (λ p. is_field (λ e. e.stored) (slice_get schema p.0)) (drop (i + 1) document)))) e
      by_case false e = ap (λ c. map (λ (p : ℕ × Tree). (p.0, stored_value p.1)) (cond c ((field, t) ∷ filter (λ p. is_field (λ e. e.stored) (slice_get schema p.0)) (drop (i + 1) document)) (filter (λ p. is_field (λ e. e.stored) (slice_get schema p.0)) (drop (i + 1) document)))) e

  pub pair_skipped : is_field (λ e. e.stored) (slice_get schema field) ≡ false → stored_document schema (drop (i + 1) document) ≡ stored_document schema (drop i document)
  pair_skipped e = sym (one_kept false e)

  pub pair_kept : is_field (λ e. e.stored) (slice_get schema field) ≡ true → stored_document schema (drop i document) ≡ (field, stored_value t) ∷ stored_document schema (drop (i + 1) document)
  pair_kept e = one_kept true e

  pub pair_more : (size after : ℕ) → is_field (λ e. e.stored) (slice_get schema field) ≡ true → after ≡ saturated (size + saturated (length (pair_form (field, stored_value t)))) → saturated (after + length (flat_map pair_form (stored_document schema (drop (i + 1) document)))) ≡ saturated (size + length (flat_map pair_form (stored_document schema (drop i document))))
  pair_more size after e is =
      let rest = flat_map pair_form (stored_document schema (drop (i + 1) document)) in
      ap (λ n. saturated (n + length rest)) is
      ∙ sum_on size (length (pair_form (field, stored_value t))) (length rest)
      ∙ ap (λ n. saturated (size + n)) (sym (length-append (pair_form (field, stored_value t)) rest))
      ∙ ap (λ l. saturated (size + length (flat_map pair_form l))) (sym (pair_kept e))
