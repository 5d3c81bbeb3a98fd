-- The stored pairs of a document, one after another.
use Rattle.std.proofs.Common.{◌≡◌, ℕ, ◌+◌, ◌≤◌, Bool, true, false, List, [], ◌∷◌, ◌++◌, Some, length, map, filter, cond, drop, append_assoc, refl, sym, ap, subst, ◌∙◌, slice_get, arith}
use Rattle.std.specs.List.{flat_map, AllByRecursion}
use mir.Val.{bool_byte}
use Rattle.std.proofs.lemmas.Grind.{flat_map-append}
use Rattle.std.proofs.lemmas.List.{drop_all}
use Rattle.seg_common.proofs.Lists.{drop-slice_get}
use Rattle.seg_values.specs.Tree.{Tree, Document}
use Rattle.seg_values.specs.Schemas.{Schema, is_field}
use Rattle.seg_values.specs.StoredDocuments.{stored_value, stored_document}
use Rattle.seg_values.specs.StoredBytes.{pair_form}
use Rattle.seg_doc_bytes.specs.StorableDocuments.{IsStoredPair}

-- whether a pair is stored
abbrev pub is_stored : Schema → ℕ × Tree → Bool
is_stored schema p = is_field (λ e. e.stored) (slice_get schema p.0)

abbrev pub as_stored : ℕ × Tree → ℕ × Tree
as_stored p = (p.0, stored_value p.1)

if_stored : (b : Bool) (p : ℕ × Tree) (ps : Document) → map as_stored (cond b (p ∷ ps) ps) ≡ map as_stored (cond b (p ∷ []) []) ++ map as_stored ps
if_stored true p ps = refl
if_stored false p ps = refl

-- the first pair, and then the others
pub stored_document-cons : (schema : Schema) (p : ℕ × Tree) (ps : Document) → stored_document schema (p ∷ ps) ≡ stored_document schema (p ∷ []) ++ stored_document schema ps
stored_document-cons schema p ps = if_stored (is_stored schema p) p (filter (is_stored schema) ps)

all-append : (P : ℕ × Tree → Type 0) (xs ys : Document) → AllByRecursion P xs → AllByRecursion P ys → AllByRecursion P (xs ++ ys)
all-append P [] ys one others = others
all-append P (x ∷ xs) ys one others = (one.0, all-append P xs ys one.1 others)

-- one more pair is written
pub one_pair : (schema : Schema) (document : Document) (at : ℕ) (p : ℕ × Tree) (out after : List ℕ) → slice_get document at ≡ Some p → after ≡ out ++ flat_map pair_form (stored_document schema (p ∷ []))
    → after ++ flat_map pair_form (stored_document schema (drop (at + 1) document)) ≡ out ++ flat_map pair_form (stored_document schema (drop at document))
one_pair schema document at p out after here more =
    let rest = stored_document schema (drop (at + 1) document) in
    let one = stored_document schema (p ∷ []) in
    ap (λ xs. xs ++ flat_map pair_form rest) more
    ∙ append_assoc out (flat_map pair_form one) (flat_map pair_form rest)
    ∙ ap (λ xs. out ++ xs) (sym (flat_map-append pair_form one rest))
    ∙ ap (λ ps. out ++ flat_map pair_form ps) (sym (stored_document-cons schema p (drop (at + 1) document)))
    ∙ ap (λ ps. out ++ flat_map pair_form (stored_document schema ps)) (sym (drop-slice_get document at p here))

pub one_storable_pair : (schema : Schema) (document : Document) (at : ℕ) (p : ℕ × Tree) → slice_get document at ≡ Some p → AllByRecursion IsStoredPair (stored_document schema (p ∷ [])) → AllByRecursion IsStoredPair (stored_document schema (drop (at + 1) document)) → AllByRecursion IsStoredPair (stored_document schema (drop at document))
one_storable_pair schema document at p here one others =
    subst (λ (ps : Document). AllByRecursion IsStoredPair ps)
    (sym (ap (stored_document schema) (drop-slice_get document at p here) ∙ stored_document-cons schema p (drop (at + 1) document)))
    (all-append IsStoredPair (stored_document schema (p ∷ [])) (stored_document schema (drop (at + 1) document)) one others)

-- nothing is left
pub all_storable : (schema : Schema) (document : Document) (at : ℕ) → length document ≤ at → AllByRecursion IsStoredPair (stored_document schema (drop at document))
all_storable schema document at end = subst (λ (ps : Document). AllByRecursion IsStoredPair (stored_document schema ps)) (sym (drop_all at document end)) tt

-- one more pair is counted
pub one_counted : (schema : Schema) (document : Document) (at : ℕ) (p : ℕ × Tree) (b : Bool) (n : ℕ) → slice_get document at ≡ Some p → b ≡ is_stored schema p → n ≡ bool_byte b → n + length (stored_document schema (drop (at + 1) document)) ≡ length (stored_document schema (drop at document))
one_counted schema document at p b n here is counts =
    ap (λ (m : ℕ). m + length rest) (counts ∙ ap bool_byte is)
    ∙ by (is_stored schema p)
    ∙ ap (λ ps. length (stored_document schema ps)) (sym (drop-slice_get document at p here))
  where
    rest : Document
    rest = stored_document schema (drop (at + 1) document)

    by : (c : Bool) → bool_byte c + length (map as_stored (filter (is_stored schema) (drop (at + 1) document))) ≡ length (map as_stored (cond c (p ∷ filter (is_stored schema) (drop (at + 1) document)) (filter (is_stored schema) (drop (at + 1) document))))
    by true = omega arith
    by false = omega arith
