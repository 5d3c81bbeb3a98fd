-- Stored documents are read from their bytes.
use Rattle.std.proofs.Common.{◌≡◌, ℕ, suc, ◌<◌, ◌≤◌, ◌^◌, Bool, true, false, [], ◌∷◌, ◌++◌, Some, length, append_assoc, append-nil, refl, sym, ap, ◌∙◌, arith, map, filter, cond}
use Rattle.std.specs.List.{flat_map, AllByRecursion}
use Rattle.seg_common.specs.Varint.{varint}
use Rattle.seg_values.specs.Tree.{Leaf, null, text, pre_tokenized, unsigned, signed, boolean, date, facet, byte_string, ip, Tree, leaf, array, object, levels, Document}
use Rattle.seg_values.specs.Schemas.{Schema}
use Rattle.seg_values.specs.StoredDocuments.{stored_leaf, stored_value, stored_document}
use Rattle.seg_values.specs.StoredBytes.{tree_form, pair_form, document_form}
use Rattle.seg_doc_bytes.specs.FrontReaders.{counted_at}
use Rattle.seg_doc_bytes.specs.StoredDocument.{is_top, most_levels_read, pair_at, all_read, stored_document_of}
use Rattle.seg_doc_bytes.specs.StorableDocuments.{IsLeaf, IsStorable, IsStoredPair}
use Rattle.seg_doc_bytes.specs.StoredDocumentLaw.{AreShallow, IsReadBack}
use Rattle.seg_doc_bytes.proofs.RoundTrips.{Reads, small_reads, times_read, counted_reads}
use Rattle.seg_doc_bytes.proofs.ReadTrees.{tree_reads}
use Rattle.seg_doc_bytes.proofs.StoredPairs.{is_stored, as_stored}

pair_reads : (p : ℕ × Tree) → IsStoredPair p → Reads pair_at (pair_form p) p
pair_reads p is rest =
    ap pair_at (append_assoc (varint p.0) (tree_form p.1) rest)
    ∙ rw (small_reads p.0 is.field (tree_form p.1 ++ rest)) (rw (tree_reads p.1 most_levels_read is.storable is.shallow rest) (rw is.top refl))

-- the form of storable pairs is read as these
pub document_reads : (document : Document) → AllByRecursion IsStoredPair document → length document < 2 ^ 64 → stored_document_of (document_form document) ≡ Some document
unfolding stored_document_of
document_reads document all few =
    let reads : counted_at pair_at (document_form document ++ []) ≡ Some (document, []) = counted_reads pair_at (length document) (flat_map pair_form document) document few (times_read pair_at pair_form IsStoredPair pair_reads document all) [] in
    ap (λ bytes. all_read (counted_at pair_at bytes)) (sym (append-nil (document_form document))) ∙ ap all_read reads

-- a stored value: a leaf that isn't a pre-tokenized text, or all that it was
pub stored_leaf-storable : (l : Leaf) → IsLeaf l → IsLeaf (stored_leaf l)
stored_leaf-storable null is = is
stored_leaf-storable (text s) is = is
stored_leaf-storable (pre_tokenized p) is = is.0
stored_leaf-storable (unsigned n) is = is
stored_leaf-storable (signed z) is = is
stored_leaf-storable (boolean b) is = is
stored_leaf-storable (date z) is = is
stored_leaf-storable (facet s) is = is
stored_leaf-storable (byte_string b) is = is
stored_leaf-storable (ip octets) is = is

pub stored_value-storable : (t : Tree) → IsStorable t → IsStorable (stored_value t)
stored_value-storable (leaf l) is = stored_leaf-storable l is
stored_value-storable (array ts) is = is
stored_value-storable (object ms) is = is

pub stored_value-levels : (t : Tree) → levels (stored_value t) ≡ levels t
stored_value-levels (leaf l) = refl
stored_value-levels (array ts) = refl
stored_value-levels (object ms) = refl

stored_leaf-top : (l : Leaf) → is_top (leaf (stored_leaf l)) ≡ true
stored_leaf-top null = refl
stored_leaf-top (text s) = refl
stored_leaf-top (pre_tokenized p) = refl
stored_leaf-top (unsigned n) = refl
stored_leaf-top (signed z) = refl
stored_leaf-top (boolean b) = refl
stored_leaf-top (date z) = refl
stored_leaf-top (facet s) = refl
stored_leaf-top (byte_string b) = refl
stored_leaf-top (ip octets) = refl

pub stored_value-top : (t : Tree) → is_top (stored_value t) ≡ true
stored_value-top (leaf l) = stored_leaf-top l
stored_value-top (array ts) = refl
stored_value-top (object ms) = refl

stored_more : (schema : Schema) (p : ℕ × Tree) (ps : Document) (b : Bool) → IsStoredPair (as_stored p) → AllByRecursion IsStoredPair (stored_document schema ps) → AllByRecursion IsStoredPair (map as_stored (cond b (p ∷ filter (is_stored schema) ps) (filter (is_stored schema) ps)))
stored_more schema p ps true here rest = (here, rest)
stored_more schema p ps false here rest = rest

-- the pairs of a storable document that are stored
stored_pairs : (schema : Schema) (document : Document) → AllByRecursion (λ p. p.0 < 2 ^ 32) document → AllByRecursion (λ p. IsStorable p.1) document → AreShallow document → AllByRecursion IsStoredPair (stored_document schema document)
stored_pairs schema [] fields trees shallow = tt
stored_pairs schema (p ∷ ps) fields trees shallow =
    stored_more schema p ps (is_stored schema p)
    (record { field = fields.0; storable = stored_value-storable p.1 trees.0; shallow = omega (arith, stored_value-levels p.1, shallow.0); top = stored_value-top p.1 })
    (stored_pairs schema ps fields.1 trees.1 shallow.1)

one_few : (schema : Schema) (p : ℕ × Tree) (ps : Document) (b : Bool) → length (stored_document schema ps) ≤ length ps → length (map as_stored (cond b (p ∷ filter (is_stored schema) ps) (filter (is_stored schema) ps))) ≤ suc (length ps)
one_few schema p ps true h = omega arith
one_few schema p ps false h = omega arith

stored_few : (schema : Schema) (document : Document) → length (stored_document schema document) ≤ length document
stored_few schema [] = omega arith
stored_few schema (p ∷ ps) = one_few schema p ps (is_stored schema p) (stored_few schema ps)

pub is_read_back : IsReadBack
is_read_back schema document is shallow = document_reads (stored_document schema document) (stored_pairs schema document is.fields is.trees shallow) (omega (arith, stored_few schema document, is.few))
