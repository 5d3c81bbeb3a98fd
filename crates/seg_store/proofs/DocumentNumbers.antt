-- How many documents a store has.
use Rattle.std.proofs.Common.{◌≡◌, ℕ, suc, ◌+◌, true, List, [], ◌∷◌, length, map, Option, Some, None, refl, sym, ap, ◌∙◌, length-append, arith}
use Rattle.std.specs.Prelude.{is_some}
use Rattle.std.specs.List.{list_all, flat_map}
use Rattle.std.specs.Option.{option_to_list}
use Rattle.std.proofs.lemmas.Bool.{and_parts, false≢true}
use Rattle.seg_values.specs.Tree.{Document}
use Rattle.seg_doc_bytes.specs.StoredDocument.{stored_document_of, is_stored_document}
use Rattle.seg_store.specs.Block.{Block, documents_in, is_block}
use Rattle.seg_store.specs.Store.{is_store, blocks_of, store_parts, document_count, raw_documents, documents_of}
use Rattle.seg_store.proofs.DocumentPlaces.{block_facts, store_facts, blocks_cut}

one_of : (o : Option Document) → is_some o ≡ true → length (option_to_list o) ≡ 1
one_of None e = absurd (false≢true e)
one_of (Some d) e = refl

one_and : (a b n : ℕ) → a ≡ 1 → b ≡ n → a + b ≡ suc n
one_and a b n p q = omega (arith, p, q)

as_many : (ds : List (List ℕ)) → list_all is_stored_document ds ≡ true → length (flat_map (λ d. option_to_list (stored_document_of d)) ds) ≡ length ds
as_many [] h = refl
as_many (d ∷ ds) h =
    let two = and_parts (is_stored_document d) (list_all is_stored_document ds) h in
    length-append (option_to_list (stored_document_of d)) (flat_map (λ d. option_to_list (stored_document_of d)) ds)
    ∙ one_and (length (option_to_list (stored_document_of d))) (length (flat_map (λ d. option_to_list (stored_document_of d)) ds)) (length ds) (one_of (stored_document_of d) two.0) (as_many ds two.1)

in_parts : (parts : List (List ℕ)) → list_all is_block parts ≡ true → length (documents_of (map documents_in parts)) ≡ document_count (map documents_in parts)
in_parts [] h = refl
in_parts (p ∷ ps) h =
    let two = and_parts (is_block p) (list_all is_block ps) h in
    length-append (flat_map (λ d. option_to_list (stored_document_of d)) (documents_in p)) (documents_of (map documents_in ps))
    ∙ (λ i. as_many (documents_in p) (block_facts p two.0).stored i + in_parts ps two.1 i)

-- each document of a store is read as one
pub number_of_documents : (bytes : List ℕ) → is_store bytes ≡ true → length (documents_of (blocks_of bytes)) ≡ document_count (blocks_of bytes)
number_of_documents bytes h =
    ap (λ bs. length (documents_of bs)) (blocks_cut bytes) ∙ in_parts (store_parts bytes) (store_facts bytes h).blocks ∙ ap document_count (sym (blocks_cut bytes))

-- each document has its bytes
pub number_of_raw : (bs : List Block) → length (raw_documents bs) ≡ document_count bs
number_of_raw [] = refl
number_of_raw (b ∷ bs) = length-append b (raw_documents bs) ∙ ap (λ n. length b + n) (number_of_raw bs)
