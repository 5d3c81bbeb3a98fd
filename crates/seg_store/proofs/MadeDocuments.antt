-- Documents of a store by their places.
use Rattle.std.proofs.Common.{◌≡◌, ℕ, zero, suc, true, List, [], ◌∷◌, ◌++◌, Option, Some, None, refl, sym, ap, ◌∙◌}
use Rattle.std.specs.Prelude.{is_some}
use Rattle.std.specs.List.{slice_get, list_all, flat_map}
use Rattle.std.specs.Option.{option_to_list, option_and_then}
use Rattle.std.proofs.lemmas.Bool.{and_parts, false≢true}
use Rattle.std.proofs.lemmas.Grind.{flat_map-append}
use Rattle.seg_values.specs.Tree.{Document}
use Rattle.seg_store.specs.Block.{Block}
use Rattle.seg_store.specs.Store.{store_parts, raw_documents, documents_of, blocks_of, is_store}
use Rattle.seg_doc_bytes.specs.StoredDocument.{stored_document_of, is_stored_document}
use Rattle.seg_store.proofs.DocumentPlaces.{all_stored, blocks_cut, store_facts}

first_read : (o : Option Document) (others : List Document) → is_some o ≡ true → slice_get (option_to_list o ++ others) zero ≡ o
first_read None others some = absurd (false≢true some)
first_read (Some d) others some = refl

others_read : (o : Option Document) (others : List Document) (i : ℕ) → is_some o ≡ true → slice_get (option_to_list o ++ others) (suc i) ≡ slice_get others i
others_read None others i some = absurd (false≢true some)
others_read (Some d) others i some = refl

abbrev pub read_all : List (List ℕ) → List Document
read_all raws = flat_map (λ d. option_to_list (stored_document_of d)) raws

-- the documents of blocks are read from their bytes
pub documents_are_read : (bs : List Block) → documents_of bs ≡ read_all (raw_documents bs)
documents_are_read [] = refl
documents_are_read (b ∷ bs) =
    ap (λ ds. read_all b ++ ds) (documents_are_read bs) ∙ sym (flat_map-append (λ d. option_to_list (stored_document_of d)) b (raw_documents bs))

read_any : (raws : List (List ℕ)) (i : ℕ) → list_all is_stored_document raws ≡ true → slice_get (read_all raws) i ≡ option_and_then stored_document_of (slice_get raws i)
read_any [] i all = refl
read_any (y ∷ ys) zero all = first_read (stored_document_of y) (read_all ys) (and_parts (is_stored_document y) (list_all is_stored_document ys) all).0
read_any (y ∷ ys) (suc i) all =
    let p = and_parts (is_stored_document y) (list_all is_stored_document ys) all in
    others_read (stored_document_of y) (read_all ys) i p.0 ∙ read_any ys i p.1

-- a document of stored ones is what its bytes read as
pub stored_read : (bs : List Block) (doc : ℕ) → list_all is_stored_document (raw_documents bs) ≡ true → slice_get (documents_of bs) doc ≡ option_and_then stored_document_of (slice_get (raw_documents bs) doc)
stored_read bs doc all = ap (λ ds. slice_get ds doc) (documents_are_read bs) ∙ read_any (raw_documents bs) doc all

pub all_are_stored : (bytes : List ℕ) → is_store bytes ≡ true → list_all is_stored_document (raw_documents (blocks_of bytes)) ≡ true
all_are_stored bytes h = ap (λ bs. list_all is_stored_document (raw_documents bs)) (blocks_cut bytes) ∙ all_stored (store_parts bytes) (store_facts bytes h).blocks

-- the document whose stored form is at a place
pub document_read : (bytes : List ℕ) (doc : ℕ) (x : List ℕ) → is_store bytes ≡ true → slice_get (raw_documents (blocks_of bytes)) doc ≡ Some x → slice_get (documents_of (blocks_of bytes)) doc ≡ stored_document_of x
document_read bytes doc x h is =
    stored_read (blocks_of bytes) doc (all_are_stored bytes h) ∙ ap (option_and_then stored_document_of) is

pub not_stored : (bytes : List ℕ) → is_stored_document bytes ≡ true → stored_document_of bytes ≡ None → ⊥
not_stored bytes stored none = false≢true (sym (ap is_some none) ∙ stored)
