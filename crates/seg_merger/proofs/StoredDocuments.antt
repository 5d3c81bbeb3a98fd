-- What the stored bytes of documents read as.
use Rattle.std.proofs.Common.{◌≡◌, ◌≤◌, ℕ, suc, ◌+◌, Bool, List, [], ◌∷◌, ◌++◌, map, length, refl, sym, ap, ◌∙◌, arith}
use Rattle.std.specs.Prelude.{Option, Some, None}
use Rattle.std.specs.List.{flat_map}
use Rattle.std.specs.Option.{option_to_list}
use Rattle.std.proofs.lemmas.List.{length-append, length-map}
use Rattle.seg_values.specs.Tree.{Document}
use Rattle.seg_model.specs.Operations.{kept}
use Rattle.seg_store.specs.Block.{Block}
use Rattle.seg_store.specs.Store.{document_count, raw_documents, documents_of}
use Rattle.seg_doc_bytes.specs.StoredDocument.{stored_document_of}
use Rattle.seg_model.proofs.Exports.{kept-map}
use Rattle.seg_store.proofs.Exports.{documents_are_read, read_all}

pub raw_counted : (blocks : List Block) → document_count blocks ≡ length (raw_documents blocks)
raw_counted [] = refl
raw_counted (b ∷ bs) = ap (λ n. length b + n) (raw_counted bs) ∙ sym (length-append b (raw_documents bs))

-- no more are read than there are
few_by : (o : Option Document) (ys : List Document) (n : ℕ) → length ys ≤ n → length (option_to_list o ++ ys) ≤ suc n
few_by None ys n few = omega (arith, few)
few_by (Some d) ys n few = omega (arith, few)

few_read : (ds : List (List ℕ)) → length (read_all ds) ≤ length ds
few_read [] = omega arith
few_read (d ∷ ds) = few_by (stored_document_of d) (read_all ds) (length ds) (few_read ds)

each_by : (o : Option Document) (ys : List Document) (os : List (Option Document)) (n : ℕ) → length ys ≤ n → (n ≡ length ys → os ≡ map Some ys) → suc n ≡ length (option_to_list o ++ ys) → o ∷ os ≡ map Some (option_to_list o ++ ys)
each_by None ys os n few rest all = absurd (omega (arith, few, all))
each_by (Some d) ys os n few rest all = ap (λ xs. Some d ∷ xs) (rest (omega (arith, all)))

-- where as many are read as there are, each is read
each_read : (ds : List (List ℕ)) → length ds ≡ length (read_all ds) → map stored_document_of ds ≡ map Some (read_all ds)
each_read [] all = refl
each_read (d ∷ ds) all = each_by (stored_document_of d) (read_all ds) (map stored_document_of ds) (length ds) (few_read ds) (each_read ds) all

-- the kept documents of a segment are read
pub kept_are_read : (marks : List Bool) (blocks : List Block) → document_count blocks ≡ length (documents_of blocks) → map stored_document_of (kept marks (raw_documents blocks)) ≡ map Some (kept marks (documents_of blocks))
kept_are_read marks blocks all =
    let raw = raw_documents blocks in
    let same = documents_are_read blocks in
    let each : map stored_document_of raw ≡ map Some (read_all raw) = each_read raw (sym (raw_counted blocks) ∙ all ∙ ap length same) in
    sym (kept-map stored_document_of marks raw)
    ∙ ap (kept marks) (each ∙ ap (map Some) (sym same))
    ∙ kept-map Some marks (documents_of blocks)

-- as many bytes as documents
pub as_many : (bytes : List (List ℕ)) (ds : List Document) → map stored_document_of bytes ≡ map Some ds → length bytes ≡ length ds
as_many bytes ds reads = sym (length-map bytes stored_document_of) ∙ ap length reads ∙ length-map ds Some

read_somes : (bytes : List (List ℕ)) → read_all bytes ≡ flat_map option_to_list (map stored_document_of bytes)
read_somes [] = refl
read_somes (b ∷ bs) = ap (λ ds. option_to_list (stored_document_of b) ++ ds) (read_somes bs)

somes : (ds : List Document) → flat_map option_to_list (map Some ds) ≡ ds
somes [] = refl
somes (d ∷ ds) = ap (λ xs. d ∷ xs) (somes ds)

-- bytes that read as documents are read as these
pub read_as : (bytes : List (List ℕ)) (ds : List Document) → map stored_document_of bytes ≡ map Some ds → read_all bytes ≡ ds
read_as bytes ds reads = read_somes bytes ∙ ap (flat_map option_to_list) reads ∙ somes ds
