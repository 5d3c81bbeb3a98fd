-- Documents that are stored one by one.
use Rattle.std.proofs.Common.{◌≡◌, ℕ, ◌+◌, ◌≤◌, ◌<◌, true, List, [], ◌∷◌, ◌++◌, map, length, take, get_or, Option, Some, refl, sym, ap, ◌∙◌, subst, arith}
use Rattle.std.specs.Prelude.{nat_le, IsSomeAnd}
use Rattle.std.specs.List.{list_all, flat_map}
use Rattle.std.specs.Option.{option_to_list}
use Rattle.std.proofs.lemmas.Bool.{and_parts}
use Rattle.std.proofs.lemmas.Bool.Decides.{nat_tests}
use Rattle.std.proofs.lemmas.Grind.{flat_map-append, fold-append, take_at_read}
use Rattle.std.proofs.lemmas.List.{map-append}
use Rattle.seg_common.specs.WriterGrowth.{HasGrown}
use Rattle.seg_values.specs.Tree.{levels, Document}
use Rattle.seg_model.specs.Fields.{Schema}
use Rattle.seg_model.specs.DocumentTerms.{stored_document}
use Rattle.seg_values.specs.StoredBytes.{stored_form}
use Rattle.seg_store.specs.Block.{Block}
use Rattle.seg_store.specs.BlockLaw.{all_documents, AreTakenLast}
use Rattle.seg_store.specs.Store.{documents_of}
use Rattle.seg_doc_bytes.specs.StoredDocument.{stored_document_of, most_levels_read}
use Rattle.seg_doc_bytes.specs.StoredDocumentLaw.{AreShallow}
use Rattle.seg_store.specs.WriterBlocks.{Taken, with_document, all_blocks, taken_count}
use Rattle.seg_build.specs.StoredBlocks.{stored_with}

low_enough : (n : ℕ) → nat_le n most_levels_read ≡ true → n ≤ most_levels_read
low_enough n h = grind (arith, nat_tests)

-- a document that is taken has few levels
pub shallow_taken : (ps : Document) → list_all (λ p. nat_le (levels p.1) most_levels_read) ps ≡ true → AreShallow ps
shallow_taken [] h = tt
shallow_taken (p ∷ ps) h =
    let two = and_parts (nat_le (levels p.1) most_levels_read) (list_all (λ p. nat_le (levels p.1) most_levels_read) ps) h in
    (low_enough (levels p.1) two.0, shallow_taken ps two.1)

-- what a stored document reads as, in a list
abbrev reading : List ℕ → List Document
reading d = option_to_list (stored_document_of d)

-- blocks play no part in what is read
read_in_order : (blocks : List Block) → documents_of blocks ≡ flat_map reading (flat_map (λ (b : Block). b) blocks)
read_in_order [] = refl
read_in_order (b ∷ bs) = ap (λ ds. flat_map reading b ++ ds) (read_in_order bs) ∙ sym (flat_map-append reading b (flat_map (λ (b : Block). b) bs))

-- one more document
stored-last : (size : ℕ) (forms : List (List ℕ)) (form : List ℕ) → stored_with size (forms ++ form ∷ []) ≡ with_document form (stored_with size forms)
stored-last size forms form = fold-append (λ (w : Taken) (d : List ℕ). with_document d w) (record { block_size = size; closed = []; open_block = [] }) forms (form ∷ [])

-- the first documents were taken
pub record HasStored (schema : Schema) (size : ℕ) (documents : List Document) (count : ℕ) (w : Taken) : Type 0 where
  pub read : documents_of (all_blocks w) ≡ map (stored_document schema) (take count documents)
  pub taken : taken_count w ≡ count
  pub forms : all_documents w ≡ map (stored_form schema) (take count documents)
  pub cut : w ≡ stored_with size (map (stored_form schema) (take count documents))

module _ (in_order : AreTakenLast) (schema : Schema) (size : ℕ) (documents : List Document) (i : ℕ) (document : Document) (lt : i < length documents) (is : document ≡ get_or documents i document) where
  more_of : {A : Type 0} (f : Document → A) → map f (take (i + 1) documents) ≡ map f (take i documents) ++ f document ∷ []
  more_of f = ap (map f) ((take_at_read documents i document lt).1 ∙ ap (λ d. take i documents ++ d ∷ []) (sym is)) ∙ map-append f (take i documents) (document ∷ [])

  one_more : map (stored_document schema) (take (i + 1) documents) ≡ map (stored_document schema) (take i documents) ++ stored_document schema document ∷ []
  one_more = more_of (stored_document schema)

  taken_more : (form : List ℕ) (w : Taken) → form ≡ stored_form schema document → stored_document_of form ≡ Some (stored_document schema document) → HasStored schema size documents i w → HasStored schema size documents (i + 1) (with_document form w)
  taken_more form w formed reads so = record {
    read =
        read_in_order (all_blocks (with_document form w)) ∙ ap (flat_map reading) (in_order form w).order
        ∙ flat_map-append reading (all_documents w) (form ∷ [])
        ∙ (λ j. sym (read_in_order (all_blocks w)) j ++ (option_to_list (reads j) ++ []))
        ∙ ap (λ ds. ds ++ stored_document schema document ∷ []) so.read
        ∙ sym one_more;
    taken = (in_order form w).count ∙ ap (λ n. n + 1) so.taken;
    forms = (in_order form w).order ∙ ap (λ fs. fs ++ form ∷ []) so.forms ∙ ap (λ f. map (stored_form schema) (take i documents) ++ f ∷ []) formed ∙ sym (more_of (stored_form schema));
    cut =
        ap (λ f. with_document f w) formed
        ∙ ap (with_document (stored_form schema document)) so.cut
        ∙ sym (stored-last size (map (stored_form schema) (take i documents)) (stored_form schema document))
        ∙ ap (stored_with size) (sym (more_of (stored_form schema)));
  }

  -- and is then stored
  pub stored_turn : (form : List ℕ) (before after : Option Taken) → HasGrown before after (with_document form) → form ≡ stored_form schema document → stored_document_of form ≡ Some (stored_document schema document) → IsSomeAnd before (HasStored schema size documents i) → IsSomeAnd after (HasStored schema size documents (i + 1))
  stored_turn form before after grown formed reads so =
      subst (λ o. IsSomeAnd o (HasStored schema size documents (i + 1))) (sym grown.is)
      (taken_more form grown.kept formed reads (subst (λ o. IsSomeAnd o (HasStored schema size documents i)) grown.was so))
