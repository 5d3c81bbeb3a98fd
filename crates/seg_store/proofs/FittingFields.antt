-- Documents, blocks and stores of some fields alone: they are such, and their pairs have these fields.
use Rattle.std.proofs.Common.{◌≡◌, ℕ, zero, suc, Bool, true, false, List, [], ◌∷◌, ◌++◌, ◌+◌, length, map, Option, Some, None, refl, sym, ap, ◌∙◌, ◌&&◌, cond, if◌then◌else◌}
use Rattle.std.specs.Prelude.{is_some, ◌==◌, Result, Ok, Err, IfOk, IfErr, MatchResult}
use Rattle.std.specs.List.{list_all}
use Rattle.std.specs.Option.{option_to_list}
use Rattle.std.specs.Str.{bytes_eq}
use Rattle.std.proofs.Math.Bool.{and-true}
use Rattle.std.proofs.lemmas.List.Folds.{list_all-append}
use Rattle.seg_common.specs.Varint.{varint_at}
use Rattle.seg_values.specs.Tree.{Tree, Document}
use Rattle.seg_doc_bytes.specs.FrontReaders.{then_read, times_at, counted_at}
use Rattle.seg_doc_bytes.specs.StoredDocument.{pair_at, all_read, stored_document_of, is_stored_document}
use Rattle.seg_store.specs.Block.{Block, documents_in, is_block}
use Rattle.seg_store.specs.CheckedFields.{is_block_of, is_document_of, is_store_of, may_have, pair_of, read_documents}
use Rattle.seg_store.specs.CutParts.{are_blocks, are_parts}
use Rattle.seg_store.specs.Ends.{are_ends, cut_from}
use Rattle.seg_store.specs.Store.{blocks_of, documents_of, document_count, id_ends, is_store, store_of}
use Rattle.seg_store.specs.StoredFields.{have_fields}
use Rattle.seg_store.specs.declared.error.StoreError.{StoreError}
use Rattle.seg_store.specs.declared.error.StoreError.TheVariants.{Malformed}

-- ---- conditions in another order

first_of_three : (a b c : Bool) → (a && (b && c)) ≡ ((a && b) && c)
first_of_three true b c = refl
first_of_three false b c = refl

taken_out : (s a f : Bool) → (a && (s && f)) ≡ (s && (a && f))
taken_out true a f = refl
taken_out false true f = refl
taken_out false false f = refl

paired : (a f b g : Bool) → ((a && f) && (b && g)) ≡ ((a && b) && (f && g))
paired true true b g = refl
paired true false true g = refl
paired true false false g = refl
paired false f b g = refl

put_last : (a b f c : Bool) → (a && ((b && f) && c)) ≡ ((a && (b && c)) && f)
put_last true true true true = refl
put_last true true true false = refl
put_last true true false true = refl
put_last true true false false = refl
put_last true false f c = refl
put_last false b f c = refl

module _ (test : ℕ → Bool) where
  -- ---- a document

  abbrev fits : Document → Bool
  fits ps = list_all (λ p. test p.0) ps

  abbrev if_fit : Option (Document × List ℕ) → Option (Document × List ℕ)
  if_fit None = None
  if_fit (Some r) = if fits r.0 then Some r else None

  -- one more pair that fits
  one_more : (x : ℕ × Tree) → test x.0 ≡ true → (o : Option (Document × List ℕ)) → then_read (if_fit o) (λ xs after. Some (x ∷ xs, after)) ≡ if_fit (then_read o (λ xs after. Some (x ∷ xs, after)))
  one_more x passes None = refl
  one_more x passes (Some r) = by (fits r.0) refl
    where
      by : (b : Bool) → fits r.0 ≡ b → then_read (if_fit (Some r)) (λ xs after. Some (x ∷ xs, after)) ≡ if_fit (Some (x ∷ r.0, r.1))
      by true is = rw (passes, is) refl
      by false is = rw (passes, is) refl

  -- one that doesn't
  none_more : (x : ℕ × Tree) → test x.0 ≡ false → (o : Option (Document × List ℕ)) → if_fit (then_read o (λ xs after. Some (x ∷ xs, after))) ≡ None
  none_more x fails None = refl
  none_more x fails (Some r) = rw fails refl

  times_fit : (n : ℕ) (bytes : List ℕ) → times_at (pair_of test) n bytes ≡ if_fit (times_at pair_at n bytes)
  times_fit zero bytes = refl
  times_fit (suc n) bytes = by (times_fit n) (pair_at bytes)
    where
      one : (x : ℕ × Tree) (rest : List ℕ) → times_at (pair_of test) n rest ≡ if_fit (times_at pair_at n rest) → (b : Bool) → test x.0 ≡ b → then_read (if b then Some (x, rest) else None) (λ y more. then_read (times_at (pair_of test) n more) (λ ys after. Some (y ∷ ys, after))) ≡ if_fit (then_read (times_at pair_at n rest) (λ ys after. Some (x ∷ ys, after)))
      one x rest others true is = ap (λ o. then_read o (λ ys after. Some (x ∷ ys, after))) others ∙ one_more x is (times_at pair_at n rest)
      one x rest others false is = sym (none_more x is (times_at pair_at n rest))

      by : ((rest : List ℕ) → times_at (pair_of test) n rest ≡ if_fit (times_at pair_at n rest)) → (o : Option ((ℕ × Tree) × List ℕ)) → then_read (then_read o (λ p rest. if test p.0 then Some (p, rest) else None)) (λ y more. then_read (times_at (pair_of test) n more) (λ ys after. Some (y ∷ ys, after))) ≡ if_fit (then_read o (λ y more. then_read (times_at pair_at n more) (λ ys after. Some (y ∷ ys, after))))
      by others None = refl
      by others (Some r) = one r.0 r.1 (others r.1) (test r.0.0) refl

  counted_fit : (bytes : List ℕ) → counted_at (pair_of test) bytes ≡ if_fit (counted_at pair_at bytes)
  counted_fit bytes = by (varint_at bytes)
    where
      by : (o : Option (ℕ × List ℕ)) → then_read o (times_at (pair_of test)) ≡ if_fit (then_read o (times_at pair_at))
      by None = refl
      by (Some r) = times_fit r.0 r.1

  abbrev is_fitting : Option Document → Bool
  is_fitting None = false
  is_fitting (Some d) = fits d

  all_fitting : (o : Option (Document × List ℕ)) → is_some (all_read (if_fit o)) ≡ is_fitting (all_read o)
  all_fitting None = refl
  all_fitting (Some (d, [])) = by (fits d) refl
    where
      by : (b : Bool) → fits d ≡ b → is_some (all_read (if_fit (Some (d, [])))) ≡ fits d
      by true is = rw is refl
      by false is = rw is refl
  all_fitting (Some (d, x ∷ left)) = by (fits d) refl
    where
      by : (b : Bool) → fits d ≡ b → is_some (all_read (if_fit (Some (d, x ∷ left)))) ≡ false
      by true is = rw is refl
      by false is = rw is refl

  document_fits : (bytes : List ℕ) → is_document_of test bytes ≡ is_fitting (stored_document_of bytes)
  unfolding is_document_of stored_document_of
  document_fits bytes = ap (λ o. is_some (all_read o)) (counted_fit bytes) ∙ all_fitting (counted_at pair_at bytes)

  -- ---- a block

  all_fit : (block : Block) → list_all (is_document_of test) block ≡ (list_all is_stored_document block && have_fields test (read_documents block))
  all_fit [] = refl
  all_fit (d ∷ ds) =
      (λ i. document_fits d i && all_fit ds i) ∙ by (stored_document_of d)
    where
      by : (o : Option Document) → (is_fitting o && (list_all is_stored_document ds && have_fields test (read_documents ds))) ≡ ((is_some o && list_all is_stored_document ds) && have_fields test (option_to_list o ++ read_documents ds))
      by None = refl
      by (Some x) = taken_out (list_all is_stored_document ds) (fits x) (have_fields test (read_documents ds))

  pub parts_fit : (start : ℕ) (ends bytes : List ℕ) → are_parts (is_document_of test) start ends bytes ≡ (are_parts is_stored_document start ends bytes && have_fields test (read_documents (cut_from start ends bytes)))
  parts_fit start ends bytes =
      ap (λ b. are_ends start (length bytes) ends && b) (all_fit (cut_from start ends bytes))
      ∙ first_of_three (are_ends start (length bytes) ends) (list_all is_stored_document (cut_from start ends bytes)) (have_fields test (read_documents (cut_from start ends bytes)))

  -- ---- blocks

  all_blocks_fit : (parts : List (List ℕ)) → list_all (is_block_of test) parts ≡ (list_all is_block parts && have_fields test (documents_of (map documents_in parts)))
  all_blocks_fit [] = refl
  all_blocks_fit (p ∷ ps) =
      let first = read_documents (documents_in p) in
      let others = documents_of (map documents_in ps) in
      ap (λ b. is_block_of test p && b) (all_blocks_fit ps)
      ∙ paired (is_block p) (have_fields test first) (list_all is_block ps) (have_fields test others)
      ∙ ap (λ b. list_all is_block (p ∷ ps) && b) (sym (list_all-append fits first others))

  pub blocks_fit : (first total start : ℕ) (checkpoints : List (ℕ × ℕ)) (bytes : List ℕ) → are_blocks (is_block_of test) first total start checkpoints bytes ≡ (are_blocks is_block first total start checkpoints bytes && have_fields test (documents_of (map documents_in (cut_from start (map (λ c. c.1) checkpoints) bytes))))
  blocks_fit first total start checkpoints bytes =
      let ends = map (λ (c : ℕ × ℕ). c.1) checkpoints in
      let parts = cut_from start ends bytes in
      let numbered = bytes_eq (map (λ c. c.0) checkpoints) (id_ends first (map documents_in parts)) && (total == first + document_count (map documents_in parts)) in
      ap (λ b. are_ends start (length bytes) ends && (b && numbered)) (all_blocks_fit parts)
      ∙ put_last (are_ends start (length bytes) ends) (list_all is_block parts) (have_fields test (documents_of (map documents_in parts))) numbered

-- each field passes a test that all pass
pub any_field : (documents : List Document) → have_fields (λ _. true) documents ≡ true
any_field [] = refl
any_field (d ∷ ds) = (λ i. any d i && any_field ds i)
  where
    any : (d : Document) → list_all (λ (p : ℕ × Tree). true) d ≡ true
    any [] = refl
    any (p ∷ ps) = any ps

-- bytes that are no store of any fields are none
no_store : (bytes : List ℕ) → is_store_of (may_have None) bytes ≡ false → store_of bytes ≡ None
no_store bytes none =
    let bad : is_store bytes ≡ false = sym (and-true (is_store bytes)) ∙ ap (λ b. is_store bytes && b) (sym (any_field (documents_of (blocks_of bytes)))) ∙ none in
    ap (λ b. cond {A = Option (List Block)} b (Some (blocks_of bytes)) None) bad

-- a store that is open, of any fields, or why it isn't
pub opened : (bytes : List ℕ) (result : Result (List Block) StoreError) → IfOk result (λ r. (store_of bytes ≡ Some r) × (have_fields (may_have None) (documents_of r) ≡ true)) → IfErr result (λ e. (e ≡ Malformed) × (is_store_of (may_have None) bytes ≡ false)) → MatchResult result (λ r. store_of bytes ≡ Some r) (λ e. (e ≡ Malformed) × (store_of bytes ≡ None))
opened bytes (Ok r) ok err = ok.0
opened bytes (Err e) ok err = (err.0, no_store bytes err.1)
