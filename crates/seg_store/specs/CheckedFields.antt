-- Documents, blocks and stores whose pairs have some fields alone.
use Rattle.std.specs.Prelude.{ℕ, ◌&&◌, if◌then◌else◌, Bool, true, List, Option, Some, None, is_some}
use Rattle.std.specs.List.{flat_map}
use Rattle.std.specs.Option.{option_to_list}
use Rattle.seg_values.specs.Tree.{Document, Tree}
use Rattle.seg_values.specs.Schemas.{Schema}
use Rattle.seg_doc_bytes.specs.FrontReaders.{Reader, then_read, counted_at}
use Rattle.seg_doc_bytes.specs.StoredDocument.{pair_at, all_read, stored_document_of}
use Rattle.seg_store.specs.Block.{Block, documents_in, is_block}
use Rattle.seg_store.specs.Store.{blocks_of, documents_of, is_store}
use Rattle.seg_store.specs.StoredFields.{have_fields, is_stored_field}

-- whether a pair may have a field: a stored one of the schema, or any where there is none
abbrev pub may_have : Option Schema → ℕ → Bool
may_have None field = true
may_have (Some schema) field = is_stored_field schema field

-- a pair whose field passes a test
abbrev pub pair_of : (ℕ → Bool) → Reader (ℕ × Tree)
pair_of test bytes = then_read (pair_at bytes) (λ p rest. if test p.0 then Some (p, rest) else None)

-- whether bytes are a stored document of such pairs
unfoldable pub is_document_of : (ℕ → Bool) → List ℕ → Bool
is_document_of test bytes = is_some (all_read (counted_at (pair_of test) bytes))

-- the documents of a block, as their fields and trees
abbrev pub read_documents : Block → List Document
read_documents block = flat_map (λ d. option_to_list (stored_document_of d)) block

-- whether bytes are a block of such documents
abbrev pub is_block_of : (ℕ → Bool) → List ℕ → Bool
is_block_of test bytes = is_block bytes && have_fields test (read_documents (documents_in bytes))

-- whether bytes are a store of such documents
abbrev pub is_store_of : (ℕ → Bool) → List ℕ → Bool
is_store_of test bytes = is_store bytes && have_fields test (documents_of (blocks_of bytes))
