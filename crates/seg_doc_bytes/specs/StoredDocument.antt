-- Stored documents: the number of pairs, and these, each a field and a tree of at most 200 levels.
use Rattle.std.specs.Prelude.{ℕ, if◌then◌else◌, Bool, true, false, List, [], ◌∷◌, Option, Some, None, is_some}
use Rattle.seg_values.specs.Tree.{Leaf, pre_tokenized, Tree, leaf, array, object, Document}
pub use Rattle.seg_values.specs.StoredBytes.{most_levels_read}
use Rattle.seg_doc_bytes.specs.FrontReaders.{Reader, then_read, counted_at, small_at}
use Rattle.seg_doc_bytes.specs.StoredTree.{stored_tree_at}

-- at the top no leaf is a pre-tokenized text, which is stored as its text
abbrev pub is_top_leaf : Leaf → Bool
is_top_leaf (pre_tokenized p) = false
is_top_leaf _ = true

-- a tree that a field may have
abbrev pub is_top : Tree → Bool
is_top (leaf l) = is_top_leaf l
is_top (array ts) = true
is_top (object ms) = true

-- a field, and its tree
abbrev pub pair_at : Reader (ℕ × Tree)
pair_at bytes = then_read (small_at bytes) (λ field rest.
    then_read (stored_tree_at most_levels_read rest) (λ t after. if is_top t then Some ((field, t), after) else None))

-- what was read, where nothing is left
abbrev pub all_read : {A : Type 0} → Option (A × List ℕ) → Option A
all_read None = None
all_read (Some (x, [])) = Some x
all_read (Some (x, b ∷ rest)) = None

-- the document that bytes are the stored form of
unfoldable pub stored_document_of : List ℕ → Option Document
stored_document_of bytes = all_read (counted_at pair_at bytes)

-- whether bytes are a stored document
abbrev pub is_stored_document : List ℕ → Bool
is_stored_document bytes = is_some (stored_document_of bytes)
