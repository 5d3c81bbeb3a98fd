-- Bytes that are read and bytes that are refused, worked out by computing.
use Rattle.std.proofs.Common.{◌≡◌, ℕ, zero, suc, true, List, [], ◌∷◌, Some, None, refl}
use Rattle.std.proofs.lemmas.Str.{is_utf8-from_IsUtf8, IsUtf8-nil}
use Rattle.seg_common.specs.LittleEndian.{u32_at, u64_at}
use Rattle.seg_values.specs.Tree.{leaf, boolean, null, array, tree, no_trees}
use Rattle.seg_doc_bytes.specs.StoredTree.{stored_tree_at}
use Rattle.seg_doc_bytes.specs.StoredDocument.{stored_document_of, is_stored_document}
use Rattle.seg_store.specs.Block.{documents_in, is_block}
use Rattle.seg_store.specs.Store.{blocks_of, is_store, store_of}

-- true in field 0
flag : stored_document_of (1 ∷ 0 ∷ 6 ∷ 1 ∷ []) ≡ Some ((0, leaf (boolean true)) ∷ [])
unfolding stored_document_of stored_tree_at
flag = refl

-- no pairs
none : stored_document_of (0 ∷ []) ≡ Some []
unfolding stored_document_of stored_tree_at
none = refl

-- an array of null in field 3
nested : stored_document_of (1 ∷ 3 ∷ 10 ∷ 1 ∷ 0 ∷ []) ≡ Some ((3, array (tree (leaf null) no_trees)) ∷ [])
unfolding stored_document_of stored_tree_at
nested = refl

-- a tag that there isn't
tag : stored_document_of (1 ∷ 0 ∷ 5 ∷ []) ≡ None
unfolding stored_document_of stored_tree_at
tag = refl

-- a byte after the last pair
left_over : stored_document_of (0 ∷ 0 ∷ []) ≡ None
unfolding stored_document_of stored_tree_at
left_over = refl

-- a number that isn't in its shortest form
long_number : stored_document_of (128 ∷ 0 ∷ []) ≡ None
unfolding stored_document_of stored_tree_at
long_number = refl

-- a byte 2 in place of a bool
bit : stored_document_of (1 ∷ 0 ∷ 6 ∷ 2 ∷ []) ≡ None
unfolding stored_document_of stored_tree_at
bit = refl

-- field 2^32
field : stored_document_of (1 ∷ 128 ∷ 128 ∷ 128 ∷ 128 ∷ 16 ∷ 0 ∷ []) ≡ None
unfolding stored_document_of stored_tree_at
field = refl

-- two bytes are told, and there is one
cut : stored_document_of (1 ∷ 0 ∷ 9 ∷ 2 ∷ 7 ∷ []) ≡ None
unfolding stored_document_of stored_tree_at
cut = refl

-- this many arrays of one value, around null
arrays : ℕ → List ℕ
arrays zero = 0 ∷ []
arrays (suc n) = 10 ∷ 1 ∷ arrays n

-- 200 levels
as_deep : is_stored_document (1 ∷ 0 ∷ arrays 199) ≡ true
unfolding stored_document_of stored_tree_at arrays
as_deep = refl

-- 201 levels
deep : stored_document_of (1 ∷ 0 ∷ arrays 200) ≡ None
unfolding stored_document_of stored_tree_at arrays
deep = refl

-- a text with tokens at the top
tokens : stored_document_of (1 ∷ 0 ∷ 2 ∷ 0 ∷ 0 ∷ []) ≡ None
unfolding stored_document_of stored_tree_at
tokens = rw (is_utf8-from_IsUtf8 [] IsUtf8-nil) refl

-- one block of one document, which ends at this many bytes, and a last byte
abbrev store : ℕ → ℕ → List ℕ
store end last = 1 ∷ 0 ∷ 6 ∷ 1 ∷ end ∷ 0 ∷ 0 ∷ 0 ∷ 0 ∷ 0 ∷ 0 ∷ 0 ∷ 1 ∷ 0 ∷ 0 ∷ 0 ∷ 1 ∷ 0 ∷ 0 ∷ 0 ∷ 16 ∷ 0 ∷ 0 ∷ 0 ∷ 0 ∷ 0 ∷ 0 ∷ 0 ∷ 1 ∷ 0 ∷ 0 ∷ 0 ∷ 1 ∷ 0 ∷ 0 ∷ 0 ∷ last ∷ []

one : store_of (store 4 0) ≡ Some (((1 ∷ 0 ∷ 6 ∷ 1 ∷ []) ∷ []) ∷ [])
unfolding is_store blocks_of is_block documents_in u32_at u64_at stored_document_of stored_tree_at
one = refl

compressed : store_of (store 4 1) ≡ None
unfolding is_store blocks_of is_block documents_in u32_at u64_at stored_document_of stored_tree_at
compressed = refl

short : store_of (store 3 0) ≡ None
unfolding is_store blocks_of is_block documents_in u32_at u64_at stored_document_of stored_tree_at
short = refl

nothing : store_of [] ≡ None
unfolding is_store blocks_of is_block documents_in u32_at u64_at stored_document_of stored_tree_at
nothing = refl
