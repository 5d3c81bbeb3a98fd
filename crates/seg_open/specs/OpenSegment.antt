-- What a reader has of a segment, and the contents that this stands for.
use Rattle.std.specs.Prelude.{ℕ, ◌≡◌, ◌+◌, Bool, true, false, List, [], ◌∷◌, length, map, replicate, Contains, Option, Some, None}
use Rattle.std.specs.FinMap.{empty}
use Rattle.seg_column_file.specs.ColumnFiles.{ColumnFile}
use Rattle.seg_column_format.specs.ModelColumns.{columns_in}
use Rattle.seg_bits.specs.BitSets.{member_count}
use Rattle.seg_model.specs.Contents.{Contents}
use Rattle.seg_model.specs.Fields.{Schema}
use Rattle.seg_model.specs.Join as join
use Rattle.seg_model.specs.DocumentTerms.{Terms}
use Rattle.seg_model.specs.Shape.{HasFullShape}
use Rattle.seg_directory.specs.CompositeFiles.{Part}
use Rattle.seg_store.specs.Block.{Block}
use Rattle.seg_store.specs.Store.{documents_of}
use Rattle.seg_store.specs.StoredFields.{have_stored_fields}
use Rattle.seg_postings.specs.OpenedFields.{OpenField, written_terms}
use Rattle.seg_postings.specs.TermMaps.{terms_held}
use Rattle.seg_norms.specs.StoredNorms.{norms_of}
use Rattle.seg_open.specs.declared.file_sizes.FileSizes.{FileSizes}

-- the id, the schema and the number of documents; for each field its terms, where it is indexed; the blocks of the
-- store; the parts of the file of length ids; the columns as their file has them; for each document whether it is
-- alive; the stamp up to which deletes count, where there are some; and the sizes of the six files
pub record OpenSegment : Type 0 where
  pub id : ℕ
  pub schema : Schema
  pub documents : ℕ
  pub fields : List (Option OpenField)
  pub blocks : List Block
  pub norms : List Part
  pub columns : ColumnFile
  pub alive : List Bool
  pub stamp : Option ℕ
  pub sizes : FileSizes

-- the terms of a field
abbrev pub terms_in : Option OpenField → Terms
terms_in None = empty
terms_in (Some f) = terms_held (written_terms f)

-- contents of this many documents, which have these parts
abbrev pub contents_in : Schema → ℕ → List (Option OpenField) → List Block → List Part → ColumnFile → Contents
contents_in schema documents fields blocks norms columns = record {
  documents = documents;
  terms = map terms_in fields;
  stored = documents_of blocks;
  norms = norms_of schema norms;
  columns = columns_in columns;
}

-- those of a segment
abbrev pub contents_of : OpenSegment → Contents
contents_of s = contents_in s.schema s.documents s.fields s.blocks s.norms s.columns

-- the contents, with the marks of the documents that are alive
abbrev pub part_of : OpenSegment → join.Part
part_of s = record { contents = contents_of s; alive = s.alive }

-- a segment of a schema, whose contents have full shape, and whose stored documents have pairs of stored fields
abbrev pub IsOfSchema : Schema → OpenSegment → Type 0
IsOfSchema schema s =
    (s.schema ≡ schema) × HasFullShape schema (contents_of s)
    × (have_stored_fields schema (documents_of s.blocks) ≡ true)

-- each document is marked as alive or not
abbrev pub IsMarked : OpenSegment → Type 0
IsMarked s = length s.alive ≡ s.documents

-- which of this many documents are alive: as a set says, or all where there is none
abbrev pub alive_of : ℕ → Option (List Bool) → List Bool
alive_of documents None = replicate documents true
alive_of documents (Some set) = set

-- where there is a set it says for each of this many documents whether it is alive, and one is not
abbrev pub LacksSome : ℕ → Option (List Bool) → Type 0
LacksSome documents None = Unit {0}
LacksSome documents (Some set) = (length set ≡ documents) × Contains set false

-- how many documents of segments are alive
abbrev pub kept_count : List OpenSegment → ℕ
kept_count [] = 0
kept_count (s ∷ ss) = member_count s.alive + kept_count ss
