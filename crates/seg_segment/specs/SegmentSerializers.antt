-- A serializer of a segment, and the files that it leaves.
use Rattle.std.specs.Prelude.{◌≡◌, ℕ, List, [], Option, Some, None, Result, Err}
use Rattle.seg_directory.specs.CompositeFiles.{Part, composite}
use Rattle.seg_directory.specs.DirectoryStates.{DirectoryState}
use Rattle.seg_directory.specs.DirectorySteps.{Works}
use Rattle.seg_meta.specs.Metas.{SegmentParts}
use Rattle.seg_postings.specs.FieldFiles.{FieldFiles, no_fields}
use Rattle.seg_store.specs.Store.{store_of}
use Rattle.seg_store.specs.WriterBlocks.{Taken, all_blocks}
use Rattle.seg_values.specs.declared.error.TantivyError.{TantivyError}
use Rattle.seg_values.specs.declared.error.TantivyError.TheVariants.{OutOfMemory}
use Rattle.seg_segment.specs.SegmentFiles.{write_steps}
use Rattle.seg_segment.specs.declared.segment_files.SegmentFiles.{SegmentFiles}

-- the segment, and what its components have: parts of fields and stored documents, of which nothing is left once out of
-- memory, the bytes of the columns, a serializer of lengths until it is taken, and the bytes of the lengths where they
-- were put
pub record Serializing : Type 0 where
  pub segment : SegmentParts
  pub postings : Option FieldFiles
  pub store : Option Taken
  pub fast : List ℕ
  pub lengths : Option (Option (List Part))
  pub norms : Option (List ℕ)

-- nothing yet, with blocks that are closed once they have this many bytes
abbrev pub unfilled : SegmentParts → ℕ → Serializing
unfilled segment block_size = record {
  segment = segment;
  postings = Some no_fields;
  store = Some (record { block_size = block_size; closed = []; open_block = [] });
  fast = [];
  lengths = Some (Some []);
  norms = None;
}

-- these are all that the components are to hold
abbrev pub filled_with : SegmentParts → Option FieldFiles → Option Taken → List ℕ → List ℕ → Serializing
filled_with segment postings store fast norms = record {
  segment = segment;
  postings = postings;
  store = store;
  fast = fast;
  lengths = None;
  norms = Some norms;
}

-- the file of lengths: those that were put, or else a composite without parts
abbrev pub IsNormsFile : Option (List ℕ) → List ℕ → Type 0
IsNormsFile (Some norms) file = file ≡ norms
IsNormsFile None file = composite file ≡ Some []

-- the bytes of six files are what a serializer has
pub record IsLaidOut (s : Serializing) (files : SegmentFiles) : Type 0 where
  pub fields : FieldFiles
  pub kept : s.postings ≡ Some fields
  pub terms : composite files.terms ≡ Some fields.terms
  pub postings : composite files.postings ≡ Some fields.postings
  pub positions : composite files.positions ≡ Some fields.positions
  pub taken : Taken
  pub stored : s.store ≡ Some taken
  pub store : store_of files.store ≡ Some (all_blocks taken)
  pub fast : files.fast_fields ≡ s.fast
  pub norms : IsNormsFile s.norms files.field_norms

-- it is closed: out of memory before any call, or the six files of its segment are made of what it has
pub data Closes {T : Type 0} (s : Serializing) (result : Result T TantivyError)
    (before after : DirectoryState) : Type 0 where
  starves : result ≡ Err OutOfMemory → after ≡ before → Closes s result before after
  makes : (files : SegmentFiles) → IsLaidOut s files → Works (write_steps s.segment.meta.id files) result before after
      → Closes s result before after
