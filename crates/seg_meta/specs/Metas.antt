-- What the metas of an index say.
use Rattle.std.specs.Prelude.{ℕ, ◌≡◌, ◌<◌, ◌≤◌, ◌^◌, Option, Some, None, option_map, refl}
use Rattle.seg_model.specs.Fields.{Schema}
use Rattle.seg_meta.specs.IndexOfFiles.{Deletes, ListedSegment}
use Rattle.seg_meta.specs.declared.delete_meta.DeleteMeta.{DeleteMeta}

-- the deletes of a segment, in the words of an index
abbrev pub deletes_of : DeleteMeta → Deletes
deletes_of d = record { number = d.num_deleted_docs; stamp = d.opstamp }

-- and back
abbrev pub delete_meta_of : Deletes → DeleteMeta
delete_meta_of d = record { num_deleted_docs = d.number; opstamp = d.stamp }

-- the way back undoes the way there
pub delete_metas_back : (deletes : Option DeleteMeta)
    → option_map delete_meta_of (option_map deletes_of deletes) ≡ deletes
delete_metas_back None = refl
delete_metas_back (Some d) = refl

-- where deletes are listed, they are at least one, and at most all documents
abbrev pub AreDeletes : ℕ → Option Deletes → Type 0
AreDeletes documents None = Unit {0}
AreDeletes documents (Some deletes) = (1 ≤ deletes.number) × (deletes.number ≤ documents)

-- a segment has fewer than 2^31 documents, and its deletes are some of them
abbrev pub IsListed : ℕ → Option Deletes → Type 0
IsListed documents deletes = (documents < 2 ^ 31) × AreDeletes documents deletes

-- how many documents are deleted
abbrev pub deleted : Option Deletes → ℕ
deleted None = 0
deleted (Some deletes) = deletes.number

-- a segment: the schema of its documents, and how it is listed
pub record SegmentParts : Type 0 where
  pub schema : Schema
  pub meta : ListedSegment

-- a listed segment with a schema
abbrev pub segment_of : Schema → ListedSegment → SegmentParts
segment_of schema meta = record { schema = schema; meta = meta }
