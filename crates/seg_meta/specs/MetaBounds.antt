-- Metas whose numbers and texts are such as their types hold.
use Rattle.std.specs.Prelude.{ℕ, ◌≡◌, ◌<◌, ◌^◌, List, Option, Some, IfSome, IsUtf8}
use Rattle.std.specs.List.{AllByRecursion}
use Rattle.seg_values.specs.declared.schema.FieldEntry.{FieldEntry}
use Rattle.seg_model.specs.Fields.{Schema}
use Rattle.seg_model.specs.Input.{Settings}
use Rattle.seg_meta.specs.IndexOfFiles.{Deletes, ListedSegment, Meta}
use Rattle.seg_meta.specs.ParsedMeta.{meta_read}
use Rattle.seg_meta.specs.MetaText.{meta_text}
use Rattle.seg_meta.specs.Metas.{IsListed}
use Rattle.seg_meta.specs.SavableMetas.{IsMetaList}

-- a text, where there is one, is UTF-8
abbrev pub IsText : Option (List ℕ) → Type 0
IsText text = IfSome text IsUtf8

-- so are the texts of a field
abbrev pub HasTexts : FieldEntry → Type 0
HasTexts e = IsUtf8 e.name × IsText e.tokenizer × IsText e.fast_tokenizer

-- a stamp has 64 bits
abbrev pub FitStamps : Option Deletes → Type 0
FitStamps deletes = IfSome deletes (λ d. d.stamp < 2 ^ 64)

-- an id has 128 bits, a segment fewer than 2^31 documents, and its deletes are some of them
abbrev pub SegmentFits : ListedSegment → Type 0
SegmentFits s = (s.id < 2 ^ 128) × IsListed s.documents s.deletes × FitStamps s.deletes

-- the numbers and texts of a whole meta
pub record MetaFits (m : Meta) : Type 0 where
  pub block_size : m.settings.block_size < 2 ^ 32
  pub stamp : m.stamp < 2 ^ 64
  pub payload : IsText m.payload
  pub fields : AllByRecursion HasTexts m.schema
  pub segments : AllByRecursion SegmentFits m.segments

-- what is saved with these settings and this schema is read as it was saved
abbrev pub AreReadBack : Settings → Schema → Type 0
AreReadBack settings schema =
    (stamp : ℕ) (payload : Option (List ℕ)) (segments : List ListedSegment) → stamp < 2 ^ 64 → IsText payload
    → AllByRecursion SegmentFits segments → IsMetaList segments
    → meta_read
    (meta_text (record { settings = settings; schema = schema; stamp = stamp; payload = payload; segments = segments }))
    ≡ Some (record { settings = settings; schema = schema; stamp = stamp; payload = payload; segments = segments })
