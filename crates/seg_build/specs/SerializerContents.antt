-- What fills a serializer of a segment.
use Rattle.std.specs.Prelude.{◌≡◌, ℕ, List, map, Option, Some, IsSomeAnd}
use Rattle.std.specs.FinMap.{entries}
use Rattle.seg_directory.specs.CompositeFiles.{composite}
use Rattle.seg_meta.specs.Metas.{SegmentParts}
use Rattle.seg_model.specs.Fields.{Schema, Analyzer}
use Rattle.seg_model.specs.Norms.{all_norms}
use Rattle.seg_model.specs.DocumentTerms.{Terms}
use Rattle.seg_norms.specs.FieldNorms.{norms_parts}
use Rattle.seg_postings.specs.FieldFiles.{FieldFiles}
use Rattle.seg_store.specs.WriterBlocks.{Taken}
use Rattle.seg_values.specs.Tree.{Document}
use Rattle.seg_build.specs.BatchContents.{kept_norms}
use Rattle.seg_build.specs.FieldTerms.{FieldTerms, asked_by}
use Rattle.seg_segment.specs.TermFiles.{HoldTerms}
use Rattle.seg_segment.specs.SegmentSerializers.{Serializing}
use Rattle.seg_build.specs.PostingsTotals.{TotalsAreCounts}
use Rattle.seg_build.specs.declared.fields.IndexedBatch.{IndexedBatch}

-- these are the terms of fields, each recorded as its field asks
pub record AreFieldsOf (schema : Schema) (fields : List FieldTerms) (held : List Terms) : Type 0 where
  pub asked : map (λ f. f.asked) fields ≡ map asked_by schema
  pub terms : map (λ f. f.terms) fields ≡ map entries held

-- files of these parts hold the terms of fields
abbrev pub HoldFields : Schema → List FieldTerms → FieldFiles → Type 0
HoldFields schema fields parts =
    (terms postings positions : List ℕ) → composite terms ≡ Some parts.terms → composite postings ≡ Some parts.postings
    → composite positions ≡ Some parts.positions
    → ((held : List Terms) → AreFieldsOf schema fields held → HoldTerms schema terms postings positions held)
    × TotalsAreCounts postings fields

-- a file has the length ids of documents, where these were kept
abbrev pub HoldsNorms : Schema → IndexedBatch → List ℕ → Type 0
HoldsNorms schema batch file = (analyzer : Analyzer) (documents : List Document)
    → batch.norms ≡ Some (kept_norms schema analyzer documents)
    → composite file ≡ Some (norms_parts schema (all_norms schema analyzer documents))

-- a serializer of a segment has a store, the bytes of columns, and what a batch has
pub record IsFilled (segment : SegmentParts) (store : Option Taken) (fast : List ℕ) (batch : IndexedBatch)
    (s : Serializing) : Type 0 where
  pub segment_is : s.segment ≡ segment
  pub store_is : s.store ≡ store
  pub postings : IsSomeAnd s.postings (HoldFields segment.schema batch.fields)
  pub norms : IsSomeAnd s.norms (HoldsNorms segment.schema batch)
  pub fast_is : s.fast ≡ fast
