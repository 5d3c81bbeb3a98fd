-- The files that are made of a serializer which was filled from what a writer kept.
use Rattle.std.proofs.Common.{◌≡◌, ℕ, List, length, map, Some, None, Option, IsSomeAnd, sym, ap, ◌∙◌, subst}
use Rattle.std.specs.Option.{option_map}
use Rattle.seg_common.specs.WriterGrowth.{HasGrown}
use Rattle.seg_column_file.specs.ColumnFiles.{column_file_of}
use Rattle.seg_column_format.specs.ModelColumns.{columns_in}
use Rattle.seg_column_format.specs.SchemaColumns.{HaveColumns}
use Rattle.seg_meta.specs.Metas.{SegmentParts}
use Rattle.seg_model.specs.Columns.{Columns}
use Rattle.seg_model.specs.Fields.{Analyzer}
use Rattle.seg_model.specs.DocumentTerms.{Terms}
use Rattle.seg_norms.specs.FieldNorms.{filled}
use Rattle.seg_store.specs.WriterBlocks.{Taken, all_blocks}
use Rattle.seg_values.specs.Tree.{Document}
use Rattle.seg_build.specs.FieldTerms.{recorded_fields}
use Rattle.seg_build.specs.SerializerContents.{AreFieldsOf, HoldFields, HoldsNorms, IsFilled}
use Rattle.seg_segment.specs.TermFiles.{HoldTerms}
use Rattle.seg_build.specs.WriterContents.{Kept}
use Rattle.seg_build.specs.SegmentWriters.{IsKeptOf}
use Rattle.seg_segment.specs.SegmentSerializers.{Serializing, IsNormsFile, IsLaidOut}
use Rattle.seg_segment.specs.DocumentsOfFiles.{StandFor}
use Rattle.seg_build.specs.StoredBatch.{IsStoredBatch}
use Rattle.seg_build.specs.StoredBlocks.{HasBlocks}
use Rattle.seg_build.specs.PostingsTotals.{TotalsAreCounts}
use Rattle.seg_build.specs.declared.fields.IndexedBatch.{IndexedBatch}
use Rattle.seg_segment.specs.declared.segment_files.SegmentFiles.{SegmentFiles}
use Rattle.seg_build.proofs.KeptBatch.{has_blocks, listed, is_stored_batch}
use Rattle.seg_build.proofs.KeptColumns.{AreColumnsOf, columns_are, have_columns}
use Rattle.seg_build.proofs.DocumentsOfFiles.{Spells, stands}

of_norms : (P : List ℕ → Type 0) (o : Option (List ℕ)) (file : List ℕ) → IsSomeAnd o P → IsNormsFile o file → P file
of_norms P (Some norms) file h is = subst P (sym is) h
of_norms P None file h is = absurd h

module _ (segment : SegmentParts) (store : Option Taken) (fast : List ℕ) (batch : IndexedBatch) (new : Serializing) (is_filled : IsFilled segment store fast batch new) (files : SegmentFiles) (laid : IsLaidOut new files) where
  both : ((held : List Terms) → AreFieldsOf segment.schema batch.fields held → HoldTerms segment.schema files.terms files.postings files.positions held) × TotalsAreCounts files.postings batch.fields
  both = subst (λ o. IsSomeAnd o (HoldFields segment.schema batch.fields)) laid.kept is_filled.postings files.terms files.postings files.positions laid.terms laid.postings laid.positions

  pub made_totals : TotalsAreCounts files.postings batch.fields
  made_totals = both.1

module _ (segment : SegmentParts) (analyzer : Analyzer) (size : ℕ) (documents : List Document) (stamps : List ℕ) (kept : Kept) (are : IsKeptOf segment.schema analyzer size documents stamps kept) (batch : IndexedBatch) (count : ℕ) (fields : batch.fields ≡ recorded_fields segment.schema (listed kept.fields)) (norms : HasGrown kept.norms batch.norms (map (option_map (filled count)))) (many : count ≡ length kept.stamps) (fast : List ℕ) (made : AreColumnsOf kept fast) (new : Serializing) (is_filled : IsFilled segment kept.store fast batch new) (files : SegmentFiles) (laid : IsLaidOut new files) where
  stored : IsStoredBatch segment.schema analyzer documents batch files.store
  stored = is_stored_batch segment.schema analyzer size documents stamps kept are batch count files.store fields norms many (laid.store ∙ ap (option_map all_blocks) (sym laid.stored ∙ is_filled.store_is))

  abbrev cs : Columns
  cs = columns_in (column_file_of fast)

  spells : Spells segment.schema batch documents cs files
  spells = record {
    terms = (both segment kept.store fast batch new is_filled files laid).0;
    norms = of_norms (HoldsNorms segment.schema batch) new.norms files.field_norms is_filled.norms laid.norms;
    stored = stored.stored;
    columns = subst (λ (bytes : List ℕ). HaveColumns (length documents) bytes cs) (sym (laid.fast ∙ is_filled.fast_is)) (have_columns segment.schema kept analyzer size documents stamps are fast made);
  }

  pub made_stand : StandFor segment.schema analyzer documents files
  made_stand = stands segment.schema analyzer documents stored.taken stored.utf8 cs (columns_are segment.schema kept analyzer size documents stamps are fast made) batch files stored.indexed spells

  pub made_blocks : HasBlocks segment.schema size documents files.store
  made_blocks = has_blocks segment.schema analyzer size documents stamps kept are files.store (laid.store ∙ ap (option_map all_blocks) (sym laid.stored ∙ is_filled.store_is))
