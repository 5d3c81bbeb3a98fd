-- What the file of postings of documents tells: how often the terms of each field occur.
use Rattle.std.proofs.Common.{◌≡◌, ◌∙◌, ℕ, List, Some, ap, arith}
use Rattle.std.specs.Prelude.{option_map, option_and_then}
use Rattle.std.specs.FinMap.{entries}
use Rattle.std.specs.List.{slice_get}
use Rattle.std.proofs.lemmas.Option.{slice_get-map}
use Rattle.seg_segment.proofs.Exports.{entry_at}
use Rattle.seg_common.specs.LittleEndian.{u64_at}
use Rattle.seg_values.specs.Tree.{Document}
use Rattle.seg_values.specs.declared.schema.FieldEntry.{FieldEntry}
use Rattle.seg_model.specs.Fields.{Schema, Analyzer, fields}
use Rattle.seg_model.specs.DocumentTerms.{field_terms}
use Rattle.seg_directory.specs.CompositeFiles.{Part, field_of}
use Rattle.seg_segment.specs.DocumentsOfFiles.{StandFor}
use Rattle.seg_segment.specs.TokenTotals.{TellTotals}
use Rattle.seg_segment.specs.declared.segment_files.SegmentFiles.{SegmentFiles}
use Rattle.seg_build.specs.FieldTerms.{FieldTerms, asked_by, fields_of}
use Rattle.seg_build.specs.PostingsTotals.{TotalsAreCounts}
use Rattle.seg_batches.specs.BatchTotals.{documents_total}

module _ (schema : Schema) (analyzer : Analyzer) (documents : List Document) where
  -- what is gathered of a field
  abbrev gathered : ℕ × FieldEntry → FieldTerms
  gathered f =
      record { asked = asked_by f.1; terms = entries (field_terms schema analyzer documents f) }

  gathered_at : (field : ℕ) (entry : FieldEntry) → slice_get schema field ≡ Some entry
      → slice_get (fields_of schema analyzer documents) field ≡ Some (gathered (field, entry))
  gathered_at field entry at =
      slice_get-map gathered (fields schema) field
      ∙ ap (option_map gathered) (entry_at 0 field schema entry at field (omega arith))

  -- files that stand for documents, and whose totals are counts, tell theirs
  pub counts_told : (files : SegmentFiles) → StandFor schema analyzer documents files
      → TotalsAreCounts files.postings (fields_of schema analyzer documents)
      → TellTotals schema (documents_total schema analyzer documents) files.postings
  counts_told files stand counts field entry at on =
      let held = stand.spelled.hold_terms in
      let part = held.each field entry at on in
      ap (λ o. option_map (λ (bytes : List ℕ). u64_at bytes 0) (option_and_then (λ (parts : List Part). field_of parts field) o)) held.posting_file
      ∙ ap (option_map (λ (bytes : List ℕ). u64_at bytes 0)) part.in_postings
      ∙ ap (λ (n : ℕ). Some n)
      (counts held.posting_parts held.posting_file field (gathered (field, entry)) (gathered_at field entry at)
      part.postings_part part.in_postings)
