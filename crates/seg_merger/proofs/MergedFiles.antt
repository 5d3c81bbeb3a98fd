-- The six files of a segment that segments are joined to.
use Rattle.std.proofs.Common.{◌≡◌, ℕ, List, [], ◌++◌, map, Option, Some, None, Ok, Err, refl, sym, ap, ◌∙◌, subst}
use Rattle.std.specs.Prelude.{IsSomeAnd, option_map}
use Rattle.std.specs.List.{AllByRecursion}
use Rattle.std.proofs.lemmas.Option.{same_Some}
use Rattle.seg_columns.specs.declared.error.ColumnError.{ColumnError}
use Rattle.seg_columns.specs.declared.error.ColumnError.TheVariants as column_error
use Rattle.seg_columns.specs.declared.error.ColumnError.TheVariants.{Malformed, Mixed}
use Rattle.seg_column_merge.specs.MergedColumns.{MergeFails}
use Rattle.seg_directory.specs.CompositeFiles.{composite}
use Rattle.seg_directory.specs.DirectoryStates.{DirectoryState}
use Rattle.seg_directory.specs.DirectorySteps.{Works}
use Rattle.seg_directory.proofs.Exports.{answers, stops}
use Rattle.seg_meta.specs.Metas.{SegmentParts}
use Rattle.seg_model.specs.Contents.{Contents}
use Rattle.seg_model.specs.Fields.{Schema}
use Rattle.seg_model.specs.Join.{join, joined_columns, joined_with}
use Rattle.seg_model.specs.Laws.{JoinsHaveFullShape}
use Rattle.seg_postings.specs.FieldFiles.{FieldFiles}
use Rattle.seg_column_format.specs.SchemaColumns.{HaveColumns}
use Rattle.seg_segment.specs.SegmentFiles.{write_steps}
use Rattle.seg_segment.specs.SegmentSerializers as serializing
use Rattle.seg_segment.specs.SegmentSerializers.{Serializing, IsLaidOut, IsNormsFile, Closes, filled_with, unfilled}
use Rattle.seg_segment.specs.declared.segment_files.SegmentFiles.{SegmentFiles}
use Rattle.seg_store.specs.Store.{documents_of}
use Rattle.seg_store.specs.WriterBlocks.{Taken, all_blocks}
use Rattle.seg_values.specs.declared.error.TantivyError.{TantivyError}
use Rattle.seg_values.specs.declared.error.TantivyError.TheVariants.{OutOfMemory}
use Rattle.seg_open.specs.OpenSegment.{IsMarked, IsOfSchema, OpenSegment, part_of}
use Rattle.seg_merger.specs.JoinedColumns.{HasJoinedColumns}
use Rattle.seg_merger.specs.JoinedStore.{joined_documents, no_documents, taken_documents, with_segments}
use Rattle.seg_merger.specs.JoinedSegment.{HoldJoined, HoldsJoinedNorms, IsJoined}
use Rattle.seg_merger.specs.Merger.{AreJoinedFiles, WritesJoined, makes, mixes, refusal_of, runs_out}
use Rattle.seg_merger.proofs.JoinedSegments.{all_stored, joined_fields, joined_shape}

-- what fills a serializer that had nothing yet
pub is_joined : (given : Serializing) (readers : List OpenSegment) (block_size : ℕ) → given ≡ unfilled given.segment block_size
    → (segment : SegmentParts) (postings : Option FieldFiles) (before after : Option Taken) (fast norms : List ℕ)
    → segment ≡ given.segment → before ≡ given.store → IsSomeAnd postings (HoldJoined given.segment.schema readers)
    → after ≡ option_map (with_segments readers) before
    → option_map taken_documents after ≡ option_map (λ w. taken_documents w ++ joined_documents readers) before
    → HasJoinedColumns given.segment.schema readers fast → HoldsJoinedNorms given.segment.schema readers norms
    → (s : Serializing) → s ≡ filled_with segment postings after fast norms → IsJoined given.segment block_size readers s
is_joined given readers block_size fresh segment postings before after fast norms of was holds taken told columns put s is =
    let begun : before ≡ Some (no_documents block_size) = was ∙ ap (λ (g : Serializing). g.store) fresh in
    subst (IsJoined given.segment block_size readers) (sym is) (record {
      segment_is = of;
      postings = holds;
      store = taken ∙ ap (option_map (with_segments readers)) begun;
      stored = told ∙ ap (option_map (λ w. taken_documents w ++ joined_documents readers)) begun;
      columns = columns;
      norms = put;
    })

norms_put : (schema : Schema) (readers : List OpenSegment) (norms : Option (List ℕ)) (file : List ℕ) → IsNormsFile norms file → IsSomeAnd norms (HoldsJoinedNorms schema readers) → HoldsJoinedNorms schema readers file
norms_put schema readers None file is holds = absurd holds
norms_put schema readers (Some norms) file is holds = ap composite is ∙ holds

module _ (law : JoinsHaveFullShape) (segment : SegmentParts) (block_size : ℕ) (readers : List OpenSegment) (are : AllByRecursion (IsOfSchema segment.schema) readers) (marked : AllByRecursion IsMarked readers) (s : Serializing) (joined : IsJoined segment block_size readers s) where
  abbrev joined_contents : Contents
  joined_contents = joined_with segment.schema (map part_of readers) joined.columns.columns

  is_join : join segment.schema (map part_of readers) ≡ Some joined_contents
  is_join = ap (option_map (joined_with segment.schema (map part_of readers))) joined.columns.joined

  have_columns : (file : List ℕ) → file ≡ s.fast → HaveColumns joined_contents.documents file joined_contents.columns
  have_columns file is =
      subst (λ (bytes : List ℕ). HaveColumns joined_contents.documents bytes joined.columns.columns) (sym is)
      (subst (λ (n : ℕ). HaveColumns n s.fast joined.columns.columns) (sym (all_stored segment.schema readers are marked)) joined.columns.have)

  files_are : (files : SegmentFiles) → IsLaidOut s files → AreJoinedFiles segment.schema block_size readers files
  files_are files laid =
      let hold : HoldJoined segment.schema readers laid.fields = subst (λ o. IsSomeAnd o (HoldJoined segment.schema readers)) laid.kept joined.postings in
      let all = hold files.terms files.postings files.positions laid.terms laid.postings laid.positions in
      record {
        contents = joined_contents;
        joined = is_join;
        spell = record {
          hold_terms = all.0;
          norm_parts = norms_put segment.schema readers s.norms files.field_norms laid.norms joined.norms;
          stored = ap (option_map documents_of) laid.store ∙ ap (option_map taken_documents) (sym laid.stored) ∙ joined.stored;
          stored_fields = joined_fields segment.schema readers are;
          columns = have_columns files.fast_fields laid.fast;
          shape = joined_shape segment.schema law readers are joined_contents is_join;
        };
        totals = all.1;
        store = laid.store ∙ ap (λ w. Some (all_blocks w)) (same_Some laid.taken (with_segments readers (no_documents block_size)) (sym laid.stored ∙ joined.store));
      }

  module _ {T : Type 0} (a b : DirectoryState) where
    pub writes_ok : {U : Type 0} (u : U) (x : T) → Closes {T = U} s (Ok u) a b → WritesJoined {T = T} segment block_size readers (Ok x) a b
    writes_ok u x (serializing.starves is same) = absurd (cc)
    writes_ok u x (serializing.makes files laid works) =
        makes files (files_are files laid) (subst (λ (p : SegmentParts). Works {T = T} (write_steps p.meta.id files) (Ok x) a b) joined.segment_is (answers works))

    pub writes_err : {U : Type 0} (e : TantivyError) → Closes {T = U} s (Err e) a b → WritesJoined {T = T} segment block_size readers (Err e) a b
    writes_err e (serializing.starves is same) = let out : e ≡ OutOfMemory = cc in runs_out (ap (λ d. Err d) out) same
    writes_err e (serializing.makes files laid works) =
        makes files (files_are files laid) (subst (λ (p : SegmentParts). Works {T = T} (write_steps p.meta.id files) (Err e) a b) joined.segment_is (stops [] works))

-- nothing is written where the columns aren't joined
pub writes_none : {T : Type 0} (segment : SegmentParts) (block_size : ℕ) (readers : List OpenSegment) (a : DirectoryState)
    (error : ColumnError) → MergeFails (joined_columns segment.schema (map part_of readers)) error
    → WritesJoined {T = T} segment block_size readers (Err (refusal_of error)) a a
writes_none segment block_size readers a Mixed none =
    mixes refl (ap (option_map (joined_with segment.schema (map part_of readers))) none) refl
writes_none segment block_size readers a Malformed none = absurd none
writes_none segment block_size readers a column_error.OutOfMemory none = runs_out refl refl
