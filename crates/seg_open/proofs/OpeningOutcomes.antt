-- The opening of the six files of a segment, by how it ends.
use Rattle.std.proofs.Common.{◌≡◌, ℕ, Bool, List, Option, Result, Ok, Err, subst}
use Rattle.std.specs.Option.{option_map}
use Rattle.seg_values.specs.declared.error.TantivyError.{TantivyError}
use Rattle.seg_directory.proofs.Exports.{answers}
use Rattle.seg_directory.specs.DirectoryStates.{DirectoryState}
use Rattle.seg_meta.specs.Metas.{SegmentParts}
use Rattle.seg_model.specs.Fields.{Schema}
use Rattle.seg_postings.specs.TermMaps.{TermsReadHaveShape}
use Rattle.seg_segment.specs.SpelledContents.{Spell}
use Rattle.seg_segment.specs.declared.segment_files.SegmentFiles.{SegmentFiles}
use Rattle.seg_open.specs.Disagreement.{IsWhyNotOpen}
use Rattle.seg_open.specs.FileReads.{ReadsFiles}
use Rattle.seg_open.specs.OpenSegment.{OpenSegment, contents_in}
use Rattle.seg_open.specs.OpenedFiles.{AreOpen}
use Rattle.seg_open.specs.OpeningSteps.{HasFilesOf, OpensFiles}
use Rattle.seg_open.specs.declared.core_readers.CoreReaders.{CoreReaders}
use Rattle.seg_open.specs.declared.open_error.OpenError.{OpenError}
use Rattle.seg_open.proofs.OpenContents.{open_infos, open_spells, open_totals}
use Rattle.seg_open.proofs.OpeningSteps.{fails_as}

-- what the code calls the schema and the number of documents
module _ (own schema : Schema) (number documents : ℕ) (schema_is : own ≡ schema) (number_is : number ≡ documents) where
  pub open_as : (files : SegmentFiles) (readers : CoreReaders) → AreOpen own number files readers → AreOpen schema documents files readers
  open_as files readers has =
      subst (λ (s : Schema). AreOpen s documents files readers) schema_is (subst (λ (n : ℕ). AreOpen own n files readers) number_is has)

  pub wrong_as : (files : SegmentFiles) (e : OpenError) → IsWhyNotOpen own number files e → IsWhyNotOpen schema documents files e
  wrong_as files e why =
      subst (λ (s : Schema). IsWhyNotOpen s documents files e) schema_is (subst (λ (n : ℕ). IsWhyNotOpen own n files e) number_is why)

  -- and the id
  pub reads_as : (own_id id : ℕ) → own_id ≡ id → (r : Result CoreReaders TantivyError) (a b : DirectoryState)
      → ReadsFiles own_id own number r a b → ReadsFiles id schema documents r a b
  reads_as own_id id id_is r a b reads =
      subst (λ (i : ℕ). ReadsFiles i schema documents r a b) id_is
      (subst (λ (s : Schema). ReadsFiles own_id s documents r a b) schema_is
      (subst (λ (n : ℕ). ReadsFiles own_id own n r a b) number_is reads))

-- a segment with the readers of files
pub has_files : TermsReadHaveShape → (segment : SegmentParts) (files : SegmentFiles) (readers : CoreReaders)
    (id : ℕ) (own : Schema) (number : ℕ) (alive : List Bool) (stamp : Option ℕ)
    → id ≡ segment.meta.id → own ≡ segment.schema → number ≡ segment.meta.documents
    → stamp ≡ option_map (λ d. d.stamp) segment.meta.deletes → AreOpen own number files readers
    → HasFilesOf segment files (record {
      id = id;
      schema = own;
      documents = number;
      fields = readers.fields.items;
      blocks = readers.store;
      norms = readers.norms;
      columns = readers.fast_fields.file;
      alive = alive;
      stamp = stamp;
      sizes = readers.sizes;
    })
has_files law segment files readers id own number alive stamp id_is schema_is number_is stamp_is has = record {
  of_id = id_is;
  of_schema = schema_is;
  of_number = number_is;
  of_stamp = stamp_is;
  of_sizes = has.sizes;
  spell =
      subst (λ (t : Schema). Spell t files (contents_in own number readers.fields.items readers.store readers.norms readers.fast_fields.file)) schema_is
      (open_spells law own number files readers has);
  totals = open_totals own number files readers.fields.items has.terms;
  infos = open_infos own number files readers.fields.items has.terms;
}

module _ (segment : SegmentParts) (a b : DirectoryState) where
  -- the files aren't opened
  pub unopened : (e : TantivyError) → ReadsFiles segment.meta.id segment.schema segment.meta.documents (Err e) a b
      → OpensFiles segment (Err e) a b
  unopened e h = record { files = h.files; checks = h.checks; checked = h.checked; works = fails_as h.works; is = tt }

  -- they are
  pub opened : (readers : CoreReaders) (s : OpenSegment)
      → ReadsFiles segment.meta.id segment.schema segment.meta.documents (Ok readers) a b
      → ((files : SegmentFiles) → AreOpen segment.schema segment.meta.documents files readers → HasFilesOf segment files s)
      → OpensFiles segment (Ok s) a b
  opened readers s h has =
      record { files = h.files; checks = h.checks; checked = h.checked; works = answers h.works; is = has h.files h.is }
