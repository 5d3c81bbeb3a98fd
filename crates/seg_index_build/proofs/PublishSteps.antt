-- A meta that is saved, and synced.
use Rattle.std.proofs.Common.{◌≡◌, ◌∙◌, ℕ, List, [], ◌∷◌, ◌++◌, IsTrue, Some, Result, Ok, Err, ap, subst}
use Rattle.std.specs.Prelude.{OnOk}
use Rattle.std.specs.FinMap.{get, insert, get-insert}
use Rattle.std.specs.Option.{option_and_then}
use Rattle.seg_common.specs.declared.name.FileName.TheVariants.{Meta}
use Rattle.seg_common.specs.FileNameKeys.{name_cmp_total}
use Rattle.seg_values.specs.declared.error.TantivyError.{TantivyError}
use Rattle.seg_directory.proofs.Exports.{all_went, split_does}
use Rattle.seg_directory.specs.Files.{NamedFiles}
use Rattle.seg_directory.specs.DirectoryStates.{DirectoryState}
use Rattle.seg_directory.specs.DirectorySteps.{Step, Works}
use Rattle.seg_meta.specs.ParsedMeta.{meta_read}
use Rattle.seg_meta.specs.MetaText.{meta_text}
use Rattle.seg_model.specs.Fields.{Schema}
use Rattle.seg_meta.specs.IndexOfFiles as index
use Rattle.seg_model.specs.Input.{Settings}
use Rattle.seg_segment.specs.IndexForms.{segment_forms}
use Rattle.seg_segment.specs.SegmentFiles.{KeepsAllBut}
use Rattle.seg_segment.specs.declared.segment_files.SegmentFiles.{SegmentFiles}
use Rattle.seg_segment.proofs.Exports.{keeps_untouched}
use Rattle.seg_index_build.specs.IndexWriteSteps.{begin_steps, fill_one_steps, publish_steps}
use Rattle.seg_index_build.proofs.ToldDirectories.{tells-still}

-- it is what the files read as
pub saved_index : (old new : NamedFiles) (text : List ℕ) (meta : index.Meta) → new ≡ insert old Meta text
    → meta_read text ≡ Some meta → index.index_of segment_forms new ≡ Some meta
saved_index old new text meta is reads =
    ap (option_and_then meta_read)
    (ap (λ (fs : NamedFiles). get fs Meta) is ∙ get-insert name_cmp_total old Meta text Meta) ∙ reads

module _ (meta : index.Meta) where
  pub published : {T : Type 0} (r : Result T TantivyError) {a b : DirectoryState} → Works (publish_steps meta) r a b
      → meta_read (meta_text meta) ≡ Some meta → IsTrue a.tells
      → OnOk r (index.index_of segment_forms b.files ≡ Some meta)
  published (Ok x) {a =
      a} {b = b} works reads told = saved_index a.files b.files (meta_text meta) meta ((all_went works).files
      told) reads
  published (Err e) works reads told = tt

  -- also after other steps
  pub published_last : {T : Type 0} (steps : List Step) (r : Result T TantivyError) {a b : DirectoryState}
      → Works (steps ++ publish_steps meta) r a b → meta_read (meta_text meta) ≡ Some meta → IsTrue a.tells
      → OnOk r (index.index_of segment_forms b.files ≡ Some meta)
  published_last steps (Ok x) works reads told =
      let s = split_does steps (publish_steps meta) works in
      published (Ok x) s.2 reads (tells-still _ _ (all_went s.1).tells told)
  published_last steps (Err e) works reads told = tt

  -- other files stay
  pub publishing_keeps : {T : Type 0} {r : Result T TantivyError} {a b : DirectoryState}
      → Works (publish_steps meta) r a b → KeepsAllBut (Meta ∷ []) a.files b.files
  publishing_keeps works = keeps_untouched works

-- an index of this schema is begun
pub begun_of : {T : Type 0} (settings : Settings) (given schema : Schema) {r : Result T TantivyError} {a b : DirectoryState}
    → given ≡ schema → Works (begin_steps settings given) r a b → Works (begin_steps settings schema) r a b
begun_of settings given schema {r =
    r} {a = a} {b = b} is works = subst (λ s. Works (begin_steps settings s) r a b) is works

-- an index is filled with this meta
pub filled_of : {T : Type 0} (given meta : index.Meta) (id : ℕ) (files : SegmentFiles) {r : Result T TantivyError} {a b : DirectoryState}
    → given ≡ meta → Works (fill_one_steps given id files) r a b → Works (fill_one_steps meta id files) r a b
filled_of given meta id files {r =
    r} {a = a} {b = b} is works = subst (λ m. Works (fill_one_steps m id files) r a b) is works
