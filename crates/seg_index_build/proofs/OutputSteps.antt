-- The steps that fill an index with one segment, and what they leave of the files.
use Rattle.std.proofs.Common.{◌≡◌, ◌≢◌, ℕ, [], ◌∷◌, IsTrue, ap, ◌∙◌, Result, Ok, Err, None, Some}
use Rattle.std.specs.Prelude.{OnOk}
use Rattle.std.specs.FinMap.{get, len, empty_of_len, get-empty}
use Rattle.std.specs.List.{AllByRecursion}
use Rattle.seg_common.specs.FileNameKeys.{name_cmp}
use Rattle.seg_common.specs.declared.name.FileName.TheVariants.{Meta, Part}
use Rattle.seg_common.specs.declared.name.SegmentComponent.{SegmentComponent}
use Rattle.seg_common.specs.declared.name.SegmentComponent.TheVariants as component
use Rattle.seg_values.specs.declared.error.TantivyError.{TantivyError}
use Rattle.seg_values.specs.declared.error.TantivyError.TheVariants.{IndexAlreadyExists}
use Rattle.seg_directory.proofs.Exports.{never_there, split_does, suits_then}
use Rattle.seg_directory.specs.Files.{NamedFiles}
use Rattle.seg_directory.specs.DirectoryStates.{DirectoryState}
use Rattle.seg_directory.specs.DirectorySteps.{Works}
use Rattle.seg_meta.specs.ParsedMeta.{meta_read}
use Rattle.seg_meta.specs.MetaText.{meta_text}
use Rattle.seg_meta.specs.IndexOfFiles as index
use Rattle.seg_segment.specs.IndexForms.{segment_forms}
use Rattle.seg_segment.specs.SegmentFiles.{AreAbsent, KeepsAllBut, segment_names, write_steps}
use Rattle.seg_segment.specs.SegmentFiles as segment
use Rattle.seg_segment.specs.declared.segment_files.SegmentFiles.{SegmentFiles}
use Rattle.seg_segment.proofs.Exports.{absent_suit, are_made}
use Rattle.seg_index_build.specs.IndexWriteSteps.{fill_one_steps, publish_steps}
use Rattle.seg_index_build.proofs.PublishSteps.{published_last, publishing_keeps}

-- ---- the files

pub not-meta : (id : ℕ) (which : SegmentComponent) → AllByRecursion (λ name. Part id which ≢ name) (Meta ∷ [])
not-meta id which = ((λ is. cc), tt)

-- the files of the segment stay after a new meta
pub read-files-kept : {T : Type 0} (r : Result T TantivyError) (id : ℕ) (read : SegmentFiles) (old new : NamedFiles)
    → KeepsAllBut (Meta ∷ []) old new → segment.HasFiles old id read → OnOk r (segment.HasFiles new id read)
read-files-kept (Ok x) id read old new kept (t, (s, (p, (q, (f, (n, _)))))) = (
  kept _ (not-meta id component.Terms) ∙ t,
  (
    kept _ (not-meta id component.Store) ∙ s,
    (
      kept _ (not-meta id component.Postings) ∙ p,
      (
        kept _ (not-meta id component.Positions) ∙ q,
        (kept _ (not-meta id component.FastFields) ∙ f, (kept _ (not-meta id component.FieldNorms) ∙ n, tt)),
      ),
    ),
  ),
)
read-files-kept (Err e) id read old new kept h = tt

-- in a directory without files a segment has none, also after a new meta
absent-part : (id : ℕ) (which : SegmentComponent) (old new : NamedFiles) → len old ≡ 0 → KeepsAllBut (Meta ∷ []) old new
    → get new (Part id which) ≡ None
absent-part id which old new none kept =
    kept _ (not-meta id which) ∙ ap (λ (fs : NamedFiles). get fs (Part id which)) (empty_of_len old none) ∙ get-empty
    name_cmp (Part id which)

pub absent-parts : (id : ℕ) (old new : NamedFiles) → len old ≡ 0 → KeepsAllBut (Meta ∷ []) old new
    → AreAbsent (segment_names id) new
absent-parts id old new none kept = (
  absent-part id component.FieldNorms old new none kept,
  (
    absent-part id component.FastFields old new none kept,
    (
      absent-part id component.Terms old new none kept,
      (
        absent-part id component.Postings old new none kept,
        (absent-part id component.Positions old new none kept, (absent-part id component.Store old new none kept, tt)),
      ),
    ),
  ),
)

-- ---- the steps

module _ (meta : index.Meta) (id : ℕ) (files : SegmentFiles) where
  -- the files read as an index with this meta
  pub one_index : {T : Type 0} (r : Result T TantivyError) {a b : DirectoryState}
      → Works (fill_one_steps meta id files) r a b → meta_read (meta_text meta) ≡ Some meta → IsTrue a.tells
      → OnOk r (index.index_of segment_forms b.files ≡ Some meta)
  one_index r works reads told = published_last meta (write_steps id files) r works reads told

  -- the six files are there
  pub one_files : {T : Type 0} (r : Result T TantivyError) {a b : DirectoryState}
      → Works (fill_one_steps meta id files) r a b → IsTrue a.tells → OnOk r (segment.HasFiles b.files id files)
  one_files (Ok x) works told =
      let filled = split_does (write_steps id files) (publish_steps meta) works in
      read-files-kept (Ok x) id files _ _ (publishing_keeps meta filled.2) (are_made id files (Ok x) told filled.1)
  one_files (Err e) works told = tt

  -- where none of them is there, none is found
  pub one_fresh : {T : Type 0} {r : Result T TantivyError} {a b : DirectoryState}
      → Works (fill_one_steps meta id files) r a b → IsTrue a.tells → AreAbsent (segment_names id) a.files
      → r ≢ Err IndexAlreadyExists
  one_fresh {a = a} works told absent =
      never_there told
      (suits_then (write_steps id files) (publish_steps meta) a.files (absent_suit id files a.files absent)
      (tt, (tt, (tt, tt))))
      works
