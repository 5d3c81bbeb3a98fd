-- An index of one segment that is written, or where its writing ends.
use Rattle.std.proofs.Common.{◌≡◌, ◌∙◌, ℕ, List, Option, None, Some, Result, Ok, Err, IsTrue, sym, ap, subst}
use Rattle.std.specs.Prelude.{IfOk, OnOk}
use Rattle.std.specs.FinMap.{get, get-insert}
use Rattle.std.specs.Option.{option_and_then}
use Rattle.seg_common.specs.FileNameKeys.{name_cmp_total}
use Rattle.seg_common.specs.declared.name.FileName.TheVariants.{Meta, Part}
use Rattle.seg_common.specs.declared.name.SegmentComponent.{SegmentComponent}
use Rattle.seg_values.specs.Tree.{Document}
use Rattle.seg_values.specs.declared.error.TantivyError.{TantivyError}
use Rattle.seg_values.specs.declared.error.TantivyError.TheVariants.{SystemError}
use Rattle.seg_directory.proofs.Exports.{all_went, stops, then_does}
use Rattle.seg_directory.specs.Files.{NamedFiles}
use Rattle.seg_directory.specs.DirectoryStates.{DirectoryState}
use Rattle.seg_directory.specs.DirectorySteps.{Works}
use Rattle.seg_meta.specs.IndexOfFiles as index
use Rattle.seg_meta.specs.ParsedMeta.{meta_read}
use Rattle.seg_meta.specs.MetaText.{meta_text}
use Rattle.seg_model.specs.Fields.{Schema, Analyzer}
use Rattle.seg_model.specs.Input.{Settings}
use Rattle.seg_segment.proofs.Exports.{held_on, keeps_untouched, failing}
use Rattle.seg_segment.specs.IndexForms.{segment_forms}
use Rattle.seg_segment.specs.SegmentFiles.{KeepsAllBut, write_steps}
use Rattle.seg_build.specs.FinishedFiles.{Finishes, FinishesKept as FinishesSegment, fails, makes}
use Rattle.seg_build.specs.WriterContents.{Kept}
use Rattle.seg_build.specs.IndexWriters.{FinishesIndex, FinishesKept, fails as fails_index, index_files, makes as makes_index, one_segment_meta, publish_steps}

-- ---- the meta is saved

module _ (meta : index.Meta) {T : Type 0} (r : Result T TantivyError) {a b : DirectoryState}
    (works : Works (publish_steps meta) r a b) where
  -- the files of a segment stay
  pub part_stays : (id : ℕ) (c : SegmentComponent) → get b.files (Part id c) ≡ get a.files (Part id c)
  part_stays id c = keeps_untouched works (Part id c) ((λ e. cc e), tt)

  -- and so does what it stands for
  pub stands_on : (schema : Schema) (analyzer : Analyzer) (id : ℕ) (documents : List Document)
      → index.StandsFor segment_forms a.files schema analyzer id documents
      → index.StandsFor segment_forms b.files schema analyzer id documents
  stands_on schema analyzer id documents s = record {
    contents = s.contents;
    read = s.read;
    held = held_on id a.files b.files (part_stays id) schema s.contents s.held;
  }

-- it is what the files read as
saved_is_read : (meta : index.Meta) {T : Type 0} (x : T) {a b : DirectoryState}
    → Works (publish_steps meta) (Ok x) a b → meta_read (meta_text meta) ≡ Some meta → IsTrue a.tells
    → index.index_of segment_forms b.files ≡ Some meta
saved_is_read meta x {a = a} {b = b} works reads told =
    ap (option_and_then meta_read)
    (ap (λ (fs : NamedFiles). get fs Meta) ((all_went works).files told)
    ∙ get-insert name_cmp_total a.files Meta (meta_text meta) Meta)
    ∙ reads

pub saved_as : {T : Type 0} (f : T → index.Meta) (meta : index.Meta) (r : Result T TantivyError) {a b : DirectoryState}
    → Works (publish_steps meta) r a b → IfOk r (λ x. f x ≡ meta) → IfOk r (λ x. meta_read (meta_text (f x)) ≡ Some (f x))
    → IsTrue a.tells → IfOk r (λ x. index.index_of segment_forms b.files ≡ Some (f x))
saved_as f meta (Ok x) works is reads told =
    saved_is_read meta x works (subst (λ (m : index.Meta). meta_read (meta_text m) ≡ Some m) is reads) told
    ∙ ap (λ (m : index.Meta). Some m) (sym is)
saved_as f meta (Err e) works is reads told = tt

-- ---- what is told of a segment stays, once the meta is saved

module _ (P : List Document → List ℕ → Type 0) {T : Type 0} (meta : index.Meta) where
  pub still_stands : (r : Result T TantivyError) {a b : DirectoryState} → Works (publish_steps meta) r a b
      → (schema : Schema) (analyzer : Analyzer) (id : ℕ)
      → ((documents : List Document) (stamps : List ℕ) → P documents stamps → index.StandsFor segment_forms a.files schema analyzer id documents)
      → OnOk r ((documents : List Document) (stamps : List ℕ) → P documents stamps
      → index.StandsFor segment_forms b.files schema analyzer id documents)
  still_stands (Ok x) works schema analyzer id h =
      λ documents stamps p. stands_on meta (Ok x) works schema analyzer id documents (h documents stamps p)
  still_stands (Err e) works schema analyzer id h = tt

  -- and so of one of its files
  pub still_said : (Q : List Document → List ℕ → Type 0) (id : ℕ) (c : SegmentComponent) (r : Result T TantivyError)
      {a b : DirectoryState} → Works (publish_steps meta) r a b
      → ((documents : List Document) (stamps : List ℕ) → P documents stamps → (bytes : List ℕ) → get a.files (Part id c) ≡ Some bytes → Q documents bytes)
      → OnOk r ((documents : List Document) (stamps : List ℕ) → P documents stamps → (bytes : List ℕ)
      → get b.files (Part id c) ≡ Some bytes → Q documents bytes)
  still_said Q id c (Ok x) works h =
      λ documents stamps p bytes there. h documents stamps p bytes (sym (part_stays meta (Ok x) works id c) ∙ there)
  still_said Q id c (Err e) works h = tt

-- ---- the segment, and then the meta

module _ (meta : index.Meta) (schema : Schema) (id : ℕ) where
  abbrev Segment : {T : Type 0} → Option Kept → Result T TantivyError → DirectoryState → DirectoryState → Type 0
  Segment kept r a b = FinishesSegment schema id kept r a b

  abbrev Whole : {T : Type 0} → Option Kept → Result T TantivyError → DirectoryState → DirectoryState → Type 0
  Whole kept r a b = FinishesKept meta schema id kept r a b

  same_error : (S T : Type 0) (e d : TantivyError) → failing S e ≡ failing S d → failing T e ≡ Err d
  same_error S T e d is = ap (failing T) (cc is)

  one_stops : {S : Type 0} (T : Type 0) (kept : Kept) (r : Result S TantivyError) (e : TantivyError) (a b : DirectoryState)
      → r ≡ Err e → Finishes schema id kept r a b → FinishesIndex {T = T} meta schema id kept (Err e) a b
  one_stops {S = S} T kept r e a b is (fails d why told same) = fails_index d why (same_error S T e d (sym is ∙ told)) same
  one_stops T kept r e a b is (makes files of works) =
      makes_index files of
      (stops (publish_steps meta) (subst (λ x. Works (write_steps id files) x a b) is works))

  -- no segment is made
  pub segment_stops : {S : Type 0} (T : Type 0) (kept : Option Kept) (r : Result S TantivyError) (e : TantivyError)
      (a b : DirectoryState) → r ≡ Err e → FinishesSegment schema id kept r a b
      → FinishesKept {T = T} meta schema id kept (Err e) a b
  segment_stops {S = S} T None r e a b is h = (same_error S T e SystemError (sym is ∙ h.0), h.1)
  segment_stops T (Some kept) r e a b is h = one_stops T kept r e a b is h

  one_goes_on : {S T : Type 0} (kept : Kept) (x : S) (r : Result T TantivyError) (a b c : DirectoryState)
      → Finishes schema id kept (Ok x) a b → Works (publish_steps meta) r b c → FinishesIndex meta schema id kept r a c
  one_goes_on kept x r a b c (fails d why is same) next = absurd (cc is)
  one_goes_on kept x r a b c (makes files of works) next = makes_index files of (then_does works next)

  -- it is made, and the meta saved, or not
  pub segment_goes_on : {S T : Type 0} (kept : Option Kept) (x : S) (r : Result T TantivyError) (a b c : DirectoryState)
      → Segment kept (Ok x) a b → Works (publish_steps meta) r b c → Whole kept r a c
  segment_goes_on None x r a b c h next = absurd (cc h.0)
  segment_goes_on (Some kept) x r a b c h next = one_goes_on kept x r a b c h next

  one_tells : {T : Type 0} (kept : Kept) (x : T) (a b : DirectoryState) → Finishes schema id kept (Ok x) a b → b.tells ≡ a.tells
  one_tells kept x a b (fails d why is same) = absurd (cc is)
  one_tells kept x a b (makes files of works) = (all_went works).tells

  -- the directory tells as before
  pub segment_tells : {T : Type 0} (kept : Option Kept) (x : T) (a b : DirectoryState) → Segment kept (Ok x) a b
      → b.tells ≡ a.tells
  segment_tells None x a b h = absurd (cc h.0)
  segment_tells (Some kept) x a b h = one_tells kept x a b h

  -- ---- what stays

  unchanged : (a b : DirectoryState) → b ≡ a → KeepsAllBut (index_files id) a.files b.files
  unchanged a b same other all = ap (λ (s : DirectoryState). get s.files other) same

  -- the files of other names
  pub others_stay : {T : Type 0} (kept : Option Kept) (r : Result T TantivyError) (a b : DirectoryState)
      → Whole kept r a b → KeepsAllBut (index_files id) a.files b.files
  others_stay None r a b h = unchanged a b h.1
  others_stay (Some kept) r a b (fails_index e why is same) = unchanged a b same
  others_stay (Some kept) r a b (makes_index files of works) = keeps_untouched works

-- a meta by its parts
pub same_meta : (settings : Settings) (s t : Schema) (i j m n : ℕ) → s ≡ t → i ≡ j → m ≡ n
    → one_segment_meta settings s i m ≡ one_segment_meta settings t j n
same_meta settings s t i j m n same_schema same_id same_count =
    ap (λ (x : Schema). one_segment_meta settings x i m) same_schema
    ∙ ap (λ (x : ℕ). one_segment_meta settings t x m) same_id
    ∙ ap (λ (x : ℕ). one_segment_meta settings t j x) same_count

pub meta_as : {T : Type 0} (settings : Settings) (s t : Schema) (i j m n : ℕ) → s ≡ t → i ≡ j → m ≡ n
    → (r : Result T TantivyError) (a b : DirectoryState) → Works (publish_steps (one_segment_meta settings s i m)) r a b
    → Works (publish_steps (one_segment_meta settings t j n)) r a b
meta_as settings s t i j m n same_schema same_id same_count r a b works =
    subst (λ (x : index.Meta). Works (publish_steps x) r a b) (same_meta settings s t i j m n same_schema same_id same_count) works

pub published_of : {T : Type 0} (given meta : index.Meta) {r : Result T TantivyError} {a b : DirectoryState} → given ≡ meta
    → Works (publish_steps given) r a b → Works (publish_steps meta) r a b
published_of given meta {r = r} {a = a} {b = b} is works = subst (λ (m : index.Meta). Works (publish_steps m) r a b) is works
