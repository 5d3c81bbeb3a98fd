-- The text that `merge` prints, and what it leaves of the work directory.
use Rattle.std.proofs.Common.{◌≡◌, ◌≢◌, ◌∙◌, ℕ, List, [], ◌∷◌, map, Option, None, Some, Result, Ok, Err, IsTrue, refl, sym, ap, subst, codes}
use Rattle.std.specs.Prelude.{Bool, replicate, true}
use Rattle.std.specs.FinMap.{get}
use Rattle.std.proofs.lemmas.List.{append-nil}
use Rattle.std.proofs.lemmas.Option.{same_Some}
use Rattle.seg_values.specs.declared.error.TantivyError.{TantivyError}
use Rattle.seg_directory.specs.Files.{NamedFiles}
use Rattle.seg_directory.specs.DirectoryStates.{DirectoryState}
use Rattle.seg_meta.specs.IndexOfFiles as index
use Rattle.seg_meta.specs.IndexOfFiles.{ListedSegment, Meta}
use Rattle.seg_meta.specs.MetaSteps.{LoadsMetas}
use Rattle.seg_meta.specs.Metas.{SegmentParts, segment_of}
use Rattle.seg_meta.specs.MetaMeaning.{meta_of}
use Rattle.seg_meta.specs.declared.index_meta.IndexMeta.{IndexMeta}
use Rattle.seg_model.specs.Contents.{Contents, reading_part}
use Rattle.seg_model.specs.Fields.{Schema}
use Rattle.seg_segment.specs.IndexForms.{segment_forms}
use Rattle.seg_segment.specs.FileContents.{Holds}
use Rattle.seg_segment.specs.Laws.{HoldsOneContents}
use Rattle.seg_segment.specs.SegmentFiles.{KeepsAllBut}
use Rattle.seg_open.specs.OpenSegment.{OpenSegment, contents_of, kept_count}
use Rattle.seg_index_build.specs.IndexFiles.{undeleted}
use Rattle.seg_index_build.specs.MergeAnswers.{AllHaveHeld}
use Rattle.seg_index_build.specs.MergedIndices.{listed_segments}
use Rattle.seg_index_build.specs.MergedSegments.{IsRefusal, MergeInput, MergesLive, MergesSegments, first_schema, joined, live_asked, output_meta_of}
use Rattle.seg_index_build.specs.OtherFiles.{merged_files}
use Rattle.seg_index_build.specs.TwoDirectories.{Directories, Passes, Then, goes_on, stops}
use Rattle.seg_text.specs.SegmentText.{segment_text}
use Rattle.seg_tool.specs.Words.MergeJob.{IsJoined, IsMergedText, MergesText, MergesWork, joined_text, last_id, merge_of}
use Rattle.seg_tool.specs.PrintedIndex.{AreReadOf, PrintsIndex}
use Rattle.seg_tool.specs.Printing.{read_segment_text, read_texts}
use Rattle.seg_tool.specs.declared.words.Detail.TheVariants.{Brief}
use Rattle.seg_tool.proofs.IndexLaws.{load_index, load_stays, prints_stay, prints_told, tells_on}
use Rattle.seg_tool.proofs.JobSteps.{Merges, merges_listed}
use Rattle.seg_tool.proofs.Steady.{merges_steady}

-- segments that nothing refuses: there is one
some_merged : (m : MergeInput) (segments : List SegmentParts) (refusal : Option TantivyError) → refusal ≡ None → IsRefusal m segments refusal → segments ≢ []
some_merged m [] refusal none is empty = cc (sym is ∙ none)
some_merged m (s ∷ segments) refusal none is empty = absurd (cc empty)

merges_some : (metas merged : IndexMeta) (a b : Directories) → MergesSegments (merge_of metas) (Ok merged) a b → metas.segments ≢ []
merges_some metas merged a b h empty = by h.merges
  where
    none_there : h.refusal ≡ None → ⊥
    none_there none = some_merged (merge_of metas) (listed_segments metas) h.refusal none h.is (ap (λ (l : List ListedSegment). map (segment_of metas.schema) l) empty)

    by : Then {X = Unit {0}} (Passes h.refusal) (λ _. MergesLive (merge_of metas)) (Ok merged) a b → ⊥
    by (stops e is k) = cc is
    by (goes_on u n k l) = none_there k.0

pub first_of : (metas : IndexMeta) → metas.segments ≢ [] → first_schema (listed_segments metas) ≡ metas.schema
first_of metas some = by metas.segments some
  where
    by : (listed : List ListedSegment) → listed ≢ [] → first_schema (map (segment_of metas.schema) listed) ≡ metas.schema
    by [] some = absurd (some refl)
    by (l ∷ listed) some = refl

-- the text of what segments join to
module _ (law : HoldsOneContents) (files : NamedFiles) (schema : Schema) (documents : ℕ) (contents : Contents)
    (holds : Holds files last_id schema contents) where
  one_text : (s : OpenSegment) → s.schema ≡ schema → s.id ≡ last_id → s.alive ≡ replicate documents true
      → Holds files last_id schema (contents_of s)
      → read_segment_text (codes "output") Brief s ≡ joined_text schema documents contents
  one_text s same of_id marks held =
      ap (λ (c : Schema). segment_text c (record { label = codes "output"; id = s.id; alive = s.alive; reading = reading_part (contents_of s) })) same
      ∙ ap (λ i. segment_text schema (record { label = codes "output"; id = i; alive = s.alive; reading = reading_part (contents_of s) })) of_id
      ∙ ap (λ (m : List Bool). segment_text schema (record { label = codes "output"; id = last_id; alive = m; reading = reading_part (contents_of s) })) marks
      ∙ ap (λ (c : Contents). segment_text schema (record { label = codes "output"; id = last_id; alive = replicate documents true; reading = reading_part c }))
      (law files last_id schema (contents_of s) contents held holds)

  all_text : (read : List OpenSegment) → AreReadOf files schema (undeleted last_id documents ∷ []) read
      → read_texts (codes "output") Brief read ≡ joined_text schema documents contents
  all_text [] are = absurd are
  all_text (s ∷ t ∷ read) are = absurd are.1
  all_text (s ∷ []) are =
      append-nil (read_segment_text (codes "output") Brief s)
      ∙ one_text s are.0.of_schema are.0.of_id are.0.alive are.0.holds

-- all went well
pub record IsDone (text : List ℕ) (a b : Directories) : Type 0 where
  pub metas : IndexMeta
  pub merged : IndexMeta
  pub loaded_at : Directories
  pub merged_at : Directories
  pub loads : LoadsMetas (Ok metas) a.work loaded_at.work
  pub same_output : loaded_at.output ≡ a.output
  pub merges : Merges (merge_of metas) (Ok merged) loaded_at merged_at
  pub prints : PrintsIndex [] (codes "output") Brief (Ok text) merged_at.output b.output
  pub same_work : b.work ≡ merged_at.work

module _ (a b : Directories) where
  pub is_done : (text : List ℕ) → MergesText (Ok text) a b → IsDone text a b
  is_done text (stops e is h) = absurd (cc is)
  is_done text (goes_on merged n (stops e is l) p) = absurd (cc is)
  is_done text (goes_on merged n (goes_on metas m l k) p) = record {
    metas = metas;
    merged = merged;
    loaded_at = m;
    merged_at = n;
    loads = l.0;
    same_output = l.1;
    merges = merges_listed metas (Ok merged) m n k;
    prints = p.0;
    same_work = p.1;
  }

  -- what `merge` leaves and prints
  pub is_joined : HoldsOneContents → (text : List ℕ) → MergesText (Ok text) a b → IsTrue a.work.tells → IsTrue a.output.tells
      → IsJoined a.work.files b.output.files text
  is_joined law text h told told_out =
      let d = is_done text h in
      let same = load_stays a.work d.loaded_at.work (Ok d.metas) d.loads in
      let told_loaded = tells_on a.work d.loaded_at.work same told in
      let told_begun = subst (λ (s : DirectoryState). IsTrue s.tells) (sym d.same_output) told_out in
      let told_merged = subst (λ t. IsTrue t) (sym (merges_steady (merge_of d.metas) (Ok d.merged) d.loaded_at d.merged_at d.merges.does).output.tells) told_begun in
      let some = merges_some d.metas d.merged d.loaded_at d.merged_at d.merges.does in
      let one = first_of d.metas some in
      let j = d.merges.is_merge told_loaded in
      let p = prints_told [] (codes "output") Brief d.merged_at.output b.output text told_merged d.prints in
      let output_same = (prints_stay [] (codes "output") Brief d.merged_at.output b.output (Ok text) d.prints).files in
      let is_output = j.index_of told_begun ∙ ap (λ (x : Meta). Some x) j.counted in
      let held = subst (λ (schema : Schema). Holds d.merged_at.output.files last_id schema j.contents) one (j.holds told_begun) in
      let meta_is = same_Some (meta_of p.metas) (output_meta_of (merge_of d.metas) (kept_count j.opened)) (sym p.is_index ∙ is_output) in
      let read =
      subst (λ (schema : Schema). AreReadOf d.merged_at.output.files schema (undeleted last_id (kept_count j.opened) ∷ []) p.opened) one
      (subst (λ (x : Meta). AreReadOf d.merged_at.output.files x.schema x.segments p.opened) meta_is p.are_read) in
      record {
        metas = d.metas;
        is_index = load_index a.work d.loaded_at.work d.metas told d.loads;
        some = some;
        opened = j.opened;
        held =
            subst (λ (files : NamedFiles). AllHaveHeld files (live_asked (merge_of d.metas).segments (merge_of d.metas).filters) j.opened) same.files j.held;
        is_output = subst (λ (files : NamedFiles). index.index_of segment_forms files ≡ Some (output_meta_of (merge_of d.metas) (kept_count j.opened))) (sym output_same) is_output;
        contents = j.contents;
        joins = sym (ap (λ (schema : Schema). joined schema j.opened) one) ∙ j.joins;
        holds = subst (λ (files : NamedFiles). Holds files last_id d.metas.schema j.contents) (sym output_same) held;
        printed = p.printed
            ∙ all_text law d.merged_at.output.files d.metas.schema (kept_count j.opened) j.contents held p.opened read;
      }

  pub is_merged : HoldsOneContents → (text : List ℕ) → MergesText (Ok text) a b → IsMergedText a b text
  is_merged law text h = record { merges = h; told = is_joined law text h }

  -- no file of the work directory changes
  work_same : (r : Result IndexMeta TantivyError) → MergesWork r a b → b.work.files ≡ a.work.files
  work_same r (stops e is l) = (load_stays a.work b.work (Err e) l.0).files
  work_same r (goes_on metas m l k) = (merges_listed metas r m b k).work_stays ∙ (load_stays a.work m.work (Ok metas) l.0).files

  -- and no file of the output but those of a merge
  others_same : (r : Result IndexMeta TantivyError) → MergesWork r a b → KeepsAllBut (merged_files last_id) a.output.files b.output.files
  others_same r (stops e is l) other none = ap (λ (s : DirectoryState). get s.files other) l.1
  others_same r (goes_on metas m l k) other none =
      (merges_listed metas r m b k).others other none ∙ ap (λ (s : DirectoryState). get s.files other) l.1

pub merges_stay : (a b : Directories) (r : Result (List ℕ) TantivyError) → MergesText r a b → b.work.files ≡ a.work.files
merges_stay a b r (stops e is w) = work_same a b (Err e) w
merges_stay a b r (goes_on merged n w p) = ap (λ (s : DirectoryState). s.files) p.1 ∙ work_same a n (Ok merged) w

pub merges_others : (a b : Directories) (r : Result (List ℕ) TantivyError) → MergesText r a b
    → KeepsAllBut (merged_files last_id) a.output.files b.output.files
merges_others a b r (stops e is w) other none = others_same a b (Err e) w other none
merges_others a b r (goes_on merged n w p) other none =
    ap (λ (files : NamedFiles). get files other) (prints_stay [] (codes "output") Brief n.output b.output r p.0).files
    ∙ others_same a n (Ok merged) w other none
