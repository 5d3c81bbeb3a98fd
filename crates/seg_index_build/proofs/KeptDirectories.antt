-- Which files both directories keep while an index is built, whatever it comes to.
use Rattle.std.proofs.Common.{◌≡◌, ◌≢◌, ◌∙◌, ℕ, List, [], ◌∷◌, ◌++◌, length, Option, None, Some, Result, Ok, Err, IsTrue, refl, sym, ap, subst}
use Rattle.std.specs.Prelude.{IfSome}
use Rattle.std.specs.FinMap.{get, same_map}
use Rattle.std.specs.List.{AllByRecursion}
use Rattle.seg_common.specs.FileNameKeys.{name_cmp_exact, name_cmp_total}
use Rattle.seg_common.specs.declared.name.FileName.{FileName}
use Rattle.seg_common.specs.declared.name.FileName.TheVariants.{Meta}
use Rattle.seg_common.proofs.Lists.{all_back, all_both, all_front}
use Rattle.seg_values.specs.declared.error.TantivyError.{TantivyError}
use Rattle.seg_directory.proofs.Exports.{keeps_disk, turns_none}
use Rattle.seg_directory.specs.DiskChanges.{KeepsDisk}
use Rattle.seg_directory.specs.FileDisks.{FileDisk}
use Rattle.seg_directory.specs.Files.{NamedFiles}
use Rattle.seg_directory.specs.DirectoryStates.{DirectoryState}
use Rattle.seg_directory.specs.DirectorySteps.{Step, Works}
use Rattle.seg_meta.specs.IndexOfFiles as index
use Rattle.seg_meta.specs.IndexOfFiles.{Deletes}
use Rattle.seg_model.specs.Fields.{Analyzer}
use Rattle.seg_model.specs.Input.{Input}
use Rattle.seg_model.specs.Refusals.{batches_error}
use Rattle.seg_model.specs.ValidInputs.{Known}
use Rattle.seg_check.specs.AdmittedInputs.{Fits}
use Rattle.seg_segment.specs.SegmentFiles.{KeepsAllBut, segment_names}
use Rattle.seg_segment.specs.declared.segment_files.SegmentFiles.{SegmentFiles}
use Rattle.seg_segment.proofs.Exports.{all_touched, keeps_untouched}
use Rattle.seg_open.specs.OpenSegment.{OpenSegment}
use Rattle.seg_open.proofs.Exports.{segments_stay}
use Rattle.seg_batches.specs.AliveFiles.{alive_step}
use Rattle.seg_batches.specs.BatchWriteSteps.{batch_causes, batches_steps}
use Rattle.seg_batches.specs.WrittenSegments.{WrittenSegment, alive_file, alive_files, all_listed, deletes_of, six_files}
use Rattle.seg_index_build.specs.DirectoryCalls.{BeginsIndexes, BuildsIndexes, FillsWork, WritesIndexes, lists_none, merge_of}
use Rattle.seg_index_build.specs.IndexFiles.{work_ids, work_listed, work_segments}
use Rattle.seg_index_build.specs.MergedSegments.{FillsOutput, MergeInput, MergesLive, fills, first_schema, live_asked, mixes, starves}
use Rattle.seg_index_build.specs.OtherFiles.{KeepsOthers, Stays, merged_files, output_files, work_files}
use Rattle.seg_index_build.specs.TwoDirectories.{Directories, goes_on, stops}
use Rattle.seg_index_build.specs.IndexWriteSteps.{begin_steps}
use Rattle.seg_index_build.specs.WorkIndexSteps.{WritesSegments, after_batches, finish_steps, in_batches, listing_meta}
use Rattle.seg_index_build.proofs.FilledIndex.{filled_unrefused}
use Rattle.seg_index_build.proofs.WritingPlaces.{many}

-- ---- what steps keep

module _ (names : List FileName) where
  pub same_keeps : (a b : DirectoryState) → b ≡ a → KeepsAllBut names a.files b.files
  same_keeps a b same other all = ap (λ (s : DirectoryState). get s.files other) same

  pub then_keeps : (a b c : NamedFiles) → KeepsAllBut names a b → KeepsAllBut names b c → KeepsAllBut names a c
  then_keeps a b c first next other all = next other all ∙ first other all

  files_keep : (a b : NamedFiles) → b ≡ a → KeepsAllBut names a b
  files_keep a b same other all = ap (λ (files : NamedFiles). get files other) same

-- ---- the merge

module _ (m : MergeInput) where
  abbrev made : List FileName
  made = merged_files m.id

  pub begin_keeps : {T : Type 0} (r : Result T TantivyError) (a b : DirectoryState)
      → Works (begin_steps m.settings (first_schema m.segments)) r a b → KeepsAllBut made a.files b.files
  begin_keeps r a b works other all = keeps_untouched works other (all.0, tt)

  pub fill_keeps : {T : Type 0} (opened : List OpenSegment) (r : Result T TantivyError) (a b : DirectoryState)
      → FillsOutput m opened r a b → KeepsAllBut made a.files b.files
  fill_keeps opened r a b (starves is same) = same_keeps made a b same
  fill_keeps opened r a b (mixes is none same) = same_keeps made a b same
  fill_keeps opened r a b (fills files joins works) = λ other all.
      keeps_untouched works other
      (all_both (λ name. other ≢ name) (segment_names m.id) (Meta ∷ []) all.1 (all.0, tt))

  pub merges_keep : {T : Type 0} (r : Result T TantivyError) (a b : Directories) → MergesLive m r a b
      → KeepsAllBut made a.output.files b.output.files
  merges_keep r a b (stops e is h) =
      let failing : Result (Unit {0}) TantivyError = Err e in begin_keeps failing a.output b.output h.0
  merges_keep r a b (goes_on u n h (stops e is k)) =
      let done : Result (Unit {0}) TantivyError = Ok u in
      then_keeps made a.output.files n.output.files b.output.files (begin_keeps done a.output n.output h.0)
      (same_keeps made n.output b.output k.1)
  merges_keep r a b (goes_on u n h (goes_on opened p k (stops e is l))) =
      let done : Result (Unit {0}) TantivyError = Ok u in
      then_keeps made a.output.files n.output.files b.output.files (begin_keeps done a.output n.output h.0)
      (same_keeps made n.output b.output (ap (λ (d : Directories). d.output) l.1 ∙ k.1))
  merges_keep r a b (goes_on u n h (goes_on opened p k (goes_on v q l last))) =
      let done : Result (Unit {0}) TantivyError = Ok u in
      then_keeps made a.output.files n.output.files b.output.files (begin_keeps done a.output n.output h.0)
      (then_keeps made n.output.files q.output.files b.output.files
      (same_keeps made n.output q.output (ap (λ (d : Directories). d.output) l.1 ∙ k.1))
      (fill_keeps opened r q.output b.output last.0))

  pub merges_stay : {T : Type 0} (r : Result T TantivyError) (a b : Directories) → MergesLive m r a b
      → b.work.files ≡ a.work.files
  merges_stay r a b (stops e is h) = ap (λ (s : DirectoryState). s.files) h.1
  merges_stay r a b (goes_on u n h (stops e is k)) =
      (segments_stay (live_asked m.segments m.filters) n.work b.work (Err e) k.0).files
      ∙ ap (λ (s : DirectoryState). s.files) h.1
  merges_stay r a b (goes_on u n h (goes_on opened p k (stops e is l))) =
      ap (λ (d : Directories). d.work.files) l.1
      ∙ (segments_stay (live_asked m.segments m.filters) n.work p.work (Ok opened) k.0).files
      ∙ ap (λ (s : DirectoryState). s.files) h.1
  merges_stay r a b (goes_on u n h (goes_on opened p k (goes_on v q l last))) =
      ap (λ (s : DirectoryState). s.files) last.1
      ∙ ap (λ (d : Directories). d.work.files) l.1
      ∙ (segments_stay (live_asked m.segments m.filters) n.work p.work (Ok opened) k.0).files
      ∙ ap (λ (s : DirectoryState). s.files) h.1

-- ---- the work index

module _ (P : FileName → Type 0) where
  batches_within : (ids : List ℕ) (causes : List (Option TantivyError)) (files : List SegmentFiles)
      → AllByRecursion P (six_files ids) → AllByRecursion P (all_touched (batches_steps ids causes files))
  batches_within [] causes files h = tt
  batches_within (id ∷ ids) [] files h = tt
  batches_within (id ∷ ids) (cause ∷ causes) [] h = tt
  batches_within (id ∷ ids) (cause ∷ causes) (f ∷ files) h =
      all_both P (segment_names id) (all_touched (batches_steps ids causes files))
      (all_front P (segment_names id) (six_files ids) h)
      (batches_within ids causes files (all_back P (segment_names id) (six_files ids) h))

  step_within : (id : ℕ) (d : Option Deletes) (bytes : List ℕ) (more : List Step) → AllByRecursion P (alive_file id d)
      → AllByRecursion P (all_touched more) → AllByRecursion P (all_touched (alive_step id d bytes ++ more))
  step_within id None bytes more h k = k
  step_within id (Some d) bytes more h k = (h.0, k)

  finish_within : (meta : index.Meta) (stamp : ℕ) (alive : List (List ℕ)) (segments : List WrittenSegment) → P Meta
      → AllByRecursion P (alive_files (all_listed stamp segments))
      → AllByRecursion P (all_touched (finish_steps meta stamp alive segments))
  finish_within meta stamp [] [] of_meta h = (of_meta, tt)
  finish_within meta stamp [] (s ∷ segments) of_meta h = tt
  finish_within meta stamp (bytes ∷ alive) [] of_meta h = tt
  finish_within meta stamp (bytes ∷ alive) (s ∷ segments) of_meta h =
      let d = deletes_of stamp s.alive in
      let others = alive_files (all_listed stamp segments) in
      step_within s.id d bytes (finish_steps meta stamp alive segments) (all_front P (alive_file s.id d) others h)
      (finish_within meta stamp alive segments of_meta (all_back P (alive_file s.id d) others h))

-- ---- listings

listing_same : {T : Type 0} {r : Result T TantivyError} {a b : DirectoryState} → Works lists_none r a b → b.files ≡ a.files
listing_same {a = a} {b = b} works =
    same_map name_cmp_total name_cmp_exact b.files a.files (λ name. keeps_untouched works name tt)

listing_keeps : {T : Type 0} (r : Result T TantivyError) (a m b : DirectoryState) → m ≡ a → IsTrue a.disk.told
    → Works lists_none r m b → KeepsDisk a.disk b.disk
listing_keeps r a m b same told works =
    keeps_disk lists_none r (tt, tt) told (subst (λ (s : DirectoryState). Works lists_none r s b) same works)

pub stays : (s : DirectoryState) → Stays s s
stays s = record { files = refl; disk = λ told. turns_none {P = λ (d : FileDisk). d ≡ s.disk.now} {a = s} refl refl }

-- ---- both indexes

module _ (analyzer : Analyzer) (input : Input) where
  abbrev made_in_work : List FileName
  made_in_work = work_files analyzer input

  segments_keep : {T : Type 0} (r : Result T TantivyError) (a b : DirectoryState)
      → WritesSegments input.settings input.schema analyzer (work_ids input.ids) input.cuts input.operations r a b
      → KeepsAllBut made_in_work a.files b.files
  segments_keep r a b w other all =
      keeps_untouched w.works other
      (batches_within (λ name. other ≢ name) (work_ids input.ids)
      (batch_causes None input.schema analyzer input.cuts input.operations) w.files
      (all_front (λ name. other ≢ name) (six_files (work_ids input.ids)) (alive_files (work_listed analyzer input)) all.1))

  filled_keep : {T : Type 0} (r : Result T TantivyError) (a c : DirectoryState) → FillsWork analyzer input r a c
      → KeepsAllBut made_in_work a.files c.files
  filled_keep r a c (in_batches e is w) =
      let failing : Result (Unit {0}) TantivyError = Err e in segments_keep failing a c w
  filled_keep r a c (after_batches b w f) =
      let done : Result (Unit {0}) TantivyError = Ok tt in
      then_keeps made_in_work a.files b.files c.files (segments_keep done a b w)
      (λ other all. keeps_untouched f.works other
      (finish_within (λ name. other ≢ name)
      (listing_meta input.settings input.schema (length input.operations) (work_segments analyzer input))
      (length input.operations) f.alive (work_segments analyzer input) all.0
      (all_back (λ name. other ≢ name) (six_files (work_ids input.ids)) (alive_files (work_listed analyzer input)) all.1)))

  -- the output is listed alone
  begins_same : {T : Type 0} (r : Result T TantivyError) (a b : Directories)
      → BeginsIndexes input.settings input.schema r a b → b.output.files ≡ a.output.files
  begins_same r a b (stops e is h) = ap (λ (s : DirectoryState). s.files) h.1
  begins_same r a b (goes_on u m h (stops e is k)) = listing_same k.0 ∙ ap (λ (s : DirectoryState). s.files) h.1
  begins_same r a b (goes_on u m h (goes_on v n k l)) =
      ap (λ (s : DirectoryState). s.files) l.1 ∙ listing_same k.0 ∙ ap (λ (s : DirectoryState). s.files) h.1

  begins_disk : {T : Type 0} (r : Result T TantivyError) (a b : Directories)
      → BeginsIndexes input.settings input.schema r a b → IsTrue a.output.disk.told → KeepsDisk a.output.disk b.output.disk
  begins_disk r a b (stops e is h) told = turns_none {P = λ (d : FileDisk). d ≡ a.output.disk.now} h.1 refl
  begins_disk r a b (goes_on u m h (stops e is k)) told =
      let failing : Result (Unit {0}) TantivyError = Err e in
      listing_keeps failing a.output m.output b.output h.1 told k.0
  begins_disk r a b (goes_on u m h (goes_on v n k l)) told =
      let done : Result (Unit {0}) TantivyError = Ok v in
      subst (λ (s : DirectoryState). KeepsDisk a.output.disk s.disk) (sym l.1)
      (listing_keeps done a.output m.output n.output h.1 told k.0)

  begins_stay : {T : Type 0} (r : Result T TantivyError) (a b : Directories)
      → BeginsIndexes input.settings input.schema r a b → Stays a.output b.output
  begins_stay r a b begins = record { files = begins_same r a b begins; disk = begins_disk r a b begins }

  begins_keep : {T : Type 0} (r : Result T TantivyError) (a b : Directories)
      → BeginsIndexes input.settings input.schema r a b → KeepsAllBut made_in_work a.work.files b.work.files
  begins_keep r a b (stops e is h) = files_keep made_in_work a.work.files b.work.files (listing_same h.0)
  begins_keep r a b (goes_on u m h (stops e is k)) =
      files_keep made_in_work a.work.files b.work.files (ap (λ (s : DirectoryState). s.files) k.1 ∙ listing_same h.0)
  begins_keep r a b (goes_on u m h (goes_on v n k l)) =
      then_keeps made_in_work a.work.files n.work.files b.work.files
      (files_keep made_in_work a.work.files n.work.files (ap (λ (s : DirectoryState). s.files) k.1 ∙ listing_same h.0))
      (λ other all. keeps_untouched l.0 other (all.0, tt))

  writes_keep : {T : Type 0} (r : Result T TantivyError) (a b : Directories) → WritesIndexes analyzer input r a b
      → KeepsOthers analyzer input a b
  writes_keep r a b (stops e is h) =
      let failing : Result (Unit {0}) TantivyError = Err e in
      record {
        work = begins_keep failing a b h;
        output = files_keep (output_files input) a.output.files b.output.files (begins_same failing a b h);
      }
  writes_keep r a b (goes_on u m h (stops e is k)) =
      let done : Result (Unit {0}) TantivyError = Ok u in
      let failing : Result (Unit {0}) TantivyError = Err e in
      record {
        work = then_keeps made_in_work a.work.files m.work.files b.work.files (begins_keep done a m h)
            (filled_keep failing m.work b.work k.0);
        output = files_keep (output_files input) a.output.files b.output.files
            (ap (λ (s : DirectoryState). s.files) k.1 ∙ begins_same done a m h);
      }
  writes_keep r a b (goes_on u m h (goes_on v n k merges)) =
      let done : Result (Unit {0}) TantivyError = Ok u in
      let filled : Result (Unit {0}) TantivyError = Ok v in
      let m_input = merge_of analyzer input in
      record {
        work = then_keeps made_in_work a.work.files m.work.files b.work.files (begins_keep done a m h)
            (then_keeps made_in_work m.work.files n.work.files b.work.files (filled_keep filled m.work n.work k.0)
            (files_keep made_in_work n.work.files b.work.files (merges_stay m_input r n b merges)));
        output = then_keeps (output_files input) a.output.files n.output.files b.output.files
            (files_keep (output_files input) a.output.files n.output.files
            (ap (λ (s : DirectoryState). s.files) k.1 ∙ begins_same done a m h))
            (merges_keep m_input r n b merges);
      }

  -- all other files stay
  pub others_kept : {T : Type 0} (known : Known) (r : Result T TantivyError) (a b : Directories)
      → BuildsIndexes known analyzer input r a b → KeepsOthers analyzer input a b
  others_kept known r a b (stops e is h) = record {
    work = same_keeps made_in_work a.work b.work (ap (λ (d : Directories). d.work) h.1);
    output = same_keeps (output_files input) a.output b.output (ap (λ (d : Directories). d.output) h.1);
  }
  others_kept known r a b (goes_on u m h writes) =
      subst (λ (d : Directories). KeepsOthers analyzer input d b) h.1 (writes_keep r m b writes)

  pub work_kept : {T : Type 0} (r : Result T TantivyError) (a b : Directories) → WritesIndexes analyzer input r a b
      → KeepsAllBut (work_files analyzer input) a.work.files b.work.files
  work_kept r a b writes = (writes_keep r a b writes).work

  -- where a batch is refused, the output is as it was
  pub refused_leaves : Fits analyzer input → (T : Type 0) (e : TantivyError) (a b : Directories)
      → WritesIndexes {T = T} analyzer input (Err e) a b
      → IfSome (batches_error input.schema analyzer 0 input.cuts input.operations) (λ _. Stays a.output b.output)
  refused_leaves fits T e a b writes = by (batches_error input.schema analyzer 0 input.cuts input.operations) (λ x is. stay x is writes)
    where
      stay : (x : TantivyError) → batches_error input.schema analyzer 0 input.cuts input.operations ≡ Some x
          → WritesIndexes {T = T} analyzer input (Err e) a b → Stays a.output b.output
      stay x is (stops d at h) = let failing : Result (Unit {0}) TantivyError = Err d in begins_stay failing a b h
      stay x is (goes_on u m h (stops d at k)) =
          let done : Result (Unit {0}) TantivyError = Ok u in
          subst (λ (s : DirectoryState). Stays a.output s) (sym k.1) (begins_stay done a m h)
      stay x is (goes_on u m h (goes_on v n k merges)) =
          absurd (cc (sym is ∙ filled_unrefused input.settings input.schema analyzer (work_ids input.ids) input.cuts input.operations
          (many analyzer input fits) v m.work n.work k.0))

      by : (o : Option TantivyError) → ((x : TantivyError) → o ≡ Some x → Stays a.output b.output)
          → IfSome o (λ _. Stays a.output b.output)
      by None h = tt
      by (Some x) h = h x refl
