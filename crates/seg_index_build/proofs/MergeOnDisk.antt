-- What a crash may leave of the output of a merge.
use Rattle.std.proofs.Common.{◌≡◌, ◌<◌, ◌^◌, ◌∙◌, ◌⊎◌, inl, inr, ℕ, List, [], ◌∷◌, IsTrue, Option, None, Some, Result, Ok, Err, refl, sym, ap, subst}
use Rattle.std.specs.Prelude.{IsSomeAnd, OnOk}
use Rattle.std.specs.FinMap.{empty, get, insert, get-empty, get-insert}
use Rattle.std.specs.Option.{option_and_then}
use Rattle.seg_common.specs.FileNameKeys.{name_cmp, name_cmp_total}
use Rattle.seg_common.specs.declared.name.FileName.TheVariants.{Meta}
use Rattle.seg_values.specs.declared.error.TantivyError.{TantivyError}
use Rattle.seg_directory.proofs.Exports.{Parts, all_went, holds_name, in_first, in_next, in_parts, keeps_others, leaves_only, passes_weaker, published_on_disk, publishes_on_disk, settled_files_are_the_only_image, started, turns_none, turns_on}
use Rattle.seg_directory.specs.Disk.{IsImage}
use Rattle.seg_directory.specs.DiskChanges.{Turns}
use Rattle.seg_directory.specs.StepSequences.{GoesOn}
use Rattle.seg_directory.specs.FileDisks.{FileDisk, settled}
use Rattle.seg_directory.specs.Files.{NamedFiles}
use Rattle.seg_directory.specs.DirectoryStates.{DirectoryState, HasOnly, IsEmptyDisk, LeavesOnly}
use Rattle.seg_directory.specs.DirectorySteps.{StepBreaks, StepGoes, Works}
use Rattle.seg_values.specs.declared.error.TantivyError.TheVariants.{OutOfMemory}
use Rattle.seg_meta.specs.MetaBounds.{AreReadBack}
use Rattle.seg_meta.specs.IndexOfFiles as index
use Rattle.seg_meta.specs.MetaText.{meta_text}
use Rattle.seg_meta.specs.ParsedMeta.{meta_read}
use Rattle.seg_meta.specs.SavableMetas.{empty_meta}
use Rattle.seg_model.specs.Fields.{Schema}
use Rattle.seg_model.specs.Input.{Settings}
use Rattle.seg_segment.specs.IndexForms.{segment_forms}
use Rattle.seg_segment.specs.SegmentFiles.{HasFiles, KeepsAllBut, write_steps}
use Rattle.seg_segment.specs.TokenTotals.{TellTotals}
use Rattle.seg_segment.specs.declared.segment_files.SegmentFiles.{SegmentFiles}
use Rattle.seg_segment.proofs.Exports.{are_made, failing}
use Rattle.seg_open.specs.OpenSegment.{OpenSegment, kept_count}
use Rattle.seg_merger.specs.JoinedTotals.{joined_total}
use Rattle.seg_merger.specs.Merger.{AreJoinedFiles}
use Rattle.seg_index_build.specs.FilesAfterCrash.{AreMergeBy, AreMergeOf, MayBeMerged, MayBeMergedBy}
use Rattle.seg_index_build.specs.MergeAnswers.{AllHaveHeld}
use Rattle.seg_index_build.specs.MergedSegments.{FillsOutput, MergeInput, MergesLive, fills, first_schema, live_asked, mixes, output_meta_of, starves}
use Rattle.seg_index_build.specs.TwoDirectories.{Directories, goes_on, stops}
use Rattle.seg_index_build.specs.IndexWriteSteps.{begin_steps, publish_steps}
use Rattle.seg_index_build.proofs.ToldDirectories.{tells-still}
use Rattle.seg_index_build.proofs.MergeErrors.{few_passed}
use Rattle.seg_index_build.proofs.MergeContents.{opened_held}
use Rattle.seg_index_build.proofs.MergeTurns.{Opens}
use Rattle.seg_index_build.proofs.MetaRoundTrips.{empty_back, merged_back}
use Rattle.seg_index_build.proofs.OutputSteps.{read-files-kept}

-- ---- an index is begun

module _ (settings : Settings) (schema : Schema) where
  -- the meta isn't there, or is that of the empty index
  abbrev pub IsBegun : Option (List ℕ) → Type 0
  IsBegun state = (state ≡ None) ⊎ (state ≡ Some (meta_text (empty_meta settings schema)))

  -- so in each image
  abbrev pub OnlyBegun : FileDisk → Type 0
  OnlyBegun d = HasOnly (λ files. IsBegun (get files Meta)) d

  pub empty_begun : (d : FileDisk) → d ≡ settled empty → OnlyBegun d
  empty_begun d is files image =
      inl
      (ap (λ (f : NamedFiles). get f Meta) (settled_files_are_the_only_image empty files (subst (λ (x : FileDisk). IsImage x files) is image))
      ∙ get-empty name_cmp Meta)

  pub begins_on_disk : {T : Type 0} (r : Result T TantivyError) {a b : DirectoryState} → IsTrue a.disk.told → OnlyBegun a.disk.now
      → Works (begin_steps settings schema) r a b → Turns OnlyBegun OnlyBegun a.disk b.disk
  begins_on_disk r told holds works = holds_name Meta IsBegun (begin_steps settings schema) r (tt, (tt, (inr (inr refl), tt))) told holds works

  -- a directory whose disk is told tells its files
  tells_of : {T : Type 0} (x : T) (a b : DirectoryState) → IsTrue a.disk.told
      → GoesOn StepGoes StepBreaks OutOfMemory (begin_steps settings schema) (Ok x) a b → IsTrue a.tells
  tells_of x a b told (inl (w, goes, rest)) = tells-still _ _ (sym goes.tells) (goes.reads told).tells
  tells_of x a b told (inr no_error) = absurd no_error

  pub begun_tells : {T : Type 0} (x : T) {a b : DirectoryState} → IsTrue a.disk.told → Works (begin_steps settings schema) (Ok x) a b → IsTrue b.tells
  begun_tells x {a = a} {b = b} told works = tells-still _ _ (all_went works).tells (tells_of x a b told works.on)

  -- it opens as no index, or as the empty one
  pub opens_begun : AreReadBack settings schema → (IsWhole : NamedFiles → Type 0) (files : NamedFiles) → IsBegun (get files Meta)
      → index.OpensAs segment_forms files settings schema (IsWhole files)
  opens_begun reads IsWhole files (inl none) = inl none
  opens_begun reads IsWhole files (inr is) = inr (inl (record {
    index = empty_meta settings schema;
    read = ap (option_and_then meta_read) is ∙ empty_back settings schema reads;
    settings_given = refl;
    schema_given = refl;
    listed = refl;
  }))

-- ---- it is filled

module _ (m : MergeInput) (HaveHeld : List OpenSegment → Type 0) (reads : AreReadBack m.settings (first_schema m.segments)) (id_fits : m.id < 2 ^ 128) where
  abbrev pub Begun : FileDisk → Type 0
  Begun d = OnlyBegun m.settings (first_schema m.segments) d

  abbrev pub May : FileDisk → Type 0
  May d = HasOnly (λ files. MayBeMergedBy m HaveHeld files) d

  begun_may : (d : FileDisk) → Begun d → May d
  begun_may d begun files image = opens_begun m.settings (first_schema m.segments) reads (AreMergeBy m HaveHeld) files (begun files image)

  pub begun_turns : (a b : DirectoryState) → Turns Begun Begun a.disk b.disk → Turns May May a.disk b.disk
  begun_turns a b turns = record { during = passes_weaker begun_may turns.during; after = λ told. begun_may b.disk.now (turns.after told) }

  module _ (opened : List OpenSegment) (held : HaveHeld opened) (few : kept_count opened < 2 ^ 31)
      (files : SegmentFiles) (joins : AreJoinedFiles (first_schema m.segments) m.settings.block_size opened files) where
    abbrev meta : index.Meta
    meta = output_meta_of m (kept_count opened)

    -- the six files and the new meta are the merge
    saved_whole : (v : DirectoryState) → HasFiles v.files m.id files → AreMergeBy m HaveHeld (insert v.files Meta (meta_text meta))
    saved_whole v there =
        let kept : KeepsAllBut (Meta ∷ []) v.files (insert v.files Meta (meta_text meta)) =
        λ other apart. keeps_others v.files Meta (meta_text meta) other apart.0 in
        let now : HasFiles (insert v.files Meta (meta_text meta)) m.id files = read-files-kept {T = Unit {0}} (Ok tt) m.id files _ _ kept there in (
          meta,
          record {
            opened = opened;
            held = held;
            counted = refl;
            index_of = λ told.
                ap (option_and_then meta_read) (get-insert name_cmp_total v.files Meta (meta_text meta) Meta)
                ∙ merged_back m.settings (first_schema m.segments) reads _ m.id (kept_count opened) id_fits few;
            contents = joins.contents;
            joins = joins.joined;
            holds = λ told. record { files = files; there = now; spelled = joins.spell };
            totals = λ told.
                subst (λ (file : Option (List ℕ)). IsSomeAnd file (TellTotals (first_schema m.segments) (joined_total opened))) (sym now.1.1.0) joins.totals;
          },
        )

    published_may : (v : DirectoryState) → HasFiles v.files m.id files → (d : FileDisk)
        → HasOnly (λ (f : NamedFiles). IsBegun m.settings (first_schema m.segments) (get f Meta) ⊎ (f ≡ insert v.files Meta (meta_text meta))) d → May d
    published_may v there d only f image = by (only f image)
      where
        by : IsBegun m.settings (first_schema m.segments) (get f Meta) ⊎ (f ≡ insert v.files Meta (meta_text meta)) → MayBeMergedBy m HaveHeld f
        by (inl begun) = opens_begun m.settings (first_schema m.segments) reads (AreMergeBy m HaveHeld) f begun
        by (inr same) = inr (inr (subst (AreMergeBy m HaveHeld) (sym same) (saved_whole v there)))

    writes_on_disk : {T : Type 0} (r : Result T TantivyError) {a b : DirectoryState} → IsTrue a.disk.told → Begun a.disk.now → Works (write_steps m.id files) r a b
        → Turns Begun Begun a.disk b.disk
    writes_on_disk r told holds works =
        holds_name Meta (IsBegun m.settings (first_schema m.segments)) (write_steps m.id files) r
        ((λ e. cc e), ((λ e. cc e), ((λ e. cc e), ((λ e. cc e), ((λ e. cc e), ((λ e. cc e), tt)))))) told holds works

    filling : {T : Type 0} (r : Result T TantivyError) (a b : DirectoryState) → IsTrue a.disk.told → IsTrue a.tells → Begun a.disk.now
        → Parts (write_steps m.id files) (publish_steps meta) r a b → Turns May May a.disk b.disk
    filling {T} r a b told tells holds (in_first e is works) = begun_turns a b (writes_on_disk {T = T} (Err e) told holds works)
    filling r a b told tells holds (in_next v first next) =
        let writes = writes_on_disk (Ok tt) told holds first in
        let told_then : IsTrue v.disk.told = subst (λ t. IsTrue t) (sym writes.during.told) told in
        let there = are_made m.id files (Ok tt) tells first in
        let publishes = publishes_on_disk (λ (f : NamedFiles). IsBegun m.settings (first_schema m.segments) (get f Meta)) Meta (meta_text meta) v told_then (writes.after told) r b next in
        turns_on told (begun_turns a v writes) (λ _ _. record {
          during = passes_weaker (published_may v there) publishes.during;
          after = λ t. published_may v there b.disk.now (publishes.after t);
        })

    filled_whole : {T : Type 0} (x : T) (a b : DirectoryState) → IsTrue a.disk.told → IsTrue a.tells → Begun a.disk.now
        → Parts (write_steps m.id files) (publish_steps meta) (Ok x) a b → HasOnly (AreMergeBy m HaveHeld) b.disk.now
    filled_whole x a b told tells holds (in_first e is works) = absurd (cc is)
    filled_whole x a b told tells holds (in_next v first next) =
        let there = are_made m.id files (Ok tt) tells first in
        let writes = writes_on_disk (Ok tt) told holds first in
        let told_then : IsTrue v.disk.told = subst (λ t. IsTrue t) (sym writes.during.told) told in
        let is = published_on_disk Meta (meta_text meta) (Ok x) told_then next in
        λ f image. subst (AreMergeBy m HaveHeld)
        (sym (settled_files_are_the_only_image (insert v.files Meta (meta_text meta)) f (subst (λ (d : FileDisk). IsImage d f) is image)))
        (saved_whole v there)

  -- the output is filled, or not
  pub fills_turns : {T : Type 0} (opened : List OpenSegment) → HaveHeld opened → kept_count opened < 2 ^ 31
      → (r : Result T TantivyError) (a b : DirectoryState) → IsTrue a.disk.told → IsTrue a.tells → Begun a.disk.now
      → FillsOutput m opened r a b → Turns May May a.disk b.disk
  fills_turns opened held few r a b told tells holds (starves is same) = begun_turns a b (turns_none same holds)
  fills_turns opened held few r a b told tells holds (mixes is none same) = begun_turns a b (turns_none same holds)
  fills_turns opened held few r a b told tells holds (fills files joins works) =
      filling opened held few files joins r a b told tells holds (in_parts (write_steps m.id files) (publish_steps (output_meta_of m (kept_count opened))) r works)

  pub fills_whole : {T : Type 0} (opened : List OpenSegment) → HaveHeld opened → kept_count opened < 2 ^ 31
      → (x : T) (a b : DirectoryState) → IsTrue a.disk.told → IsTrue a.tells → Begun a.disk.now → FillsOutput m opened (Ok x) a b → HasOnly (AreMergeBy m HaveHeld) b.disk.now
  fills_whole opened held few x a b told tells holds (starves is same) = absurd (cc is)
  fills_whole opened held few x a b told tells holds (mixes is none same) = absurd (cc is)
  fills_whole opened held few x a b told tells holds (fills files joins works) =
      filled_whole opened held few files joins x a b told tells holds (in_parts (write_steps m.id files) (publish_steps (output_meta_of m (kept_count opened))) (Ok x) works)

-- ---- all turns

module _ (m : MergeInput) (reads : AreReadBack m.settings (first_schema m.segments)) (id_fits : m.id < 2 ^ 128) (a : Directories)
    (told : IsTrue a.work.tells) (clean : IsEmptyDisk a.output.disk) where
  abbrev HeldThere : List OpenSegment → Type 0
  HeldThere opened = AllHaveHeld a.work.files (live_asked m.segments m.filters) opened

  abbrev MayTurn : DirectoryState → Type 0
  MayTurn s = Turns (May m HeldThere reads id_fits) (May m HeldThere reads id_fits) a.output.disk s.disk

  abbrev BegunTurn : DirectoryState → Type 0
  BegunTurn s = Turns (Begun m HeldThere reads id_fits) (Begun m HeldThere reads id_fits) a.output.disk s.disk

  at_first : Begun m HeldThere reads id_fits a.output.disk.now
  at_first = empty_begun m.settings (first_schema m.segments) a.output.disk.now clean.none

  begin : {T : Type 0} (r : Result T TantivyError) (n : DirectoryState) → Works (begin_steps m.settings (first_schema m.segments)) r a.output n → BegunTurn n
  begin r n works = begins_on_disk m.settings (first_schema m.segments) r clean.told at_first works

  may : (s : DirectoryState) → BegunTurn s → MayTurn s
  may s turn = begun_turns m HeldThere reads id_fits a.output s turn

  same_may : (s t : DirectoryState) → t ≡ s → MayTurn s → MayTurn t
  same_may s t same turn = subst MayTurn (sym same) turn

  held_of : (opened : List OpenSegment) (n p : Directories) → n.work ≡ a.work → Opens m (Ok opened) n.work p.work → HeldThere opened
  held_of opened n p same opens =
      subst (λ (s : DirectoryState). AllHaveHeld s.files (live_asked m.segments m.filters) opened) same
      (opened_held m opened n.work p.work (subst (λ (s : DirectoryState). IsTrue s.tells) (sym same) told) opens)

  -- a crash at any moment leaves no index, the empty one, or the merge
  pub merge_turns : {T : Type 0} (r : Result T TantivyError) (b : Directories) → MergesLive m r a b → MayTurn b.output
  merge_turns {T} r b (stops e is h) = may b.output (begin (failing (Unit {0}) e) b.output h.0)
  merge_turns r b (goes_on u n h (stops e is k)) = same_may n.output b.output k.1 (may n.output (begin (Ok u) n.output h.0))
  merge_turns r b (goes_on u n h (goes_on opened p k (stops e is l))) =
      same_may n.output b.output (ap (λ (d : Directories). d.output) l.1 ∙ k.1) (may n.output (begin (Ok u) n.output h.0))
  merge_turns r b (goes_on u n h (goes_on opened p k (goes_on v q l f))) =
      let first = begin (Ok u) n.output h.0 in
      let same : q.output ≡ n.output = ap (λ (d : Directories). d.output) l.1 ∙ k.1 in
      let last : FillsOutput m opened r n.output b.output = subst (λ (s : DirectoryState). FillsOutput m opened r s b.output) same f.0 in
      turns_on clean.told (may n.output first)
      (λ told_then holds.
      fills_turns m HeldThere reads id_fits opened (held_of opened n p h.1 k.0) (few_passed (kept_count opened) l.0) r n.output b.output told_then
      (begun_tells m.settings (first_schema m.segments) u clean.told h.0) (first.after clean.told) last)

  -- and at Ok the merge
  pub merge_rests : {T : Type 0} (x : T) (b : Directories) → MergesLive m (Ok x) a b → HasOnly (AreMergeOf m a.work.files) b.output.disk.now
  merge_rests x b (stops e is h) = absurd (cc is)
  merge_rests x b (goes_on u n h (stops e is k)) = absurd (cc is)
  merge_rests x b (goes_on u n h (goes_on opened p k (stops e is l))) = absurd (cc is)
  merge_rests x b (goes_on u n h (goes_on opened p k (goes_on v q l f))) =
      let first = begin (Ok u) n.output h.0 in
      let same : q.output ≡ n.output = ap (λ (d : Directories). d.output) l.1 ∙ k.1 in
      fills_whole m HeldThere reads id_fits opened (held_of opened n p h.1 k.0) (few_passed (kept_count opened) l.0) x n.output b.output
      (subst (λ t. IsTrue t) (sym first.during.told) clean.told)
      (begun_tells m.settings (first_schema m.segments) u clean.told h.0) (first.after clean.told)
      (subst (λ (s : DirectoryState). FillsOutput m opened (Ok x) s b.output) same f.0)

  -- the same by images
  pub merge_leaves : {T : Type 0} (r : Result T TantivyError) (b : Directories) → MergesLive m r a b
      → LeavesOnly (MayBeMerged m a.work.files) a.output.disk b.output.disk
  merge_leaves r b merges =
      let turns = merge_turns r b merges in
      leaves_only (MayBeMerged m a.work.files) a.output.disk b.output.disk turns.during (turns.after clean.told)

  pub merge_rests_so : {T : Type 0} (r : Result T TantivyError) (b : Directories) → MergesLive m r a b
      → OnOk r (HasOnly (AreMergeOf m a.work.files) b.output.disk.now)
  merge_rests_so (Ok x) b merges = merge_rests x b merges
  merge_rests_so (Err e) b merges = tt

-- nothing was done
pub nothing_leaves : (m : MergeInput) (HaveHeld : List OpenSegment → Type 0) (o : DirectoryState) → IsEmptyDisk o.disk
    → LeavesOnly (MayBeMergedBy m HaveHeld) o.disk o.disk
nothing_leaves m HaveHeld o clean =
    leaves_only (MayBeMergedBy m HaveHeld) o.disk o.disk (started o.disk)
    (λ files image. inl
    (ap (λ (f : NamedFiles). get f Meta) (settled_files_are_the_only_image empty files (subst (λ (x : FileDisk). IsImage x files) clean.none image))
    ∙ get-empty name_cmp Meta))

-- segments that are refused
pub refused_leaves : (m : MergeInput) (a : Directories) → IsEmptyDisk a.output.disk
    → LeavesOnly (MayBeMerged m a.work.files) a.output.disk a.output.disk
refused_leaves m a clean =
    nothing_leaves m (λ opened. AllHaveHeld a.work.files (live_asked m.segments m.filters) opened) a.output clean
