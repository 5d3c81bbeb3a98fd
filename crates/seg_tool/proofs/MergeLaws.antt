-- What the merge of an index never ends with, and where it ends well.
use Rattle.std.proofs.Common.{◌≡◌, ◌≢◌, ◌≤◌, ◌<◌, ◌^◌, ◌∙◌, ℕ, true, List, [], ◌∷◌, map, None, Some, Ok, Err, IsTrue, refl, sym, ap, subst, inl, inr, codes, arith}
use Rattle.std.specs.Prelude.{◌⊎◌, is_some}
use Rattle.std.specs.FinMap.{len}
use Rattle.std.specs.List.{AllByRecursion}
use Rattle.std.proofs.lemmas.Option.{same_Some}
use Rattle.seg_index_build.specs.MergedIndices.{listed_segments}
use Rattle.seg_common.specs.FaultCounts.{Rose}
use Rattle.seg_values.specs.declared.error.TantivyError.{TantivyError}
use Rattle.seg_values.specs.declared.error.ArgumentCause.{ArgumentCause}
use Rattle.seg_values.specs.declared.error.ArgumentCause.TheVariants.{Documents, Numbers}
use Rattle.seg_values.specs.declared.error.TantivyError.TheVariants.{SchemaError, InvalidArgument, IndexAlreadyExists, OpenReadError, OpenWriteError, IoError, DataCorruption, SystemError, FieldNotFound, OutOfMemory}
use Rattle.seg_directory.specs.Files.{NamedFiles}
use Rattle.seg_directory.specs.DirectoryStates.{DirectoryState}
use Rattle.seg_meta.specs.IndexOfFiles as index
use Rattle.seg_meta.specs.IndexOfFiles.{ListedSegment, Meta}
use Rattle.seg_meta.specs.MetaSteps.{LoadsMetas}
use Rattle.seg_meta.specs.Metas.{SegmentParts, segment_of}
use Rattle.seg_meta.specs.MetaMeaning.{meta_of, settings_of}
use Rattle.seg_meta.specs.declared.index_meta.IndexMeta.{IndexMeta}
use Rattle.seg_model.specs.Fields.{Schema}
use Rattle.seg_model.specs.Refusals.{IfRefusal}
use Rattle.seg_model.specs.ValidInputs.{settings_fit}
use Rattle.seg_segment.specs.IndexForms.{segment_forms}
use Rattle.seg_segment.specs.ReadErrors.{IsNoDamage, IsReadError}
use Rattle.seg_segment.proofs.Exports.{Unchanged, rose_before, failing, same_error}
use Rattle.seg_merger.specs.Merger.{all_fit}
use Rattle.seg_open.specs.OpenSegment.{OpenSegment}
use Rattle.seg_index_build.specs.MergeAnswers.{AllHaveHeld, CanBeMerged, IsMergeError, LiveAreWhole}
use Rattle.seg_index_build.specs.MergedSegments.{AreMerged, AreOfOne, IsRefusal, first_schema, is_live, joined, live_asked, live_documents}
use Rattle.seg_index_build.specs.TwoDirectories.{Directories, goes_on, stops}
use Rattle.seg_index_build.proofs.Exports.{read_unrefused}
use Rattle.seg_tool.specs.Job.{IsReady}
use Rattle.seg_tool.specs.Words.MergeJob.{HasMergeableIndex, HasWholeLiveSegments, MergesText, MergesWork, RefusesMerge, merge_of, merged_of}
use Rattle.seg_tool.specs.PrintedIndex.{PrintsIndex}
use Rattle.seg_tool.specs.Statuses.{status_of}
use Rattle.seg_tool.specs.declared.status.Status.TheVariants.{Memory}
use Rattle.seg_tool.specs.declared.words.Detail.TheVariants.{Brief}
use Rattle.seg_tool.proofs.BuildLaws.{read_exists}
use Rattle.seg_tool.proofs.IndexLaws.{load_index, load_rose, load_so, load_stays, load_undamaged, prints_rose, prints_so, prints_undamaged, tells_on}
use Rattle.seg_tool.proofs.JobSteps.{Merges, merges_listed}
use Rattle.seg_tool.proofs.MergedText.{first_of}
use Rattle.seg_tool.proofs.StatusLaws.{memory_left, memory_only}
use Rattle.seg_tool.proofs.Steady.{BothSteady, merges_steady}

-- ---- what is asked for

module _ (schema : Schema) where
  abbrev parts : List ListedSegment → List SegmentParts
  parts listed = map (segment_of schema) listed

  each_of : (listed : List ListedSegment) → AllByRecursion (λ (s : SegmentParts). s.schema ≡ schema) (parts listed)
  each_of [] = tt
  each_of (l ∷ listed) = (refl, each_of listed)

  are_of_one : (listed : List ListedSegment) → AreOfOne (parts listed)
  are_of_one [] = tt
  are_of_one (l ∷ listed) = (refl, each_of listed)

  some_parts : (listed : List ListedSegment) → listed ≢ [] → parts listed ≡ [] → ⊥
  some_parts [] some none = some refl
  some_parts (l ∷ listed) some none = cc none

  metas_back : (listed : List ListedSegment) → map (λ (s : SegmentParts). s.meta) (parts listed) ≡ listed
  metas_back [] = refl
  metas_back (l ∷ listed) = ap (λ (ls : List ListedSegment). l ∷ ls) (metas_back listed)

  live_whole : (files : NamedFiles) (listed : List ListedSegment)
      → AllByRecursion (λ (s : ListedSegment). is_live s ≡ true → index.IsWhole segment_forms files schema s) listed
      → LiveAreWhole files (parts listed)
  live_whole files [] whole = tt
  live_whole files (l ∷ listed) whole = (whole.0, live_whole files listed whole.1)

none_fit : (segments : List SegmentParts) → all_fit (map (λ _. None) segments) segments ≡ true
none_fit [] = refl
none_fit (s ∷ segments) = none_fit segments

-- nothing refuses the segments of an index
are_merged : (metas : IndexMeta) → metas.segments ≢ [] → settings_fit (settings_of metas.index_settings) ≡ true
    → AreMerged (merge_of metas)
are_merged metas some settings = record {
  some = some_parts metas.schema metas.segments some;
  of_one = are_of_one metas.schema metas.segments;
  fit = none_fit (listed_segments metas);
  settings = settings;
}

-- ---- where it stops

-- the index isn't read, or not merged, or what was made is not printed
data Exits (e : TantivyError) (a b : Directories) : Type 0 where
  at_loading : LoadsMetas (Err e) a.work b.work → Exits e a b
  at_merging : (metas : IndexMeta) (m : Directories) → LoadsMetas (Ok metas) a.work m.work → m.output ≡ a.output
      → Merges (merge_of metas) (Err e) m b → Exits e a b
  at_printing : (metas merged : IndexMeta) (m n : Directories) → LoadsMetas (Ok metas) a.work m.work → m.output ≡ a.output
      → Merges (merge_of metas) (Ok merged) m n → PrintsIndex [] (codes "output") Brief (Err e) n.output b.output → Exits e a b

module _ (e : TantivyError) (a b : Directories) where
  exit_as : (T : Type 0) (d : TantivyError) → failing T e ≡ failing T d → Exits d a b → Exits e a b
  exit_as T d is exit = subst (λ (x : TantivyError). Exits x a b) (sym (same_error T e d is)) exit

  in_work : (d : TantivyError) → MergesWork (Err d) a b → Exits d a b
  in_work d (stops c is l) =
      subst (λ (x : TantivyError). Exits x a b) (sym (same_error IndexMeta d c is)) (at_loading l.0)
  in_work d (goes_on metas m l k) = at_merging metas m l.0 l.1 (merges_listed metas (Err d) m b k)

  in_output : (merged : IndexMeta) (n : Directories) → MergesWork (Ok merged) a n
      → PrintsIndex [] (codes "output") Brief (Err e) n.output b.output → Exits e a b
  in_output merged n (stops c is l) prints = absurd (cc is)
  in_output merged n (goes_on metas m l k) prints =
      at_printing metas merged m n l.0 l.1 (merges_listed metas (Ok merged) m n k) prints

  exit_of : MergesText (Err e) a b → Exits e a b
  exit_of (stops d is w) = exit_as (List ℕ) d is (in_work d w)
  exit_of (goes_on merged n w p) = in_output merged n w p.0

-- ---- Memory is only for out of memory

module _ (a b : Directories) where
  exit_memory : (e : TantivyError) → Exits e a b → status_of e ≡ Memory → e ≡ OutOfMemory
  exit_memory e (at_loading l) = memory_only IsReadError (λ none. none) (λ none. none) e (load_so a.work b.work e l)
  exit_memory e (at_merging metas m l same k) =
      memory_only (IsMergeError (merge_of metas) m b) (λ none. none) (λ none. none) e k.errors
  exit_memory e (at_printing metas merged m n l same k prints) =
      memory_only IsReadError (λ none. none) (λ none. none) e
      (prints_so [] (codes "output") Brief n.output b.output e prints)

  pub merge_memory : (e : TantivyError) → MergesText (Err e) a b → status_of e ≡ Memory → e ≡ OutOfMemory
  merge_memory e h = exit_memory e (exit_of e a b h)

-- ---- why it refuses

module _ (a b : Directories) where
  why_of : (metas : IndexMeta) (cause : ArgumentCause)
      → IsRefusal (merge_of metas) (merge_of metas).segments (Some (InvalidArgument cause)) ⊎ ((cause ≡ Documents) ⊎ (cause ≡ Numbers))
      → IsRefusal (merge_of metas) (listed_segments metas) (Some (InvalidArgument cause))
      ⊎ ((InvalidArgument cause ≡ InvalidArgument Documents) ⊎ (InvalidArgument cause ≡ InvalidArgument Numbers))
  why_of metas cause (inl refusal) = inl refusal
  why_of metas cause (inr (inl is)) = inr (inl (ap InvalidArgument is))
  why_of metas cause (inr (inr is)) = inr (inr (ap InvalidArgument is))

  merging_refuses : (metas : IndexMeta) (m : Directories) → LoadsMetas (Ok metas) a.work m.work → (e : TantivyError)
      → IsMergeError (merge_of metas) m b e → IfRefusal (RefusesMerge a b) e
  merging_refuses metas m loads (InvalidArgument cause) h = record {
    metas = metas;
    is_index = λ told. load_index a.work m.work metas told loads;
    why = why_of metas cause h;
  }
  merging_refuses metas m loads (SchemaError cause) h = absurd h
  merging_refuses metas m loads IndexAlreadyExists h = tt
  merging_refuses metas m loads OpenReadError h = tt
  merging_refuses metas m loads OpenWriteError h = tt
  merging_refuses metas m loads IoError h = tt
  merging_refuses metas m loads (DataCorruption name) h = tt
  merging_refuses metas m loads SystemError h = tt
  merging_refuses metas m loads FieldNotFound h = tt
  merging_refuses metas m loads OutOfMemory h = tt

  exit_refuses : (e : TantivyError) → Exits e a b → IfRefusal (RefusesMerge a b) e
  exit_refuses e (at_loading l) = read_unrefused (RefusesMerge a b) e (load_so a.work b.work e l)
  exit_refuses e (at_merging metas m l same k) = merging_refuses metas m l e k.errors
  exit_refuses e (at_printing metas merged m n l same k prints) =
      read_unrefused (RefusesMerge a b) e (prints_so [] (codes "output") Brief n.output b.output e prints)

  pub merge_refuses : (e : TantivyError) → MergesText (Err e) a b → IfRefusal (RefusesMerge a b) e
  merge_refuses e h = exit_refuses e (exit_of e a b h)

-- ---- what is known on the way

module _ (a m : Directories) (same_output : m.output ≡ a.output) where
  told_still : IsTrue a.output.tells → IsTrue m.output.tells
  told_still told = subst (λ (s : DirectoryState). IsTrue s.tells) (sym same_output) told

  empty_still : len a.output.files ≡ 0 → len m.output.files ≡ 0
  empty_still none = subst (λ (s : DirectoryState). len s.files ≡ 0) (sym same_output) none

  module _ (metas merged : IndexMeta) (n : Directories) (k : Merges (merge_of metas) (Ok merged) m n) where
    steady : BothSteady m n
    steady = merges_steady (merge_of metas) (Ok merged) m n k.does

    told_merged : IsTrue a.output.tells → IsTrue n.output.tells
    told_merged told = subst (λ t. IsTrue t) (sym steady.output.tells) (told_still told)

    faults_grow : a.output.faults ≤ n.output.faults
    faults_grow =
        let same : m.output.faults ≡ a.output.faults = ap (λ (s : DirectoryState). s.faults) same_output in
        let later = steady.output.later in
        omega (arith, same, later)

-- what is read is the index that is there
module _ (a m : DirectoryState) (told : IsTrue a.tells) (has : HasWholeLiveSegments a.files) (metas : IndexMeta)
    (loads : LoadsMetas (Ok metas) a m) where
  same_files : Unchanged a m
  same_files = load_stays a m (Ok metas) loads

  told_loaded : IsTrue m.tells
  told_loaded = tells_on a m same_files told

  meta_is : has.meta ≡ meta_of metas
  meta_is = same_Some has.meta (meta_of metas) (sym has.is_index ∙ load_index a m metas told loads)

  loaded_whole : LiveAreWhole m.files (listed_segments metas)
  loaded_whole =
      subst (λ (files : NamedFiles). LiveAreWhole files (listed_segments metas)) (sym same_files.files)
      (live_whole metas.schema a.files metas.segments
      (subst (λ (x : Meta). AllByRecursion (λ (s : ListedSegment). is_live s ≡ true → index.IsWhole segment_forms a.files x.schema s) x.segments) meta_is has.whole))

-- ---- no file is found in an empty output directory

module _ (a b : Directories) (told : IsTrue a.output.tells) (none : len a.output.files ≡ 0) where
  exit_fresh : (e : TantivyError) → Exits e a b → e ≢ IndexAlreadyExists
  exit_fresh e (at_loading l) at = read_exists e (load_so a.work b.work e l) at
  exit_fresh e (at_merging metas m l same k) at =
      k.fresh (told_still a m same told) (empty_still a m same none) (ap (failing IndexMeta) at)
  exit_fresh e (at_printing metas merged m n l same k prints) at =
      read_exists e (prints_so [] (codes "output") Brief n.output b.output e prints) at

  pub merge_fresh : (e : TantivyError) → MergesText (Err e) a b → e ≢ IndexAlreadyExists
  merge_fresh e h = exit_fresh e (exit_of e a b h)

-- ---- no file is found damaged, where segments with a live document are whole

module _ (a b : Directories) (told : IsTrue a.work.tells) (told_out : IsTrue a.output.tells) (has : HasWholeLiveSegments a.work.files) where
  exit_undamaged : (e : TantivyError) → Exits e a b → IsNoDamage e
  exit_undamaged e (at_loading l) = load_undamaged a.work b.work e has.meta told has.is_index l
  exit_undamaged e (at_merging metas m l same k) =
      k.undamaged (told_loaded a.work m.work told has metas l) (loaded_whole a.work m.work told has metas l)
  exit_undamaged e (at_printing metas merged m n l same k prints) =
      let is = k.output_whole (told_still a m same told_out) in
      prints_undamaged [] (codes "output") Brief n.output b.output (meta_of merged) (told_merged a m same metas merged n k told_out)
      is.is_index e is.whole prints

  pub merge_undamaged : (e : TantivyError) → MergesText (Err e) a b → IsNoDamage e
  merge_undamaged e h = exit_undamaged e (exit_of e a b h)

-- ---- it ends well

module _ (a b : Directories) (can : HasMergeableIndex a.work b.work) (ready : IsReady a.output b.output) where
  loaded_merged : (metas : IndexMeta) (m : DirectoryState) → LoadsMetas (Ok metas) a.work m → AreMerged (merge_of metas)
  loaded_merged metas m loads =
      let is = meta_is a.work m can.tells can.has metas loads in
      are_merged metas (subst (λ (x : Meta). x.segments ≢ []) is can.some)
      (subst (λ (x : Meta). settings_fit x.settings ≡ true) is can.fit)

  loaded_few : (metas : IndexMeta) (m : DirectoryState) → LoadsMetas (Ok metas) a.work m
      → live_documents (map (λ (s : SegmentParts). s.meta) (listed_segments metas)) < 2 ^ 31
  loaded_few metas m loads =
      subst (λ (l : List ListedSegment). live_documents l < 2 ^ 31) (sym (metas_back metas.schema metas.segments))
      (subst (λ (x : Meta). live_documents x.segments < 2 ^ 31) (meta_is a.work m can.tells can.has metas loads) can.few)

  -- what is read of those that are merged joins
  loaded_joins : (metas : IndexMeta) (m : DirectoryState) → LoadsMetas (Ok metas) a.work m → (opened : List OpenSegment)
      → AllHaveHeld m.files (live_asked (merge_of metas).segments (merge_of metas).filters) opened
      → is_some (joined (first_schema (listed_segments metas)) opened) ≡ true
  loaded_joins metas m loads opened held =
      let is = meta_is a.work m can.tells can.has metas loads in
      let same = same_files a.work m can.tells can.has metas loads in
      ap (λ (schema : Schema). is_some (joined schema opened))
      (first_of metas (subst (λ (x : Meta). x.segments ≢ []) is can.some))
      ∙ subst (λ (x : Meta). (opened : List OpenSegment) → AllHaveHeld a.work.files (merged_of x) opened
      → is_some (joined x.schema opened) ≡ true) is can.joins opened
      (subst (λ (files : NamedFiles). AllHaveHeld files (merged_of (meta_of metas)) opened) same.files held)

  can_be : (metas : IndexMeta) (m : Directories) → LoadsMetas (Ok metas) a.work m.work → m.output ≡ a.output
      → CanBeMerged (merge_of metas) m b
  can_be metas m loads same = record {
    merged = loaded_merged metas m.work loads;
    whole = loaded_whole a.work m.work can.tells can.has metas loads;
    few = loaded_few metas m.work loads;
    joins = loaded_joins metas m.work loads;
    work_tells = told_loaded a.work m.work can.tells can.has metas loads;
    work_sound = λ rose.
        can.sound
        (rose_before a.work.faults m.work.faults b.work.faults (same_files a.work m.work can.tells can.has metas loads).later rose);
    output_tells = told_still a m same ready.tells;
    output_empty = empty_still a m same ready.empty;
    output_sound = λ rose. ready.sound (subst (λ (s : DirectoryState). Rose s.faults b.output.faults) same rose);
  }

  load_starves : (e : TantivyError) → LoadsMetas (Err e) a.work b.work → status_of e ≡ Memory
  load_starves e loads =
      memory_left e (load_so a.work b.work e loads)
      (load_undamaged a.work b.work e can.has.meta can.tells can.has.is_index loads)
      (λ is. can.sound (load_rose a.work b.work (subst (λ (x : TantivyError). LoadsMetas (Err x) a.work b.work) is loads)))

  module _ (metas merged : IndexMeta) (m n : Directories) (loads : LoadsMetas (Ok metas) a.work m.work) (same : m.output ≡ a.output)
      (k : Merges (merge_of metas) (Ok merged) m n) where
    print_starves : (e : TantivyError) → PrintsIndex [] (codes "output") Brief (Err e) n.output b.output → status_of e ≡ Memory
    print_starves e prints =
        let is = k.output_whole (told_still a m same ready.tells) in
        let told = told_merged a m same metas merged n k ready.tells in
        memory_left e
        (prints_so [] (codes "output") Brief n.output b.output e prints)
        (prints_undamaged [] (codes "output") Brief n.output b.output (meta_of merged) told is.is_index e is.whole prints)
        (λ at.
        ready.sound
        (rose_before a.output.faults n.output.faults b.output.faults (faults_grow a m same metas merged n k)
        (prints_rose [] (codes "output") Brief n.output b.output
        (subst (λ (x : TantivyError). PrintsIndex [] (codes "output") Brief (Err x) n.output b.output) at prints))))

  exit_starves : (e : TantivyError) → Exits e a b → status_of e ≡ Memory
  exit_starves e (at_loading l) = load_starves e l
  exit_starves e (at_merging metas m l same k) = ap status_of (k.complete (can_be metas m l same))
  exit_starves e (at_printing metas merged m n l same k prints) = print_starves metas merged m n l same k e prints

  pub merges_starve : (e : TantivyError) → MergesText (Err e) a b → status_of e ≡ Memory
  merges_starve e h = exit_starves e (exit_of e a b h)
