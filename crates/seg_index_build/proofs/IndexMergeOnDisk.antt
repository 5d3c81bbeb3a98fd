-- What a crash may leave of the output of a merge of indices.
use Rattle.std.proofs.Common.{◌≡◌, ◌<◌, ◌^◌, ℕ, List, IsTrue, map, Result, Ok, Err, sym, subst}
use Rattle.std.specs.Prelude.{OnOk}
use Rattle.seg_values.specs.declared.error.TantivyError.{TantivyError}
use Rattle.seg_directory.proofs.Exports.{leaves_only, turns_on}
use Rattle.seg_directory.specs.DiskChanges.{Turns}
use Rattle.seg_directory.specs.FileDisks.{FileDisk}
use Rattle.seg_directory.specs.DirectoryStates.{DirectoryState, HasOnly, IsEmptyDisk, LeavesOnly}
use Rattle.seg_meta.specs.MetaBounds.{AreReadBack}
use Rattle.seg_meta.specs.IndexOfFiles.{Meta}
use Rattle.seg_meta.specs.declared.index_meta.IndexMeta.{IndexMeta}
use Rattle.seg_open.specs.Answers.{seen_as}
use Rattle.seg_open.specs.OpenSegment.{OpenSegment, kept_count}
use Rattle.seg_index_build.specs.MergedSegments.{MergeInput, first_schema}
use Rattle.seg_index_build.proofs.MergeOnDisk.{begins_on_disk, begun_tells, begun_turns, empty_begun, fills_turns, fills_whole, nothing_leaves}
use Rattle.seg_index_build.proofs.MergeErrors.{few_passed}
use Rattle.seg_index_build.specs.MergedIndices.{Begins, MergesAlike, MergesIndices, MergesSources, Places, alike, asked_of_index, filled, indices_input, merges, not_begun, not_few, not_opened, refuses, starves, unlike}
use Rattle.seg_index_build.specs.IndexMergeAnswers.{AreMergeOfIndices, HaveHeld, MayBeMergedIndices}
use Rattle.seg_index_build.specs.Sources.{AllTell, files_of}
use Rattle.seg_index_build.proofs.OpenedSources.{sources_held}

abbrev nothing : Unit {0}
nothing = tt

module _ (indices : List IndexMeta) (id : ℕ) (id_fits : id < 2 ^ 128) (a : Places) (told : AllTell a.sources)
    (clean : IsEmptyDisk a.output.disk) where
  abbrev m : MergeInput
  m = indices_input indices id

  abbrev Held : List OpenSegment → Type 0
  Held opened = HaveHeld (files_of a.sources) indices opened

  abbrev May : FileDisk → Type 0
  May d = HasOnly (λ files. MayBeMergedIndices indices id (files_of a.sources) files) d

  -- ---- nothing refuses them

  module _ (reads : AreReadBack m.settings (first_schema m.segments)) where
    begun : (r : Result (Unit {0}) TantivyError) (n : DirectoryState) → Begins m r a.output n → Turns May May a.output.disk n.disk
    begun r n begins =
        begun_turns m Held reads id_fits a.output n
        (begins_on_disk m.settings (first_schema m.segments) r clean.told (empty_begun m.settings (first_schema m.segments) a.output.disk.now clean.none) begins)

    merging_turns : (r : Result Meta TantivyError) (b : Places) → MergesSources m (map asked_of_index indices) r a b
        → Turns May May a.output.disk b.output.disk
    merging_turns r b (not_begun e is begins stay) = begun (Err e) b.output begins
    merging_turns r b (not_opened e is begins opens) = begun (Ok tt) b.output begins
    merging_turns r b (not_few e opened is begins opens many) = begun (Ok tt) b.output begins
    merging_turns r b (filled opened n begins opens few last) =
        let first = begins_on_disk m.settings (first_schema m.segments) (Ok tt) clean.told (empty_begun m.settings (first_schema m.segments) a.output.disk.now clean.none) begins in
        turns_on clean.told (begun (Ok tt) n begins)
        (λ told_then holds.
        fills_turns m Held reads id_fits opened (sources_held indices a.sources b.sources opened told opens)
        (few_passed (kept_count opened) few) r n b.output told_then
        (begun_tells m.settings (first_schema m.segments) nothing clean.told begins) (first.after clean.told) last.fills)

    merging_rests : (meta : Meta) (b : Places) → MergesSources m (map asked_of_index indices) (Ok meta) a b
        → HasOnly (AreMergeOfIndices indices id (files_of a.sources)) b.output.disk.now
    merging_rests meta b (not_begun e is begins stay) = absurd (cc is)
    merging_rests meta b (not_opened e is begins opens) = absurd (cc is)
    merging_rests meta b (not_few e opened is begins opens many) = absurd (cc is)
    merging_rests meta b (filled opened n begins opens few last) =
        let first = begins_on_disk m.settings (first_schema m.segments) (Ok tt) clean.told (empty_begun m.settings (first_schema m.segments) a.output.disk.now clean.none) begins in
        fills_whole m Held reads id_fits opened (sources_held indices a.sources b.sources opened told opens)
        (few_passed (kept_count opened) few) meta n b.output (subst (λ t. IsTrue t) (sym first.during.told) clean.told)
        (begun_tells m.settings (first_schema m.segments) nothing clean.told begins) (first.after clean.told) last.fills

  -- ---- and any indices

  abbrev Leaves : Places → Type 0
  Leaves b = LeavesOnly (MayBeMergedIndices indices id (files_of a.sources)) a.output.disk b.output.disk

  unchanged : (b : Places) → b ≡ a → Leaves b
  unchanged b same = subst (λ (p : Places). Leaves p) (sym same) (nothing_leaves m Held a.output clean)

  alike_leaves : (r : Result Meta TantivyError) (b : Places) → MergesAlike indices id r a b → Leaves b
  alike_leaves r b (starves is same) = unchanged b same
  alike_leaves r b (refuses e why is same) = unchanged b same
  alike_leaves r b (merges why reads h) =
      let turns = merging_turns reads r b h in
      leaves_only (MayBeMergedIndices indices id (files_of a.sources)) a.output.disk b.output.disk turns.during (turns.after clean.told)

  -- a crash at any moment leaves no index, the empty one, or the merge
  pub said_leaves : (r : Result Meta TantivyError) (b : Places) → MergesIndices indices id r a b → Leaves b
  said_leaves r b (unlike e why is same) = unchanged b same
  said_leaves r b (alike are h) = alike_leaves r b h

  abbrev Rests : Places → Type 0
  Rests b = HasOnly (AreMergeOfIndices indices id (files_of a.sources)) b.output.disk.now

  alike_rests : (meta : Meta) (b : Places) → MergesAlike indices id (Ok meta) a b → Rests b
  alike_rests meta b (starves is same) = absurd (cc is)
  alike_rests meta b (refuses e why is same) = absurd (cc is)
  alike_rests meta b (merges why reads h) = merging_rests reads meta b h

  all_rest : (meta : Meta) (b : Places) → MergesIndices indices id (Ok meta) a b → Rests b
  all_rest meta b (unlike e why is same) = absurd (cc is)
  all_rest meta b (alike are h) = alike_rests meta b h

  -- and at Ok the merge
  pub said_rests : {T : Type 0} (f : T → Meta) (r : Result T TantivyError) (b : Places)
      → MergesIndices indices id (seen_as f r) a b → OnOk r (Rests b)
  said_rests f (Ok x) b h = all_rest (f x) b h
  said_rests f (Err e) b h = tt
