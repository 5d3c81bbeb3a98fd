-- The merge of an index changes no image of the work directory.
use Rattle.std.proofs.Common.{◌≡◌, List, ℕ, Result, Ok, Err, IsTrue, refl, ap}
use Rattle.seg_values.specs.declared.error.TantivyError.{TantivyError}
use Rattle.seg_directory.proofs.Exports.{turns_kept, turns_none, turns_on}
use Rattle.seg_directory.specs.DiskChanges.{KeepsDisk}
use Rattle.seg_directory.specs.FileDisks.{FileDisk}
use Rattle.seg_directory.specs.DirectoryStates.{DirectoryState}
use Rattle.seg_index_build.specs.MergedSegments.{MergeInput, MergesLive, MergesSegments, live_asked}
use Rattle.seg_index_build.specs.TwoDirectories.{Directories, Then, goes_on, stops}
use Rattle.seg_tool.specs.Words.MergeJob.{MergesText, merge_of}
use Rattle.seg_tool.proofs.JobSteps.{merges_listed}
use Rattle.seg_tool.proofs.ReadingOnDisk.{load_keeps, opens_keep}

-- no image changes, where the disk is told
abbrev pub Kept : DirectoryState → DirectoryState → Type 0
Kept a b = IsTrue a.disk.told → KeepsDisk a.disk b.disk

pub kept_same : (a b : DirectoryState) → b ≡ a → Kept a b
kept_same a b same told = turns_none {P = λ (d : FileDisk). d ≡ a.disk.now} same refl

kept_then : (a b c : DirectoryState) → Kept a b → Kept b c → Kept a c
kept_then a b c first next told = turns_on told (first told) (λ told_then same. turns_kept same (next told_then))

-- ---- in turn

module _ {X T : Type 0} (first : Result X TantivyError → Directories → Directories → Type 0) (next : X → Result T TantivyError → Directories → Directories → Type 0)
    (first_so : (r : Result X TantivyError) (a b : Directories) → first r a b → Kept a.work b.work)
    (next_so : (x : X) (r : Result T TantivyError) (a b : Directories) → next x r a b → Kept a.work b.work) where
  in_turn : (r : Result T TantivyError) (a b : Directories) → Then first next r a b → Kept a.work b.work
  in_turn r a b (stops e is h) = first_so (Err e) a b h
  in_turn r a b (goes_on x m h k) = kept_then a.work m.work b.work (first_so (Ok x) a m h) (next_so x r m b k)

same_work : (a b : Directories) → b ≡ a → Kept a.work b.work
same_work a b same = kept_same a.work b.work (ap (λ (d : Directories). d.work) same)

-- ---- a merge

module _ {T : Type 0} (m : MergeInput) where
  live_kept : (r : Result T TantivyError) (a b : Directories) → MergesLive m r a b → Kept a.work b.work
  live_kept =
      in_turn _ _ (λ r a b h. kept_same a.work b.work h.1)
      (λ u. in_turn _ _ (λ r a b h told. opens_keep (live_asked m.segments m.filters) r a.work b.work told h.0)
      (λ opened. in_turn _ _ (λ r a b h. same_work a b h.1)
      (λ v r a b h. kept_same a.work b.work h.1)))

  segments_kept : (r : Result T TantivyError) (a b : Directories) → MergesSegments m r a b → Kept a.work b.work
  segments_kept r a b h = in_turn _ _ (λ q c d k. same_work c d k.1) (λ u. live_kept) r a b h.merges

pub merges_keep : (r : Result (List ℕ) TantivyError) (a b : Directories) → MergesText r a b → Kept a.work b.work
merges_keep =
    in_turn _ _
    (in_turn _ _ (λ r a b l told. load_keeps r a.work b.work told l.0) (λ metas r a b k. segments_kept (merge_of metas) r a b (merges_listed metas r a b k).does))
    (λ merged r a b p. kept_same a.work b.work p.1)
