-- The printing of an index changes no image.
use Rattle.std.proofs.Common.{ℕ, List, [], ◌∷◌, ◌++◌, Result, Ok, Err, IsTrue}
use Rattle.seg_index_build.specs.MergedIndices.{listed_segments}
use Rattle.seg_values.specs.declared.error.TantivyError.{TantivyError}
use Rattle.seg_directory.proofs.Exports.{AllCalls, OnlyReads, keeps_disk, turns_kept, turns_on}
use Rattle.seg_directory.specs.DiskChanges.{KeepsDisk}
use Rattle.seg_directory.specs.DirectoryStates.{DirectoryState}
use Rattle.seg_directory.specs.DirectorySteps.{Step, calls, passes}
use Rattle.seg_meta.specs.MetaSteps.{LoadsMetas, load_steps}
use Rattle.seg_meta.specs.declared.index_meta.IndexMeta.{IndexMeta}
use Rattle.seg_open.specs.OpenSegment.{OpenSegment}
use Rattle.seg_open.specs.OpeningSteps.{Asked, Found, OpensSegments, all_steps, segment_steps}
use Rattle.seg_open.proofs.Exports.{segment_only}
use Rattle.seg_tool.specs.PrintedIndex.{PrintsIndex, ReadsText, all_of, fails, loaded, not_loaded, reads}
use Rattle.seg_tool.specs.declared.words.Detail.{Detail}

-- ---- the steps only read

all_on : (xs ys : List Step) → AllCalls OnlyReads xs → AllCalls OnlyReads ys → AllCalls OnlyReads (xs ++ ys)
all_on [] ys first next = next
all_on (calls call ∷ xs) ys first next = (first.0, all_on xs ys first.1 next)
all_on (passes refusal ∷ xs) ys first next = all_on xs ys first next

segments_only : (asked : List Asked) (found : List Found) → AllCalls OnlyReads (all_steps asked found)
segments_only [] found = tt
segments_only (a ∷ asked) [] = tt
segments_only (a ∷ asked) (f ∷ found) =
    all_on (segment_steps a.segment f) (all_steps asked found) (segment_only a.segment f) (segments_only asked found)

-- ---- the meta, the segments, and both

pub load_keeps : (r : Result IndexMeta TantivyError) (a b : DirectoryState) → IsTrue a.disk.told → LoadsMetas r a b → KeepsDisk a.disk b.disk
load_keeps r a b told load = keeps_disk (load_steps load.bytes) r (tt, tt) told load.from_bytes.works

pub opens_keep : (asked : List Asked) (r : Result (List OpenSegment) TantivyError) (a b : DirectoryState) → IsTrue a.disk.told
    → OpensSegments asked r a b → KeepsDisk a.disk b.disk
opens_keep asked r a b told opens = keeps_disk (all_steps asked opens.found) r (segments_only asked opens.found) told opens.works

module _ (front label : List ℕ) (detail : Detail) (r : Result (List ℕ) TantivyError) (a b : DirectoryState) (told : IsTrue a.disk.told) where
  text_keeps : (asked : List Asked) → ReadsText front label detail asked r a b → KeepsDisk a.disk b.disk
  text_keeps asked (fails e is h) = opens_keep asked (Err e) a b told h
  text_keeps asked (reads opened is h) = opens_keep asked (Ok opened) a b told h

module _ (front label : List ℕ) (detail : Detail) (r : Result (List ℕ) TantivyError) (a b : DirectoryState) (told : IsTrue a.disk.told) where
  pub prints_keep : PrintsIndex front label detail r a b → KeepsDisk a.disk b.disk
  prints_keep (not_loaded e is load) = load_keeps (Err e) a b told load
  prints_keep (loaded metas m load text) =
      turns_on told (load_keeps (Ok metas) a m told load)
      (λ told_then same. turns_kept same (text_keeps front label detail r m b told_then (all_of (listed_segments metas)) text))
