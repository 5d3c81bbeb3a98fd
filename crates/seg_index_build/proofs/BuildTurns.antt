-- Turns that write both indexes, put together.
use Rattle.std.proofs.Common.{Result, Ok, Err, refl, ap}
use Rattle.seg_segment.proofs.Exports.{failing, same_error}
use Rattle.seg_values.specs.declared.error.TantivyError.{TantivyError}
use Rattle.seg_model.specs.Fields.{Analyzer}
use Rattle.seg_model.specs.Input.{Input}
use Rattle.seg_model.specs.ValidInputs.{Known}
use Rattle.seg_index_build.specs.DirectoryCalls.{BuildsIndexes, WritesWork, merge_of}
use Rattle.seg_index_build.specs.IndexFiles.{work_ids}
use Rattle.seg_index_build.specs.MergedSegments.{MergesLive}
use Rattle.seg_index_build.specs.TwoDirectories.{Directories, stops, goes_on}
use Rattle.seg_index_build.proofs.FilledIndex.{filled_as, filled_fails_as}

module _ (known : Known) (analyzer : Analyzer) (input : Input) where
  -- the work index isn't written, which ends all
  pub work_stops : (S T : Type 0) (e : TantivyError) (a b : Directories) → WritesWork {T = S} known analyzer input (Err e) a b
      → BuildsIndexes {T = T} known analyzer input (Err e) a b
  work_stops S T e a b (stops d is h) = stops d (ap (failing T) (same_error S e d is)) h
  work_stops S T e a b (goes_on u n h (stops d is k)) = goes_on u n h (stops d (ap (failing T) (same_error S e d is)) k)
  work_stops S T e a b (goes_on u n h (goes_on v p begins fills)) =
      goes_on u n h (goes_on v p begins
      (stops e refl (
        filled_fails_as input.settings input.schema analyzer (work_ids input.ids) input.cuts input.operations S (Unit {0}) e p.work b.work fills.0,
        fills.1,
      )))

  -- or it is, and then merged
  pub work_goes : {S T : Type 0} (x : S) (r : Result T TantivyError) (a m b : Directories)
      → WritesWork known analyzer input (Ok x) a m → MergesLive (merge_of analyzer input) r m b
      → BuildsIndexes known analyzer input r a b
  work_goes x r a m b (stops d is h) merges = absurd (cc is)
  work_goes x r a m b (goes_on u n h (stops d is k)) merges = absurd (cc is)
  work_goes x r a m b (goes_on u n h (goes_on v p begins fills)) merges =
      goes_on u n h (goes_on v p begins
      (goes_on tt m (
        filled_as input.settings input.schema analyzer (work_ids input.ids) input.cuts input.operations x tt p.work m.work fills.0,
        fills.1,
      ) merges))
