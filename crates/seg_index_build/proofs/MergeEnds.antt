-- What a merge of segments, or of indices, comes to, put together.
use Rattle.std.proofs.Common.{◌<◌, ◌^◌, ℕ, List, Some, Result, Err, refl}
use Rattle.seg_values.specs.declared.error.TantivyError.{TantivyError}
use Rattle.seg_meta.specs.MetaBounds.{AreReadBack}
use Rattle.seg_meta.specs.MetaMeaning.{meta_of}
use Rattle.seg_meta.specs.declared.index_meta.IndexMeta.{IndexMeta}
use Rattle.seg_open.specs.Answers.{seen_as}
use Rattle.seg_index_build.specs.MergeOutcomes.{IndexMergeComesTo, MergeComesTo}
use Rattle.seg_index_build.specs.MergedIndices.{MergesIndices, Places}
use Rattle.seg_index_build.specs.MergedSegments.{AreMerged, IsRefusal, MergeInput, MergesTo, first_schema}
use Rattle.seg_index_build.specs.OtherFiles.{merged_files}
use Rattle.seg_index_build.specs.TwoDirectories.{Directories}
use Rattle.seg_index_build.proofs.IndexMergeErrors.{said_complete, said_errors, said_fresh, said_undamaged}
use Rattle.seg_index_build.proofs.IndexMergeOnDisk.{said_leaves, said_rests}
use Rattle.seg_index_build.proofs.KeptDirectories.{merges_keep, merges_stay, same_keeps}
use Rattle.seg_index_build.proofs.MergeOnDisk.{merge_leaves, merge_rests_so, refused_leaves}
use Rattle.seg_index_build.proofs.MergeOutcomes.{merged_complete, merged_does, merged_error, merged_fresh, merged_index, merged_meta, merged_output, merged_refused, merged_undamaged, merged_whole, refused_complete, refused_does, refused_error, refused_fresh, refused_so, refused_undamaged}
use Rattle.seg_index_build.proofs.MergeTurns.{unanswered}
use Rattle.seg_index_build.proofs.MergedIndices.{said_index, said_meta, said_output, said_refused_so, said_stays, said_unlike, said_whole}

-- segments that are refused
pub refused_merge : (m : MergeInput) (e : TantivyError) → IsRefusal m m.segments (Some e) → (a : Directories)
    → MergeComesTo m (Err e) a a
refused_merge m e is a = record {
  does = refused_does m e is IndexMeta a;
  meta = tt;
  refused = λ d other. (refused_so m e is IndexMeta d other, refl, refl);
  errors = refused_error m e is a a;
  index = λ told. tt;
  output_meta = λ told. tt;
  output_whole = λ told. tt;
  work_stays = refl;
  others = same_keeps (merged_files m.id) a.output a.output refl;
  undamaged = λ told whole. refused_undamaged m e is;
  fresh = λ told none. refused_fresh m e is IndexMeta;
  complete = λ can. refused_complete m e is a a can;
  any_moment = λ told clean. refused_leaves m a clean;
  at_rest = λ told clean. tt;
}

-- and those that are merged
module _ (m : MergeInput) (merged : AreMerged m) (reads : AreReadBack m.settings (first_schema m.segments))
    (id_fits : m.id < 2 ^ 128) (r : Result IndexMeta TantivyError) (a b : Directories)
    (to : MergesTo m (seen_as (λ (i : IndexMeta). meta_of i) r) a b) where
  pub done_merge : MergeComesTo m r a b
  done_merge =
      let f = λ (i : IndexMeta). meta_of i in
      record {
        does = merged_does m merged f r a b to;
        meta = merged_meta m merged f r a b to;
        refused = λ e is. merged_refused m merged f r _ e is;
        errors = merged_error m merged f r a b to;
        index = λ told. merged_index m merged f r a b to told;
        output_meta = λ told. merged_output m merged f r a b to told;
        output_whole = λ told. merged_whole m merged f r a b to told;
        work_stays = merges_stay m r a b (unanswered m f r a b to);
        others = merges_keep m r a b (unanswered m f r a b to);
        undamaged = λ told whole. merged_undamaged m merged f r a b to told whole;
        fresh = λ told none. merged_fresh m merged f r a b to told none;
        complete = λ can. merged_complete m merged f r a b to can;
        any_moment = λ told clean. merge_leaves m reads id_fits a told clean r b (unanswered m f r a b to);
        at_rest = λ told clean. merge_rests_so m reads id_fits a told clean r b (unanswered m f r a b to);
      }

-- indices
pub indices_merge : (metas : List IndexMeta) (id : ℕ) → id < 2 ^ 128 → (r : Result IndexMeta TantivyError) (a b : Places)
    → MergesIndices metas id (seen_as (λ (i : IndexMeta). meta_of i) r) a b → IndexMergeComesTo metas id r a b
indices_merge metas id id_fits r a b does =
    let f = λ (i : IndexMeta). meta_of i in
    let stay = said_stays metas id (seen_as f r) a b does in
    record {
      does = does;
      meta = said_meta f metas id a b r does;
      unlike = λ e why. said_unlike f metas id e why r a b does;
      refused = λ e why. said_refused_so f metas id e why r a b does;
      errors = said_errors f metas id a b r does;
      index = λ told. said_index f metas id a b r does told;
      output_meta = λ told. said_output f metas id a b r does told;
      output_whole = λ told. said_whole f metas id a b r does told;
      sources_stay = stay.sources_stay;
      others = stay.others;
      undamaged = λ told whole. said_undamaged f metas id a b r does told whole;
      fresh = λ told none. said_fresh f metas id a b r does told none;
      complete = λ can. said_complete f metas id a b r does can;
      any_moment = λ told clean. said_leaves metas id id_fits a told clean (seen_as f r) b does;
      at_rest = λ told clean. said_rests metas id id_fits a told clean f r b does;
    }
