use Rattle.std.proofs.Common.{◌∙◌, List, Option, Some, subst, sym}
use Rattle.seg_meta.specs.MetaMeaning.{meta_of}
use Rattle.seg_model.specs.Input.{Filter}
use Rattle.seg_open.specs.Answers.{seen_as}
use Rattle.seg_index_build.specs.MergedSegments.{AreMerged, IsRefusal, MergesTo, merge_input}
use Rattle.seg_index_build.specs.TwoDirectories.{both}
use Rattle.seg_index_build.proofs.MergeEnds.{done_merge, refused_merge}
use Rattle.seg_index_build.proofs.filtered_merge.merge_filtered_segments.Goals as goal

pub merge_checked-requires : goal.merge_checked-requires
merge_checked-requires g c = record {
  merged =
      subst (λ (fs : List (Option Filter)). AreMerged (merge_input c.args.segments.now c.args.target_settings fs c.args.id))
      (c.deref.ensures.value ∙ sym c.deref-in-Ok.ensures.value) (c.in-Ok.ensures.ok c.args.id);
}

pub returns-in-Ok : goal.returns-in-Ok
returns-in-Ok g c =
    let m = merge_input c.args.segments.now c.args.target_settings c.args.filters.items c.args.id in
    let a = both (g.W.Directory.state c.args.work.now) (g.O.Directory.state c.args.output.now) in
    let b = both (g.W.Directory.state c.merge_checked.new.work) (g.O.Directory.state c.merge_checked.new.output) in
    let r = c.merge_checked.result in
    let merged =
    subst (λ (fs : List (Option Filter)). AreMerged (merge_input c.args.segments.now c.args.target_settings fs c.args.id))
    c.deref.ensures.value (c.in-Ok.ensures.ok c.args.id) in
    let to =
    subst
    (λ (fs : List (Option Filter)). MergesTo (merge_input c.args.segments.now c.args.target_settings fs c.args.id)
    (seen_as meta_of r) a b) c.deref-in-Ok.ensures.value c.merge_checked.ensures in
    done_merge m merged c.in-Ok.ensures.reads c.id_fits.ensures r a b to

pub returns : goal.returns
returns g c =
    let m = merge_input c.args.segments.now c.args.target_settings c.args.filters.items c.args.id in
    let is =
    subst
    (λ (fs : List (Option Filter)). IsRefusal (merge_input c.args.segments.now c.args.target_settings fs c.args.id) c.args.segments.now
    (Some c.in-Err.e)) c.deref.ensures.value (c.in-Err.ensures.err c.args.id) in
    refused_merge m c.in-Err.e is (both (g.W.Directory.state c.args.work.now) (g.O.Directory.state c.args.output.now))
