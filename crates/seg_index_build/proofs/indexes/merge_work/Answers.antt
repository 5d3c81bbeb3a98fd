use Rattle.std.proofs.Common.{◌∙◌, List, ap, map}
use Rattle.seg_meta.specs.Metas.{SegmentParts, segment_of}
use Rattle.seg_meta.specs.MetaMeaning.{meta_of}
use Rattle.seg_meta.specs.declared.index_meta.IndexMeta.{IndexMeta}
use Rattle.seg_index_build.specs.MergePlans.{planned}
use Rattle.seg_index_build.specs.MergedSegments.{merge_input}
use Rattle.seg_index_build.specs.TwoDirectories.{both}
use Rattle.seg_index_build.proofs.MergeCalls.{merge_called, merge_told}
use Rattle.seg_index_build.proofs.MergeTurns.{starved}
use Rattle.seg_index_build.proofs.indexes.merge_work.Goals as goal

pub returns-in_default-clause-read : goal.returns-in_default-clause-read
returns-in_default-clause-read g c = c.metas_read_back.ensures c.requires.list

pub returns-in_default-clause-does : goal.returns-in_default-clause-does
returns-in_default-clause-does g c = starved (planned c.args.metas c.args.plan) _ _

pub returns-clause-read : goal.returns-clause-read
returns-clause-read g c = c.metas_read_back.ensures c.requires.list

pub returns-clause-built : goal.returns-clause-built
returns-clause-built g c =
    let plan = c.args.plan in
    let same =
    ap (λ (l : List SegmentParts). merge_input l plan.settings plan.filters.items plan.id)
    (c.deref.ensures.value ∙ c.in-Ok.ensures.ok
    ∙ ap (λ (m : IndexMeta). map (segment_of m.schema) m.segments) c.from_metas.ensures) in
    merge_told meta_of _ (planned c.args.metas plan) same c.merge_filtered_segments.result
    (both (g.W.Directory.state c.args.work.now) (g.O.Directory.state c.args.output.now))
    (both (g.W.Directory.state c.merge_filtered_segments.new.work) (g.O.Directory.state c.merge_filtered_segments.new.output))
    c.merge_filtered_segments.ensures.work_stays c.merge_filtered_segments.ensures.meta
    c.merge_filtered_segments.ensures.index c.merge_filtered_segments.ensures.output_meta

pub returns-clause-does : goal.returns-clause-does
returns-clause-does g c =
    let plan = c.args.plan in
    let same =
    ap (λ (l : List SegmentParts). merge_input l plan.settings plan.filters.items plan.id)
    (c.deref.ensures.value ∙ c.in-Ok.ensures.ok
    ∙ ap (λ (m : IndexMeta). map (segment_of m.schema) m.segments) c.from_metas.ensures) in
    merge_called _ (planned c.args.metas plan) same c.requires.merged c.merge_filtered_segments.result
    (both (g.W.Directory.state c.args.work.now) (g.O.Directory.state c.args.output.now))
    (both (g.W.Directory.state c.merge_filtered_segments.new.work) (g.O.Directory.state c.merge_filtered_segments.new.output))
    c.merge_filtered_segments.ensures.does
