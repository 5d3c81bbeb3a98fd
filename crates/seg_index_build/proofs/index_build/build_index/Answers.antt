use Rattle.std.proofs.Common.{arith}
use Rattle.seg_check.specs.Inputs.{input_of}
use Rattle.seg_meta.specs.declared.index_meta.IndexMeta.{IndexMeta}
use Rattle.seg_index_build.specs.TwoDirectories.{both}
use Rattle.seg_index_build.proofs.BuildEnds.{is_list, merged_as, plan_merges, starves_between, stops_at_work, two_ids}
use Rattle.seg_index_build.proofs.MetaRoundTrips.{output_fits}
use Rattle.seg_index_build.proofs.index_build.build_index.Goals as goal

pub returns-in-Err : goal.returns-in-Err
returns-in-Err g c =
    stops_at_work (g.Z.Analyzers.knows c.args.analyzers.now) (g.Z.Analyzers.tokens_of c.args.analyzers.now)
    (input_of c.args.schema.now c.args.settings.now c.args.operations.now c.args.cuts.now c.args.filters.now c.args.ids.now)
    c.joining_is_invisible.ensures c.files_hold_one_contents.ensures c.schema_reads_back.ensures
    (output_fits _ c.ids_fit.ensures) IndexMeta c.in-Err.e
    (both (g.W.Directory.state c.args.work.now) (g.O.Directory.state c.args.output.now))
    (both (g.W.Directory.state c.write_work_index.new.work) (g.O.Directory.state c.write_work_index.new.output))
    c.in-Err.ensures.does

pub copied_plan-requires : goal.copied_plan-requires
copied_plan-requires g c =
    let two =
    two_ids (g.Z.Analyzers.knows c.args.analyzers.now) (g.Z.Analyzers.tokens_of c.args.analyzers.now)
    (input_of c.args.schema.now c.args.settings.now c.args.operations.now c.args.cuts.now c.args.filters.now c.args.ids.now)
    c.in-Ok.metas (both (g.W.Directory.state c.args.work.now) (g.O.Directory.state c.args.output.now))
    (both (g.W.Directory.state c.write_work_index.new.work) (g.O.Directory.state c.write_work_index.new.output))
    c.in-Ok.ensures.does in
    omega (arith, two)

pub returns-in_default : goal.returns-in_default
returns-in_default g c =
    starves_between (g.Z.Analyzers.knows c.args.analyzers.now) (g.Z.Analyzers.tokens_of c.args.analyzers.now)
    (input_of c.args.schema.now c.args.settings.now c.args.operations.now c.args.cuts.now c.args.filters.now c.args.ids.now)
    c.joining_is_invisible.ensures c.files_hold_one_contents.ensures c.schema_reads_back.ensures
    (output_fits _ c.ids_fit.ensures) c.in-Ok.metas
    (both (g.W.Directory.state c.args.work.now) (g.O.Directory.state c.args.output.now))
    (both (g.W.Directory.state c.write_work_index.new.work) (g.O.Directory.state c.write_work_index.new.output))
    c.in-Ok.ensures.does

pub merge_work-requires-clause-list : goal.merge_work-requires-clause-list
merge_work-requires-clause-list g c =
    is_list (g.Z.Analyzers.knows c.args.analyzers.now) (g.Z.Analyzers.tokens_of c.args.analyzers.now)
    (input_of c.args.schema.now c.args.settings.now c.args.operations.now c.args.cuts.now c.args.filters.now c.args.ids.now)
    c.in-Ok.metas c.in-Ok.ensures.meta c.in-Ok.metas
    (both (g.W.Directory.state c.args.work.now) (g.O.Directory.state c.args.output.now))
    (both (g.W.Directory.state c.write_work_index.new.work) (g.O.Directory.state c.write_work_index.new.output))
    c.in-Ok.ensures.does

pub merge_work-requires-clause-merged : goal.merge_work-requires-clause-merged
merge_work-requires-clause-merged g c =
    plan_merges (g.Z.Analyzers.knows c.args.analyzers.now) (g.Z.Analyzers.tokens_of c.args.analyzers.now)
    (input_of c.args.schema.now c.args.settings.now c.args.operations.now c.args.cuts.now c.args.filters.now c.args.ids.now)
    c.in-Ok.metas c.in-Ok.ensures.meta c.in-Ok-copied_plan.plan c.in-Ok-copied_plan.ensures c.in-Ok.metas
    (both (g.W.Directory.state c.args.work.now) (g.O.Directory.state c.args.output.now))
    (both (g.W.Directory.state c.write_work_index.new.work) (g.O.Directory.state c.write_work_index.new.output))
    c.in-Ok.ensures.does

pub returns : goal.returns
returns g c =
    merged_as (g.Z.Analyzers.knows c.args.analyzers.now) (g.Z.Analyzers.tokens_of c.args.analyzers.now)
    (input_of c.args.schema.now c.args.settings.now c.args.operations.now c.args.cuts.now c.args.filters.now c.args.ids.now)
    c.joining_is_invisible.ensures c.files_hold_one_contents.ensures c.schema_reads_back.ensures
    (output_fits _ c.ids_fit.ensures) c.in-Ok.metas
    (both (g.W.Directory.state c.args.work.now) (g.O.Directory.state c.args.output.now))
    (both (g.W.Directory.state c.write_work_index.new.work) (g.O.Directory.state c.write_work_index.new.output))
    c.in-Ok.ensures.does c.in-Ok.metas c.in-Ok.ensures.meta c.in-Ok-copied_plan.plan c.in-Ok-copied_plan.ensures
    c.merge_work.ensures.read c.merge_work.result
    (both (g.W.Directory.state c.merge_work.new.work) (g.O.Directory.state c.merge_work.new.output))
    c.merge_work.ensures.built c.merge_work.ensures.does
