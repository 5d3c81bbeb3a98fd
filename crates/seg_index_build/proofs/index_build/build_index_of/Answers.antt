use Rattle.std.proofs.Common.{◌<◌, ◌^◌, ◌∙◌, Ok, Err, ap, subst, arith}
use Rattle.seg_meta.specs.MetaBounds.{AreReadBack}
use Rattle.seg_meta.specs.declared.index_meta.IndexMeta.{IndexMeta}
use Rattle.seg_model.specs.Input.{Input}
use Rattle.seg_index_build.specs.DirectoryCalls.{WritesWork}
use Rattle.seg_index_build.specs.IndexFiles.{output_id, work_meta}
use Rattle.seg_index_build.specs.TwoDirectories.{both}
use Rattle.seg_index_build.proofs.BuildEnds.{is_list, merged_as, plan_merges, stops_at_work, two_ids}
use Rattle.seg_index_build.proofs.MetaRoundTrips.{output_fits}
use Rattle.seg_index_build.proofs.index_build.build_index_of.Goals as goal

pub returns-in-Err : goal.returns-in-Err
returns-in-Err g c =
    let knows = g.Z.Analyzers.knows c.args.analyzers.now in
    let F = g.Z.Analyzers.tokens_of c.args.analyzers.now in
    let a = both (g.W.Directory.state c.args.work.now) (g.O.Directory.state c.args.output.now) in
    let b = both (g.W.Directory.state c.write_work_index.new.work) (g.O.Directory.state c.write_work_index.new.output) in
    let is = c.parts.view_is ∙ c.as_ref-parts.ensures in
    stops_at_work knows F c.args.input c.joining_is_invisible.ensures c.files_hold_one_contents.ensures
    (subst (λ (x : Input). AreReadBack x.settings x.schema) is c.schema_reads_back.ensures)
    (subst (λ (x : Input). output_id x.ids < 2 ^ 128) is (output_fits _ c.ids_fit.ensures)) IndexMeta c.in-Err.e a b
    (subst (λ (x : Input). WritesWork {T = IndexMeta} knows F x (Err c.in-Err.e) a b) c.as_ref-parts.ensures c.in-Err.ensures.does)

pub plan_of-plan-requires : goal.plan_of-plan-requires
plan_of-plan-requires g c =
    let knows = g.Z.Analyzers.knows c.args.analyzers.now in
    let F = g.Z.Analyzers.tokens_of c.args.analyzers.now in
    let a = both (g.W.Directory.state c.args.work.now) (g.O.Directory.state c.args.output.now) in
    let m = both (g.W.Directory.state c.write_work_index.new.work) (g.O.Directory.state c.write_work_index.new.output) in
    let two =
    two_ids knows F c.args.input c.in-Ok.metas a m
    (subst (λ (x : Input). WritesWork knows F x (Ok c.in-Ok.metas) a m) c.as_ref-parts.ensures c.in-Ok.ensures.does) in
    omega (arith, two)

pub merge_work-requires-clause-list : goal.merge_work-requires-clause-list
merge_work-requires-clause-list g c =
    let knows = g.Z.Analyzers.knows c.args.analyzers.now in
    let F = g.Z.Analyzers.tokens_of c.args.analyzers.now in
    let a = both (g.W.Directory.state c.args.work.now) (g.O.Directory.state c.args.output.now) in
    let m = both (g.W.Directory.state c.write_work_index.new.work) (g.O.Directory.state c.write_work_index.new.output) in
    is_list knows F c.args.input c.in-Ok.metas
    (c.in-Ok.ensures.meta ∙ ap (λ (x : Input). work_meta F x) c.as_ref-parts.ensures) c.in-Ok.metas a m
    (subst (λ (x : Input). WritesWork knows F x (Ok c.in-Ok.metas) a m) c.as_ref-parts.ensures c.in-Ok.ensures.does)

pub merge_work-requires-clause-merged : goal.merge_work-requires-clause-merged
merge_work-requires-clause-merged g c =
    let knows = g.Z.Analyzers.knows c.args.analyzers.now in
    let F = g.Z.Analyzers.tokens_of c.args.analyzers.now in
    let a = both (g.W.Directory.state c.args.work.now) (g.O.Directory.state c.args.output.now) in
    let m = both (g.W.Directory.state c.write_work_index.new.work) (g.O.Directory.state c.write_work_index.new.output) in
    plan_merges knows F c.args.input c.in-Ok.metas
    (c.in-Ok.ensures.meta ∙ ap (λ (x : Input). work_meta F x) c.as_ref-parts.ensures) c.plan_of-plan.result
    c.plan_of-plan.ensures c.in-Ok.metas a m
    (subst (λ (x : Input). WritesWork knows F x (Ok c.in-Ok.metas) a m) c.as_ref-parts.ensures c.in-Ok.ensures.does)

pub returns : goal.returns
returns g c =
    let knows = g.Z.Analyzers.knows c.args.analyzers.now in
    let F = g.Z.Analyzers.tokens_of c.args.analyzers.now in
    let a = both (g.W.Directory.state c.args.work.now) (g.O.Directory.state c.args.output.now) in
    let m = both (g.W.Directory.state c.write_work_index.new.work) (g.O.Directory.state c.write_work_index.new.output) in
    let b = both (g.W.Directory.state c.merge_work.new.work) (g.O.Directory.state c.merge_work.new.output) in
    let is = c.parts.view_is ∙ c.as_ref-parts.ensures in
    merged_as knows F c.args.input c.joining_is_invisible.ensures c.files_hold_one_contents.ensures
    (subst (λ (x : Input). AreReadBack x.settings x.schema) is c.schema_reads_back.ensures)
    (subst (λ (x : Input). output_id x.ids < 2 ^ 128) is (output_fits _ c.ids_fit.ensures)) c.in-Ok.metas a m
    (subst (λ (x : Input). WritesWork knows F x (Ok c.in-Ok.metas) a m) c.as_ref-parts.ensures c.in-Ok.ensures.does)
    c.in-Ok.metas (c.in-Ok.ensures.meta ∙ ap (λ (x : Input). work_meta F x) c.as_ref-parts.ensures)
    c.plan_of-plan.result c.plan_of-plan.ensures c.merge_work.ensures.read c.merge_work.result b
    c.merge_work.ensures.built c.merge_work.ensures.does
