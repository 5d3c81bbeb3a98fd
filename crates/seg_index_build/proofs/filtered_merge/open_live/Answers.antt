use Rattle.std.proofs.Common.{◌∙◌}
use Rattle.seg_index_build.specs.MergedSegments.{live_asked}
use Rattle.seg_index_build.proofs.MergeOutputs.{live_of_schema, live_opened, live_starved}
use Rattle.seg_index_build.proofs.filtered_merge.open_live.Goals as goal

pub returns-in_default-clause-opens : goal.returns-in_default-clause-opens
returns-in_default-clause-opens g c =
    live_starved (live_asked c.args.segments.now c.args.filters.now) (g.W.Directory.state c.args.work.now)

pub returns-in_default-live_filters-clause-opens : goal.returns-in_default-live_filters-clause-opens
returns-in_default-live_filters-clause-opens g c =
    live_starved (live_asked c.args.segments.now c.args.filters.now) (g.W.Directory.state c.args.work.now)

pub open_with_custom_alive_set-requires : goal.open_with_custom_alive_set-requires
open_with_custom_alive_set-requires g c = record {
  schema = live_of_schema c.args.schema.now c.args.segments.now c.args.filters.now c.share.result c.deref.result.now
      c.share.ensures (c.deref.ensures.value ∙ c.in-Ok.ensures) c.requires.schema;
}

pub returns-clause-opens : goal.returns-clause-opens
returns-clause-opens g c =
    live_opened c.args.schema.now c.args.segments.now c.args.filters.now c.share.result c.deref.result.now
    c.share.ensures (c.deref.ensures.value ∙ c.in-Ok.ensures) c.requires.fit
    (g.W.Directory.state c.args.work.now) (g.W.Directory.state c.open_with_custom_alive_set.new.directory)
    c.in-Ok-live_filters.kept.items c.in-Ok-live_filters.ensures c.open_with_custom_alive_set.result
    c.open_with_custom_alive_set.ensures
