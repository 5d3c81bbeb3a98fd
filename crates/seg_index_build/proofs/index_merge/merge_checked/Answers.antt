use Rattle.std.proofs.Common.{◌≡◌, ◌∙◌, map, subst, sym}
use Rattle.std.specs.List.{AllByRecursion}
use Rattle.seg_meta.specs.Metas.{SegmentParts}
use Rattle.seg_meta.specs.MetaMeaning.{meta_of}
use Rattle.seg_model.specs.Fields.{Schema}
use Rattle.seg_open.specs.Answers.{seen_as}
use Rattle.seg_index_build.specs.MergedSegments.{MergeInput, merge_input}
use Rattle.seg_index_build.proofs.MergeOutputs.{first_at}
use Rattle.seg_index_build.specs.MergedIndices.{asked_of_index, indices_input, unfiltered}
use Rattle.seg_index_build.proofs.IndexMergeTurns.{ends_begun, ends_counted, ends_filled, ends_opened}
use Rattle.seg_index_build.proofs.OpenedSources.{sources_of_schema}
use Rattle.seg_index_build.proofs.index_merge.merge_checked.Goals as goal

pub returns-in-Err : goal.returns-in-Err
returns-in-Err g c =
    ends_begun (merge_input c.args.segments.now c.args.settings.now (unfiltered c.args.segments.now) c.args.id)
    (indices_input c.args.indices.now c.args.id) c.requires.is (map asked_of_index c.args.indices.now) c.schema-schema.result.now
    (c.schema-schema.ensures ∙ first_at c.args.segments.now c.index-segments-0.result c.index-segments-0.is c.requires.merged.some)
    (map g.W.Directory.state c.args.sources.now) (g.O.Directory.state c.args.output.now)
    (g.O.Directory.state c.begin_index.new.directory) c.in-Err.e c.in-Err.ensures

pub returns-in-Err-open_indices : goal.returns-in-Err-open_indices
returns-in-Err-open_indices g c =
    ends_opened (merge_input c.args.segments.now c.args.settings.now (unfiltered c.args.segments.now) c.args.id)
    (indices_input c.args.indices.now c.args.id) c.requires.is (map asked_of_index c.args.indices.now) c.schema-schema.result.now
    (c.schema-schema.ensures ∙ first_at c.args.segments.now c.index-segments-0.result c.index-segments-0.is c.requires.merged.some)
    (map g.W.Directory.state c.args.sources.now) (g.O.Directory.state c.args.output.now)
    (g.O.Directory.state c.begin_index.new.directory) c.in-Ok.field-0 c.in-Ok.ensures
    (map g.W.Directory.state c.open_indices.new.sources) c.in-Err-open_indices.e c.in-Err-open_indices.ensures

pub from_readers-requires : goal.from_readers-requires
from_readers-requires g c =
    let m = merge_input c.args.segments.now c.args.settings.now (unfiltered c.args.segments.now) c.args.id in
    let schema_is = c.schema-schema.ensures ∙ first_at c.args.segments.now c.index-segments-0.result c.index-segments-0.is c.requires.merged.some in
    record {
      schema =
          sources_of_schema c.share.result c.args.indices.now (map g.W.Directory.state c.args.sources.now)
          (map g.W.Directory.state c.open_indices.new.sources) c.in-Ok-open_indices.readers.items
          (subst (λ (x : MergeInput). AllByRecursion (λ (s : SegmentParts). s.schema ≡ c.share.result) x.segments) c.requires.is
          (subst (λ (x : Schema). AllByRecursion (λ (s : SegmentParts). s.schema ≡ x) c.args.segments.now) (sym (c.share.ensures ∙ schema_is)) c.requires.merged.of_one))
          c.in-Ok-open_indices.ensures;
    }

pub returns-in-Err-from_readers : goal.returns-in-Err-from_readers
returns-in-Err-from_readers g c =
    ends_counted (merge_input c.args.segments.now c.args.settings.now (unfiltered c.args.segments.now) c.args.id)
    (indices_input c.args.indices.now c.args.id) c.requires.is (map asked_of_index c.args.indices.now) c.schema-schema.result.now
    (c.schema-schema.ensures ∙ first_at c.args.segments.now c.index-segments-0.result c.index-segments-0.is c.requires.merged.some)
    (map g.W.Directory.state c.args.sources.now) (g.O.Directory.state c.args.output.now)
    (g.O.Directory.state c.begin_index.new.directory) c.in-Ok.field-0 c.in-Ok.ensures
    (map g.W.Directory.state c.open_indices.new.sources) c.in-Ok-open_indices.readers.items c.in-Ok-open_indices.ensures
    c.in-Err-from_readers.e c.in-Err-from_readers.ensures.told c.in-Err-from_readers.ensures.err

pub returns : goal.returns
returns g c =
    ends_filled (merge_input c.args.segments.now c.args.settings.now (unfiltered c.args.segments.now) c.args.id)
    (indices_input c.args.indices.now c.args.id) c.requires.is (map asked_of_index c.args.indices.now) c.schema-schema.result.now
    (c.schema-schema.ensures ∙ first_at c.args.segments.now c.index-segments-0.result c.index-segments-0.is c.requires.merged.some)
    (map g.W.Directory.state c.args.sources.now) (g.O.Directory.state c.args.output.now)
    (g.O.Directory.state c.begin_index.new.directory) c.in-Ok.field-0 c.in-Ok.ensures
    (map g.W.Directory.state c.open_indices.new.sources) c.in-Ok-open_indices.readers.items c.in-Ok-open_indices.ensures
    c.in-Ok-from_readers.merger c.share.result c.in-Ok-from_readers.ensures.ok c.in-Ok-from_readers.ensures.told
    (seen_as meta_of c.fill_output.result) (g.O.Directory.state c.fill_output.new.output)
    (c.fill_output.ensures (unfiltered c.args.segments.now))
