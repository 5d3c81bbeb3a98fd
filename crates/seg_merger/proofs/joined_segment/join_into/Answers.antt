use Rattle.std.proofs.Common.{◌∙◌, ap, arith, length, map, subst, sym}
use Rattle.std.specs.Prelude.{IsSomeAnd}
use Rattle.std.specs.List.{AllByRecursion}
use Rattle.seg_meta.specs.Metas.{SegmentParts}
use Rattle.seg_model.specs.Fields.{Schema}
use Rattle.seg_segment.specs.SegmentSerializers.{Serializing}
use Rattle.seg_column_merge.specs.MergedColumns.{MergeFails}
use Rattle.seg_model.specs.Join.{joined_columns}
use Rattle.seg_open.specs.OpenSegment.{IsOfSchema, part_of}
use Rattle.seg_merger.specs.JoinedColumns.{HasJoinedColumns}
use Rattle.seg_merger.specs.JoinedSegment.{HoldJoined, HoldsJoinedNorms}
use Rattle.seg_merger.specs.JoinedStore.{joined_documents}
use Rattle.seg_merger.proofs.KeptCounts.{joined_few}
use Rattle.seg_merger.proofs.MergedFiles.{is_joined}
use Rattle.seg_merger.proofs.JoinedStores.{fresh_fits}
use Rattle.seg_merger.proofs.joined_segment.join_into.Goals as goal

pub join_stores-requires : goal.join_stores-requires
join_stores-requires c =
    let parts = c.args.parts.now in
    let few = joined_few parts in
    record {
      limit = fresh_fits 2147483648 (length (joined_documents parts)) c.requires.fresh.0 c.into_store-segment.result.1
          (c.into_store-segment.ensures.1 ∙ ap (λ (s : Serializing). s.store) c.requires.fresh.1) (omega (arith, few, c.requires.few));
    }

pub join_columns-requires : goal.join_columns-requires
join_columns-requires c = record {
  parts = subst (λ (s : Schema). AllByRecursion (IsOfSchema s) c.args.parts.now) (sym (c.schema-2.ensures ∙ ap (λ (s : SegmentParts). s.schema) c.into_store-segment.ensures.0)) c.requires.parts;
  few = c.requires.few;
}

pub returns-clause-ok : goal.returns-clause-ok
returns-clause-ok c block_size fresh =
    let parts = c.args.parts.now in
    let given = c.args.serializer in
    let of = ap (λ (s : SegmentParts). s.schema) c.into_store-segment.ensures.0 in
    is_joined given parts block_size fresh c.into_store-segment.result.0 c.in-Ok-join_terms.postings c.into_store-segment.result.1 c.join_stores.new.writer
    c.in-Ok-join_columns.fast.items c.in-Ok.norms.items c.into_store-segment.ensures.0 c.into_store-segment.ensures.1
    (subst (λ (s : Schema). IsSomeAnd c.in-Ok-join_terms.postings (HoldJoined s parts)) (c.schema-3.ensures ∙ of) c.in-Ok-join_terms.ensures)
    c.in-Ok-join_stores.ensures.ok c.in-Ok-join_stores.ensures.documents
    (subst (λ (s : Schema). HasJoinedColumns s parts c.in-Ok-join_columns.fast.items) (c.schema-2.ensures ∙ of) c.in-Ok-join_columns.ensures)
    (subst (λ (s : Schema). HoldsJoinedNorms s parts c.in-Ok.norms.items) (c.schema.ensures ∙ of) c.in-Ok.ensures)
    c.from_parts.result c.from_parts.ensures

pub returns-in-Err-clause-err : goal.returns-in-Err-clause-err
returns-in-Err-clause-err c =
    subst (λ (s : Schema). MergeFails (joined_columns s (map part_of c.args.parts.now)) c.in-Err.error)
    (c.schema-2.ensures ∙ ap (λ (s : SegmentParts). s.schema) c.into_store-segment.ensures.0) c.in-Err.ensures
