use Rattle.std.proofs.Common.{◌∙◌, ap, map}
use Rattle.std.proofs.lemmas.Result.{MatchResult-weaker}
use Rattle.seg_column_merge.specs.MergedColumns.{required_key}
use Rattle.seg_open.specs.OpenSegment.{part_of}
use Rattle.seg_merger.proofs.JoinedColumns.{alive_rows, fails, few_rows, has_joined, have_columns, may_merge}
use Rattle.seg_merger.proofs.joined_columns.join_columns.Goals as goal

pub live_order-requires : goal.live_order-requires
live_order-requires c = c.in-Ok.ensures.own

pub merge_columnar-requires : goal.merge_columnar-requires
merge_columnar-requires c =
    let schema = c.args.schema.now in
    let parts = c.args.parts.now in
    let have = have_columns schema parts c.requires.parts c.in-Ok.ensures.own in
    may_merge schema parts _ _ _
    (ap (map required_key) c.as_slice-2.ensures.value ∙ c.in-Ok-declared_columns.ensures)
    (c.as_slice.ensures.value ∙ c.in-Ok.ensures.are)
    (alive_rows parts _ _ (c.as_slice.ensures.value ∙ c.in-Ok.ensures.are) c.in-Ok-live_order.ensures)
    (c.live_columns_join.ensures.can schema _ (map part_of parts) c.fields_are_valid.ensures have (few_rows parts c.requires.few))

pub returns : goal.returns
returns c =
    let schema = c.args.schema.now in
    let parts = c.args.parts.now in
    let have = have_columns schema parts c.requires.parts c.in-Ok.ensures.own in
    let declared = ap (map required_key) c.as_slice-2.ensures.value ∙ c.in-Ok-declared_columns.ensures in
    let read = c.as_slice.ensures.value ∙ c.in-Ok.ensures.are in
    let alive = alive_rows parts _ _ read c.in-Ok-live_order.ensures in
    let law = c.live_columns_join.ensures.columns schema _ (map part_of parts) have in
    MatchResult-weaker c.merge_columnar.result c.merge_columnar.ensures
    (λ file merged. has_joined schema parts _ _ _ declared read alive law file.items merged)
    (λ error told. fails schema parts _ _ _ declared read alive law error told)
