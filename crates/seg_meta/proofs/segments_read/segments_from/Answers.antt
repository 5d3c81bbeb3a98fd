use Rattle.std.proofs.Common.{ℕ, Bool, nat_eq, ◌+◌, ◌^◌, drop, sym, ◌∙◌, arith}
use Rattle.std.specs.List.{list_any}
use Rattle.serde_json.specs.View.{view, items_view}
use Rattle.seg_meta.specs.ParsedMetaParts.{segment_from}
use Rattle.seg_meta.specs.SavableMetas.{same_id}
use Rattle.seg_meta.proofs.ReadLists.{left-cons, distinct_list-long, distinct_list-again, step}
use Rattle.seg_meta.proofs.SegmentIds.{same_id-sym, known, unknown, one_more}
use Rattle.seg_meta.proofs.segments_read.segments_from.Goals as goal

pub returns-then-len-clause-none : goal.returns-then-len-clause-none
returns-then-len-clause-none c _ = distinct_list-long segment_from same_id (2 ^ 32) _ c.in-Some.items.now.items c.in-Some.ensures (omega arith)

pub returns-then-not-added-clause-none : goal.returns-then-not-added-clause-none
returns-then-not-added-clause-none c _ =
    let left = left-cons c.deref-item-items.result.now c.loop-item.item-index c.item-item.result c.loop-item-test.true c.item-item.is in
    let segment = c.in-Some-segment_from.segment in
    let among : ℕ → Bool = λ q. list_any (λ s. nat_eq s.id q) c.loop-item.segments in
    distinct_list-again segment_from same_id (2 ^ 32) same_id-sym (view c.args.json.now) (view c.item-item.result) c.loop-item.segments
    (items_view (drop (c.loop-item.item-index + 1) c.deref-item-items.result.now)) c.loop-item.item-index segment (rw left at c.loop-item.invariant.read) (sym c.in-Some-segment_from.ensures)
    (known c.in-Ok.added _ among c.as_u128.result segment.id c.in-Ok.ensures.added (c.loop-item.invariant.ids c.as_u128.result) (c.as_u128.ensures ∙ c.id.ensures) c.if-not-added.true)

pub loop-item-preserved : goal.loop-item-preserved
loop-item-preserved c =
    let left = left-cons c.deref-item-items.result.now c.loop-item.item-index c.item-item.result c.loop-item-test.true c.item-item.is in
    let segment = c.in-Some-segment_from.segment in
    let among : ℕ → Bool = λ q. list_any (λ s. nat_eq s.id q) c.loop-item.segments in
    let more = c.in_ok-push.ensures.ok in
    record {
      read = step segment_from same_id same_id-sym (view c.args.json.now) (view c.item-item.result) c.loop-item.segments c.push.new.self
          (items_view (drop (c.loop-item.item-index + 1) c.deref-item-items.result.now)) c.loop-item.item-index segment (rw left at c.loop-item.invariant.read) (sym c.in-Some-segment_from.ensures) more
          (unknown c.in-Ok.added _ among c.as_u128.result segment.id c.in-Ok.ensures.added (c.loop-item.invariant.ids c.as_u128.result) (c.as_u128.ensures ∙ c.id.ensures) c.if-not-added.false);
      ids = λ q. one_more c.as_u128.result q segment c.loop-item.segments c.push.new.self _ _ (sym (c.as_u128.ensures ∙ c.id.ensures)) more (c.in-Ok.ensures.updates.0 q) (c.loop-item.invariant.ids q);
    }
