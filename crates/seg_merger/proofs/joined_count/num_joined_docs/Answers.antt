use Rattle.std.proofs.Common.{refl, ap, sym, subst, arith}
use Rattle.std.specs.List.{AllByRecursion}
use Rattle.std.proofs.lemmas.List.{drop_all}
use Rattle.seg_open.specs.OpenSegment.{IsMarked, kept_count}
use Rattle.seg_merger.proofs.KeptCounts.{HasShape, all_first, count_split, joined_few}
use Rattle.seg_merger.proofs.joined_count.num_joined_docs.Goals as goal

pub loop-part-preserved : goal.loop-part-preserved
loop-part-preserved c =
    let parts = c.args.parts.now in
    let i = c.loop-part.part-index in
    let p = c.part-item.result in
    let split = count_split parts i p c.loop-part-test.true c.part-item.is in
    record {
      few = omega (arith, c.if-live-count.false);
      counted = omega (arith, split, c.num_docs-live.ensures, c.loop-part.invariant.counted);
      marked = λ rest. c.loop-part.invariant.marked (all_first IsMarked parts i p c.loop-part-test.true c.part-item.is c.documents_are_marked.ensures rest);
      shape = λ rest. c.loop-part.invariant.shape (all_first HasShape parts i p c.loop-part-test.true c.part-item.is (refl, c.contents_have_full_shape.ensures, c.stored_pairs_are_of_schema.ensures) rest);
    }

pub returns-then-live-count-clause-counted : goal.returns-then-live-count-clause-counted
returns-then-live-count-clause-counted c =
    let split = count_split c.args.parts.now c.loop-part.part-index c.part-item.result c.loop-part-test.true c.part-item.is in
    omega (arith, split, c.num_docs-live.ensures, c.loop-part.invariant.counted, c.if-live-count.true)

pub returns-then-live-count-clause-stored : goal.returns-then-live-count-clause-stored
returns-then-live-count-clause-stored c = joined_few c.args.parts.now

pub returns-clause-counted : goal.returns-clause-counted
returns-clause-counted c =
    let none = ap kept_count (drop_all c.loop-part.part-index c.args.parts.now c.loop-part-test.false) in
    (omega (arith, none, c.loop-part.invariant.counted), c.loop-part.invariant.few)

pub returns-clause-stored : goal.returns-clause-stored
returns-clause-stored c = joined_few c.args.parts.now

pub returns-clause-shape : goal.returns-clause-shape
returns-clause-shape c = c.loop-part.invariant.shape (subst (AllByRecursion HasShape) (sym (drop_all c.loop-part.part-index c.args.parts.now c.loop-part-test.false)) tt)

pub returns-clause-marked : goal.returns-clause-marked
returns-clause-marked c = c.loop-part.invariant.marked (subst (AllByRecursion IsMarked) (sym (drop_all c.loop-part.part-index c.args.parts.now c.loop-part-test.false)) tt)
