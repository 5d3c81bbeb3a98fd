use Rattle.std.proofs.Common.{◌+◌, ap, ◌∙◌, ◌++◌, ◌∷◌, []}
use Rattle.seg_merger.specs.JoinedTerms.{FieldsAreOpen}
use Rattle.seg_open.specs.OpenSegment.{IsMarked}
use Rattle.seg_merger.specs.NewIds.{numbered_from}
use Rattle.seg_merger.proofs.NumberedParts.{parts_fit, part_numbered, all_left}
use Rattle.seg_merger.proofs.numbered_part.number_parts.Goals as goal

pub loop-part-preserved : goal.loop-part-preserved
loop-part-preserved c =
    let parts = c.args.parts.now in
    let i = c.loop-part.part-index in
    let p = c.part-item.result in
    let first = c.loop-part.first in
    let pushed = c.in_ok-push.ensures.items ∙ ap (λ x. c.loop-part.numbered.items ++ x ∷ []) c.in_ok-new.ensures.is in
    record {
      numbered = part_numbered parts i c.loop-part-test.true p c.part-item.is first _ (numbered_from 0 parts) c.loop-part.numbered.items c.push.new.self.items c.loop-part.invariant.numbered pushed (ap (λ n. first + n) c.num_docs.ensures);
      room = parts_fit parts i c.loop-part-test.true p c.part-item.is first 2147483648 _ c.loop-part.invariant.room (ap (λ n. first + n) c.num_docs.ensures);
      marked = λ h. c.loop-part.invariant.marked (all_left parts i c.loop-part-test.true p c.part-item.is IsMarked c.in_ok-new.ensures.marked h);
      fields = λ h. c.loop-part.invariant.fields (all_left parts i c.loop-part-test.true p c.part-item.is FieldsAreOpen c.in_ok-new.ensures.fields h);
    }
