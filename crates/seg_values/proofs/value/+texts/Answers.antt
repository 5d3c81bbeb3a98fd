use Rattle.std.proofs.Common.{IsUtf8}
use Rattle.seg_values.specs.declared.value.Member.{Member}
use Rattle.seg_values.specs.Utf8Values.{IsUtf8Tree}
use Rattle.seg_values.specs.ValueTrees.{tree_of}
use Rattle.seg_tokens.proofs.Exports.{all_passed, one_more}
use Rattle.seg_values.proofs.Utf8Trees.{are_utf8_trees, are_utf8_members}
use Rattle.seg_values.proofs.value.+texts.Goals as goal

abbrev IsUtf8Member : Member → Type 0
IsUtf8Member m = IsUtf8 m.key × IsUtf8Tree (tree_of m.value)

pub Members::texts_are_utf8-loop-member-preserved : goal.Members::texts_are_utf8-loop-member-preserved
Members::texts_are_utf8-loop-member-preserved t c =
    (c.loop-member.invariant.0, one_more IsUtf8Member c.deref-member-items.result.now c.loop-member.member-index c.member-item.result c.loop-member-test.true c.member-item.is (c.text_is_utf8.ensures, c.texts_are_utf8.ensures) c.loop-member.invariant.1)

pub Members::texts_are_utf8-returns : goal.Members::texts_are_utf8-returns
Members::texts_are_utf8-returns t c =
    rw (← c.loop-member.invariant.0) (are_utf8_members c.deref-member-items.result.now (all_passed IsUtf8Member c.deref-member-items.result.now c.loop-member.member-index c.loop-member-test.false c.loop-member.invariant.1))

pub Values::texts_are_utf8-returns : goal.Values::texts_are_utf8-returns
Values::texts_are_utf8-returns t c =
    rw (← c.loop-value.invariant.0) (are_utf8_trees c.deref-value-items.result.now (all_passed (λ v. IsUtf8Tree (tree_of v)) c.deref-value-items.result.now c.loop-value.value-index c.loop-value-test.false c.loop-value.invariant.1))
