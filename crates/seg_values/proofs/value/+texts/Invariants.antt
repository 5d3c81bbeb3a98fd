use Rattle.std.proofs.Common.{◌≡◌, ◌<◌, ℕ, get_or, map, IsUtf8}
use Rattle.seg_values.specs.declared.value.Member.{Member}
use Rattle.seg_values.specs.declared.value.OwnedValue.{OwnedValue}
use Rattle.seg_values.specs.Utf8Values.{IsUtf8Tree}
use Rattle.seg_values.specs.ValueTrees.{tree_of, member_of}
use Rattle.seg_values.proofs.value.+texts.Given as goal

-- the texts that were passed
abbrev pub invariant-Members::texts_are_utf8-loop-member : goal.invariant-Members::texts_are_utf8-loop-member
invariant-Members::texts_are_utf8-loop-member l =
    (map member_of l.member-items ≡ l.self) × ((k : ℕ) (d : Member) → k < l.member-index → IsUtf8 (get_or l.member-items k d).key × IsUtf8Tree (tree_of (get_or l.member-items k d).value))

abbrev pub invariant-Values::texts_are_utf8-loop-value : goal.invariant-Values::texts_are_utf8-loop-value
invariant-Values::texts_are_utf8-loop-value l = (map tree_of l.value-items ≡ l.self) × ((k : ℕ) (d : OwnedValue) → k < l.value-index → IsUtf8Tree (tree_of (get_or l.value-items k d)))
